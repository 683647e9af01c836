-- `state::nodes::local_at` meets its contract. The loop's invariant: i is behind the trees of the locals passed, whichever trees stand there.
-- Assumes nothing.
use borrow.Author.Rules.{rules}
use mathlib.Core.Path.{◌≡◌, ◌∙◌, ap}
use mathlib.Core.List.{List}
use Prim.Native.Nat.{ℕ, ◌≤◌, ◌<◌}
use native.Mathlib.Omega.{arith}
use lib.ListN.{length, take, get_or}
use lib.Seq.{get_or-take, length-take-le}
use Rattle.model.specs.Tree.{sizes}
use Rattle.model.specs.Walk.{pick}
use Rattle.model.specs.Collect.{firsts}
use Rattle.base.specs.Typed.{locals_typed}
use Rattle.state.proofs.Locals.{local_coded, local_next}
use Rattle.state.proofs.nodes.local_at.Goals as goal

-- of the first l types the one at k
module _ (ts : List ℕ) (l : ℕ) (m : l ≤ length ts) (k : ℕ) (h : k < length (take l ts)) where
  among : k < length ts
  among = omega (arith, length-take-le l ts m)

  word : get_or (take l ts) k 0 ≡ get_or ts k 0
  word = get_or-take l ts k 0 (omega (arith, length-take-le l ts m))

pub loop-t-init : goal.loop-t-init
unfolding sizes
loop-t-init c = λ E h. search rules

pub node_end-i-requires-clause-t_bound : goal.node_end-i-requires-clause-t_bound
node_end-i-requires-clause-t_bound c =
    let a = c.args in
    let k = c.loop-t.t-index in
    let l = c.loop-t-test.true in
    let m = c.requires.l_in_bounds in
    rw (word a.locals.now a.l m k l) ((locals_typed a.types.now.words.now a.locals.now c.requires.locals_value).below k (among a.locals.now a.l m k l))

pub node_end-i-requires-clause-here : goal.node_end-i-requires-clause-here
node_end-i-requires-clause-here c =
    let a = c.args in
    let L = c.loop-t in
    let l = c.loop-t-test.true in
    let m = c.requires.l_in_bounds in
    let H = c.requires.heres in
    record {
      tree = pick L.t-index H.trees;
      coded = rw (word a.locals.now a.l m L.t-index l) (local_coded H.coded L.t-index L.i (among a.locals.now a.l m L.t-index l) (L.invariant H.trees H.coded));
    }

pub loop-t-preserved : goal.loop-t-preserved
loop-t-preserved c =
    let a = c.args in
    let L = c.loop-t in
    let l = c.loop-t-test.true in
    let m = c.requires.l_in_bounds in
    λ E h.
    let e = L.invariant E h in
    let n = among a.locals.now a.l m L.t-index l in
    c.node_end-i.ensures (pick L.t-index E) (rw (word a.locals.now a.l m L.t-index l) (local_coded h L.t-index L.i n e)) ∙ local_next h L.t-index L.i n e

pub returns : goal.returns
returns c =
    let a = c.args in
    let L = c.loop-t in
    let e : L.t-index ≡ a.l = omega (arith, length-take-le a.l a.locals.now c.requires.l_in_bounds) in
    λ E h. L.invariant E h ∙ ap (λ (k : ℕ). sizes (firsts k E)) e
