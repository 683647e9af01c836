-- `fold_unfold::run::turn` meets its contract: the share of the popped block is loaded, and the block entered.
use mathlib.Core.Path.{◌≡◌, refl, ap, ◌∙◌, subst}
use mathlib.Core.List.{List}
use mathlib.Core.Option.{some}
use Prim.Native.Nat.{ℕ, suc, ◌+◌, ◌*◌, ◌-◌, ◌<◌}
use native.Mathlib.Omega.{arith}
use lib.ListN.{take, drop}
use Rattle.model.specs.Words.{word}
use Rattle.model.specs.Answer.{refused}
use Rattle.model.specs.Tree.{Forest}
use Rattle.model.specs.Function.{nblocks, local_types}
use Rattle.blocks.proofs.Spots.{formed_accepted}
use Rattle.arrival.specs.Memory.{Memory, enters}
use Rattle.arrival.specs.Shares.{kept_in, arrays_in, Arrays, Remembers}
use Rattle.arrival.proofs.Memo.{parts_long}
use Rattle.fold_unfold.specs.Runs.{visiting}
use Rattle.visit.proofs.Entering.{visits_later}
use Rattle.fold_unfold.proofs.Changed.{remembers_visited, alike_visited}
use Rattle.fold_unfold.proofs.Loaded.{Placed, Loads, stored_placed, placed_loads, stored_come}
use Rattle.fold_unfold.proofs.run.turn.Goals as goal
use Rattle.fold_unfold.proofs.run.turn.Goals.{After-stored-k}

-- the arrays as they were lent
abbrev lent : After-stored-k → Arrays
lent c = let a = c.args in arrays_in a.memo.now a.waits.now a.forms.now a.whats.now

-- the share of the stored state
placed : (c : After-stored-k) → Placed c.args.fun.now.types.words.now c.args.fun.now.record.words.now c.args.points.now (lent c) c.args.b c.requires.stored.state
placed c = let H = c.requires.stored in stored_placed c.requires.shared H.is c.args.b H.below H.there

-- the count of the share, as it was before the visit
count : (c : After-stored-k) → c.stored-k.result ≡ word (kept_in c.args.memo.now) c.args.b
count c = c.stored-k.ensures ∙ ap (λ (l : List ℕ). word l c.args.b) c.set_visited.ensures.kept

-- its arrays and its count have the state S
abbrev Reads : After-stored-k → Forest → Type 0
Reads c S =
    let a = c.args in
    let e = 512 * (word a.points.now a.b - 1) in
    Loads a.fun.now.types.words.now (local_types a.fun.now.record.words.now) (take (e + 512 - e) (drop e a.forms.now)) (take (e + 512 - e) (drop e a.whats.now)) c.stored-k.result S

-- it is so by any memory that the arrays have
loads : (c : After-stored-k) {m : Memory} {S : Forest} → let a = c.args in Remembers a.fun.now.types.words.now a.fun.now.record.words.now m (lent c) → m.kept a.b ≡ some S → Reads c S
loads c R e = placed_loads (stored_placed c.requires.shared R c.args.b c.requires.stored.below e) _ _ refl (count c)

-- and there is one
reads : (c : After-stored-k) → Reads c c.requires.stored.state
reads c = let H = c.requires.stored in loads c H.is H.there

pub set_visited-requires : goal.set_visited-requires
set_visited-requires c =
    let H = c.requires.stored in
    (omega (arith, H.below, c.args.fun.now.accepted.formed.laid.most_blocks), parts_long c.args.memo.now H.is.long.kept H.is.long.visited)

pub stored-k-requires : goal.stored-k-requires
stored-k-requires c =
    let H = c.requires.stored in
    let l = parts_long c.args.memo.now H.is.long.kept H.is.long.visited in
    (omega (arith, H.below, c.args.fun.now.accepted.formed.laid.most_blocks), omega (arith, l, c.set_visited.ensures.same))

pub overflow_sub-a : goal.overflow_sub-a
overflow_sub-a c = let P = placed c in omega arith

pub slice_bounds-load_state-end : goal.slice_bounds-load_state-end
slice_bounds-load_state-end c = let P = placed c in omega arith

pub slice_bounds-load_state-end-2 : goal.slice_bounds-load_state-end-2
slice_bounds-load_state-end-2 c = let P = placed (goal.at.slice_bounds-load_state-end-2 c).After-stored-k in omega arith

pub overflow_sub-k : goal.overflow_sub-k
overflow_sub-k c = (reads (goal.at.overflow_sub-k c).After-stored-k).some_nodes

pub load_state-s-requires : goal.load_state-s-requires
load_state-s-requires c = (reads (goal.at.load_state-s-requires c).After-stored-k).fits

pub basic_block-requires-clause-ongoing : goal.basic_block-requires-clause-ongoing
basic_block-requires-clause-ongoing c =
    let a = c.args in
    let p = c.requires in
    let H = p.stored in
    let k = (goal.at.basic_block-requires-clause-ongoing c).After-stored-k in
    let n : suc (c.nblocks.result - 1) ≡ nblocks a.fun.now.record.words.now = omega (arith, c.nblocks.ensures, c.args.fun.now.accepted.formed.laid.some_blocks) in
    record {
      memory = visiting a.b H.memory;
      is = remembers_visited c.set_visited.ensures (omega (arith, H.below, c.args.fun.now.accepted.formed.laid.most_blocks)) H.is;
      spoken = H.spoken;
      state = H.state;
      holds = (reads k).loads _ c.load_state-s.ensures;
      goes = λ d. H.goes (subst (λ (i : ℕ). enters a.fun.now.types.words.now a.fun.now.record.words.now a.o.recording i a.b H.state (visiting a.b H.memory) ≡ refused 0) n d);
    }

pub basic_block-requires-clause-come : goal.basic_block-requires-clause-come
basic_block-requires-clause-come c =
    let p = c.requires in
    let H = p.stored in
    stored_come p.shared H.is c.args.b H.below H.there (formed_accepted c.args.fun.now.accepted.formed) c.nblocks.ensures

pub returns : goal.returns
returns c =
    let a = c.args in
    let p = c.requires in
    let k = (goal.at.returns c).After-stored-k in
    let W = c.set_visited.ensures in
    λ m S R e w.
    let n : suc (c.nblocks.result - 1) ≡ nblocks a.fun.now.record.words.now = omega (arith, c.nblocks.ensures, c.args.fun.now.accepted.formed.laid.some_blocks) in
    let l : a.b < 256 = omega (arith, p.stored.below, c.args.fun.now.accepted.formed.laid.most_blocks) in
    visits_later (alike_visited W) refl
    (rw n at (c.basic_block.ensures (visiting a.b m) S (remembers_visited W l R) w ((loads k R e).loads _ c.load_state-s.ensures)))
