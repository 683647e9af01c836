-- `fold_unfold::run::invert` meets its contract. The loop's invariant: the ranks of the blocks before b have their blocks.
use mathlib.Core.Path.{sym, ap, ◌∙◌}
use mathlib.Core.List.{List}
use Prim.Native.Nat.{ℕ, ◌+◌, ◌≤◌, ◌<◌}
use native.Mathlib.Decide.{ℕ_discrete}
use native.Mathlib.Omega.{arith}
use lib.ListN.{length, set}
use lib.Seq.{get_or-set_same, get_or-set_other}
use Rattle.model.specs.Words.{word}
use Rattle.model.specs.Function.{rank}
use Rattle.blocks.proofs.Spots.{formed_accepted}
use Rattle.queue.specs.Waiting.{Ranking}
use Rattle.queue.proofs.Waiting.{facts_ranking}
use Rattle.fold_unfold.proofs.run.invert.Invariants.{Named}
use Rattle.fold_unfold.proofs.run.invert.Goals as goal

-- one more
named_next : (r : ℕ → ℕ) (n : ℕ) (blocks : List ℕ) (b : ℕ) → Ranking r n → b < n → n ≤ length blocks → Named r blocks b → Named r (set blocks (r b) b) (b + 1)
named_next r n blocks b R l h N c k = elim (ℕ_discrete c b) [
  | yes e ↦ ap (λ (x : ℕ). word (set blocks (r b) b) (r x)) e ∙ get_or-set_same blocks (r b) b 0 (omega (arith, R.below b l)) ∙ sym e
  | no d ↦
      let m : c < b = omega arith in
      get_or-set_other blocks (r b) (r c) b 0 (λ e. d (R.once c b (omega arith) l e)) ∙ N c m
]

pub loop-b-init : goal.loop-b-init
loop-b-init c = λ d l. absurd (omega arith)

pub offset_bounds-blocks-rank_of : goal.offset_bounds-blocks-rank_of
offset_bounds-blocks-rank_of c =
    let R = facts_ranking (formed_accepted c.requires.formed) in
    record { fits = omega (arith, c.rank_of.ensures, R.few, R.below c.loop-b.b (omega (arith, c.nblocks-b-end.ensures))) }

pub bounds-blocks-rank_of : goal.bounds-blocks-rank_of
bounds-blocks-rank_of c =
    let R = facts_ranking (formed_accepted c.requires.formed) in
    omega (arith, c.rank_of.ensures, R.few, R.below c.loop-b.b (omega (arith, c.nblocks-b-end.ensures)), c.requires.in_bounds)

pub overflow_cast-blocks : goal.overflow_cast-blocks
overflow_cast-blocks c =
    let R = facts_ranking (formed_accepted c.requires.formed) in
    record { fits = omega (arith, c.nblocks-b-end.ensures, R.few) }

pub loop-b-preserved : goal.loop-b-preserved
loop-b-preserved c =
    let R = facts_ranking (formed_accepted c.requires.formed) in
    let n = c.nblocks-b-end.ensures in
    rw c.rank_of.ensures (named_next (rank c.args.fun.now.words.now) _ c.loop-b.blocks c.loop-b.b R (omega (arith, n)) (omega (arith, R.few, c.requires.in_bounds)) c.loop-b.invariant)

pub returns : goal.returns
returns c =
    let R = facts_ranking (formed_accepted c.requires.formed) in
    record {
      long = omega (arith, R.few, c.requires.in_bounds);
      block = λ d l. c.loop-b.invariant d (omega (arith, c.nblocks-b-end.ensures));
    }
