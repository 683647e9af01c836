-- `mir::check_function::ranks_ok` meets its contract. The loop has tested every block below b, and seen marks their ranks. Assumes nothing.
use mathlib.Core.Path.{◌≡◌, refl, ◌∙◌, sym, ap}
use mathlib.Core.Bool.{Bool, true, false, not, ◌&&◌}
use mathlib.Core.List.{List}
use Prim.Native.Nat.{ℕ, ◌+◌, ◌≤◌, ◌<◌}
use native.Mathlib.Numerals.{add-one}
use native.Mathlib.Decide.{ℕ_discrete}
use native.Mathlib.Omega.{arith}
use lib.Dec.{eqb}
use lib.ListN.{length, get_or, set, get_or-replicate, length-set}
use lib.Seq.{get_or-set_same, get_or-set_other}
use borrow.Author.Tests.{lt-ltb, le-ltb, eq-eqb, ne_eqb}
use Rattle.model.specs.Words.{all}
use Rattle.model.specs.Function.{nblocks, rank, ranks_ok}
use Rattle.base.specs.Below.{all_fails}
use Rattle.base.specs.Tests.{split}
use Rattle.type_record.proofs.Turns.{all_none, all_next, all_done}
use Rattle.mir.proofs.check_function.ranks_ok.Invariants.{Marks, ranked, unseen}
use Rattle.mir.proofs.check_function.ranks_ok.Goals as goal

-- every block's is
ranks_are : (fn : List ℕ) → ranks_ok fn ≡ all (ranked fn) (nblocks fn)
unfolding ranks_ok ranked unseen
ranks_are fn = refl

module _ (fn : List ℕ) (b : ℕ) where
  ranked_past : nblocks fn ≤ rank fn b → ranked fn b ≡ false
  unfolding ranked
  ranked_past h = rw (le-ltb (rank fn b) (nblocks fn) h)

  ranked_fresh : rank fn b < nblocks fn → ranked fn b ≡ unseen fn b (rank fn b)
  unfolding ranked
  ranked_fresh h = rw (lt-ltb (rank fn b) (nblocks fn) h)

  -- one more block
  unseen_next : (r : ℕ) → unseen fn (b + 1) r ≡ unseen fn b r && not (eqb (rank fn b) r)
  unfolding unseen all
  unseen_next r = rw (add-one b)

  -- its rank is marked
  marks_next : (seen : List Bool) → length seen ≡ 256 → rank fn b < 256 → Marks fn b seen → Marks fn (b + 1) (set seen (rank fn b) true)
  marks_next seen n k m r h =
      elim (ℕ_discrete r (rank fn b)) [
        | yes e ↦
            let gone : not (get_or (set seen (rank fn b) true) r false) ≡ false =
            ap (λ (j : ℕ). not (get_or (set seen (rank fn b) true) j false)) e ∙ ap not (get_or-set_same seen (rank fn b) true false (omega arith)) in
            gone ∙ sym (unseen_next r ∙ rw (eq-eqb (rank fn b) r (sym e)) (split (unseen fn b r) (λ d. rw d) (λ d. rw d)))
        | no e ↦
            ap not (get_or-set_other seen (rank fn b) r true false e)
            ∙ m r h
            ∙ sym (unseen_next r ∙ rw (ne_eqb (rank fn b) r (λ d. e (sym d))) (split (unseen fn b r) (λ d. rw d) (λ d. rw d)))
      ]

  -- the mark of its rank, one of 256, says whether that was seen
  met : (r : ℕ) (seen : List Bool) {x : Bool} → Marks fn b seen → r ≡ rank fn b → r < 256 → r < nblocks fn → get_or seen r false ≡ x → ranked fn b ≡ not x
  met r seen m e k h d = ranked_fresh (omega arith) ∙ sym (ap (unseen fn b) e) ∙ sym (m r k) ∙ ap not d

pub loop-b-init : goal.loop-b-init
unfolding unseen all
loop-b-init c = (refl, all_none (ranked c.args.fun.now.words.now), λ r h. ap not (get_or-replicate 256 r false false h))

pub returns-then-n-r : goal.returns-then-n-r
returns-then-n-r c =
    let fn = c.args.fun.now.words.now in
    sym (ranks_are fn ∙ all_fails (ranked fn) (nblocks fn) c.loop-b.b (omega arith) (ranked_past fn c.loop-b.b (omega arith)))

pub returns-then-seen-r : goal.returns-then-seen-r
returns-then-seen-r c =
    let fn = c.args.fun.now.words.now in
    sym (ranks_are fn ∙ all_fails (ranked fn) (nblocks fn) c.loop-b.b (omega arith) (met fn _ _ c.loop-b.seen c.loop-b.invariant.2 c.rank_of-r.ensures (omega (arith, c.args.fun.now.laid.most_blocks)) (omega arith) c.if-seen-r.true))

pub loop-b-preserved : goal.loop-b-preserved
loop-b-preserved c =
    let fn = c.args.fun.now.words.now in
    let i = c.loop-b.invariant in
    let e = c.rank_of-r.ensures in (
      length-set c.loop-b.seen c.rank_of-r.result true ∙ i.0,
      all_next (ranked fn) _ i.1 (met fn _ _ c.loop-b.seen i.2 e (omega (arith, c.args.fun.now.laid.most_blocks)) (omega arith) c.if-seen-r.false),
      rw e (marks_next fn c.loop-b.b c.loop-b.seen i.0 (omega (arith, c.args.fun.now.laid.most_blocks, e)) i.2),
    )

pub returns : goal.returns
returns c =
    let fn = c.args.fun.now.words.now in
    all_done (ranked fn) (nblocks fn) c.loop-b.b (omega arith) c.loop-b.invariant.1 ∙ sym (ranks_are fn)
