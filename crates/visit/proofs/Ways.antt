-- The way of a visit goes on from a block to one that it enters: no block comes twice on it, so the blocks not entered are fewer, and
-- there was one. Assumes nothing.
use mathlib.Core.Path.{◌≡◌, refl}
use mathlib.Core.Bool.{Bool, true, false}
use mathlib.Core.List.{List, [], ◌∷◌}
use Prim.Native.Nat.{ℕ, zero, suc, ◌+◌, ◌-◌, ◌≤◌, ◌<◌}
use native.Mathlib.Decide.{ℕ_discrete}
use native.Mathlib.Omega.{arith}
use lib.Dec.{eqb}
use borrow.Author.Tests.{lt-ltb, eq-eqb}
use Rattle.model.specs.Words.{collect_from}
use Rattle.model.specs.Rounds.{elem}
use Rattle.model.specs.Function.{nblocks, nitems, start, stop, op, arg}
use Rattle.model.specs.Block.{targets, is_join_point}
use Rattle.model.specs.Body.{frame}
use Rattle.base.specs.Tests.{split}
use Rattle.base.specs.Collected.{collect_pass, collect_fail}
use Rattle.base.specs.Function.{FunctionFacts, stop_inside, target_known}
use Rattle.solver.specs.Lists.{Has, here, later, once_head, left_fall, left_most}
use Rattle.solver.specs.Fuel.{Root, way_root, way_on, way_once, root_below}
use Rattle.graph.specs.Ranges.{Holds}
use Rattle.graph.proofs.Targets.{frame_edges}
use Rattle.visit.specs.Ways.{Come, Leaps}
use Rattle.visit.specs.declared.block.Way.{Way}
use Rattle.arrival.specs.declared.jump.Jump.{Jump}

-- what passes is collected
collect_has : {A : Type 0} (p : ℕ → Bool) (f : ℕ → A) (n i j : ℕ) → i ≤ j → j < i + n → p j ≡ true → Has (f j) (collect_from p f n i)
collect_has p f zero i j l h e = absurd (omega arith)
collect_has p f (suc n) i j l h e = elim (ℕ_discrete i j) [
  | yes d ↦ rw (collect_pass p f n i (rw d e), d) here
  | no d ↦ split (p i)
      (λ q. rw (collect_pass p f n i q) (later (collect_has p f n (suc i) j (omega arith) (omega arith) e)))
      (λ q. rw (collect_fail p f n i q) (collect_has p f n (suc i) j (omega arith) (omega arith) e))
]

module _ {Γ fn : List ℕ} (A : FunctionFacts fn) where
  -- a block is left by a target item of it
  pub come_leaps : {w : Way} {i : ℕ} → Come Γ fn w → Holds fn w.block i → op fn i ≡ 10 → Leaps Γ fn (record { item = i; entry = false; block = arg fn i; left = w.left })
  unfolding targets
  come_leaps {w} {i} C h e =
      let b = w.block in
      let l : i < nitems fn = omega (arith, h.high, stop_inside A b) in
      record {
        item = l;
        known = target_known A i l e;
        from = b;
        before = C.before;
        way = C.way;
        aims = rw (lt-ltb b (nblocks fn) C.known, targets) (collect_has (λ k. eqb (op fn k) 10) (λ k. (k, arg fn k)) (stop fn b - start fn b) (start fn b) i h.low (omega (arith, h.low, h.high)) (eq-eqb (op fn i) 10 e));
        rest = C.rest;
      }

  -- a block that is no join point is entered
  pub leaps_come : {j : Jump} → Leaps Γ fn j → is_join_point fn j.block ≡ false → (0 < j.left) × Come Γ fn (record { block = j.block; left = j.left - 1 })
  unfolding frame
  leaps_come {j} L e =
      let W = way_on L.way L.aims e in
      let f = left_fall (nblocks fn) j.block (L.from ∷ L.before) L.known (once_head (way_once (frame Γ fn) (frame_edges A Γ) W)) in
      (omega (arith, L.rest), record { known = L.known; before = L.from ∷ L.before; way = W; rest = omega (arith, L.rest) })

  -- a visit begins
  pub root_come : {b : ℕ} → Root (frame Γ fn) b → Come Γ fn (record { block = b; left = nblocks fn - 1 })
  unfolding elem frame
  root_come {b} r =
      let l = root_below (frame Γ fn) (frame_edges A Γ) r in
      let f = left_fall (nblocks fn) b [] l refl in
      record { known = l; before = []; way = way_root r; rest = omega (arith, f, left_most (nblocks fn) []) }
