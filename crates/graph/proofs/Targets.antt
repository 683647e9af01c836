-- Targets, continued from specs/Targets: theorems that rest on others.
use Rattle.std.specs.Prelude.{◌≡◌, true, false, ◌&&◌, List, [], ◌≢◌}
use Prim.Native.Nat.{ℕ, ◌-◌, ◌<◌}
use native.Mathlib.Omega.{arith}
use Rattle.std.proofs.Math.Decide.{ℕ_discrete, dec_lt}
use Rattle.std.proofs.Math.Dec.{eqb, ltb}
use borrow.Author.Tests.{ltb-false, lt-ltb, ne_eqb}
use Rattle.model.specs.Function.{nblocks, nitems, start, stop, op, arg}
use Rattle.model.specs.Block.{targets, incoming, is_join_point, returns}
use Rattle.model.specs.Body.{frame}
use Rattle.base.specs.Tests.{or_left, or_right, clash}
use Rattle.base.specs.Below.{count_room, count_two}
use Rattle.base.specs.Collected.{collect_none}
use Rattle.base.specs.Function.{target_known, FunctionFacts}
use Rattle.solver.specs.Laws.{Edges}
use Rattle.graph.specs.Ranges.{Holds, holds_same}
use Rattle.graph.specs.Enders.{last_holds}
use Rattle.graph.proofs.Enders.{last_op, ender_on}
use Rattle.graph.specs.Targets.{Aims, aims_item, aims_passes, target_aims}

module _ {fn : List ℕ} (A : FunctionFacts fn) where
  -- a block whose last item is no target has none
  pub targets_none : {b : ℕ} → b < nblocks fn → op fn (stop fn b - 1) ≢ 10 → targets fn b ≡ []
  unfolding targets
  targets_none {b} l d = rw (lt-ltb b (nblocks fn) l, targets) (collect_none (λ i. eqb (op fn i) 10) (λ i. (i, arg fn i)) (stop fn b - start fn b) (start fn b)
      (λ i u v. ne_eqb (op fn i) 10 (λ e.
      let k = last_holds A l in
      elim (dec_lt i (stop fn b - 1)) [
        | yes w ↦
            let h : Holds fn b i = record { block = l; low = u; high = omega arith } in
            d (omega (arith, (last_op A l).0, (ender_on A h (omega arith) k w).1))
        | no w ↦ let q : i ≡ stop fn b - 1 = omega (arith, A.starts _ l) in d (rw q at e)
      ])))

  -- a block that returns has none
  pub returns_none : {b : ℕ} → b < nblocks fn → returns fn b ≡ true → targets fn b ≡ []
  unfolding returns
  returns_none {b} l e = targets_none l (λ d. clash (cc))

  -- it names a block
  pub target_below : {b i c : ℕ} → Aims fn b i c → c < nblocks fn
  target_below {i} a = rw a.names at (target_known A i (aims_item A a) a.code)

  -- one that no other block or item joins
  pub aims_alone : {b d i j c : ℕ} → is_join_point fn c ≡ false → Aims fn b i c → Aims fn d j c → (b ≡ d) × (i ≡ j)
  unfolding is_join_point incoming
  aims_alone {b} {d} {i} {j} {c} e a f =
      let few = ltb-false 1 (incoming fn c) (or_left (ltb 1 (incoming fn c)) (eqb c 0 && ltb 0 (incoming fn c)) e) in
      let q : i ≡ j = elim (ℕ_discrete i j) [
        | yes p ↦ p
        | no p ↦ absurd (omega (arith, count_two (λ i. eqb (op fn i) 10 && eqb (arg fn i) c) i j (nitems fn) (aims_item A a) (aims_item A f) p (aims_passes A a) (aims_passes A f)))
      ] in
      (holds_same A a.holds (rw q f.holds), q)

  -- none leads back to a start block that is no join point
  pub none_aims : {b i : ℕ} → is_join_point fn 0 ≡ false → Aims fn b i 0 → ⊥
  unfolding is_join_point incoming
  none_aims {i} e a =
      let none = ltb-false 0 (incoming fn 0) (or_right (ltb 1 (incoming fn 0)) (ltb 0 (incoming fn 0)) e) in
      omega (arith, count_room (λ i. eqb (op fn i) 10 && eqb (arg fn i) 0) i (nitems fn) (aims_item A a) (aims_passes A a))

  -- THE GRAPH
  pub frame_edges : (Γ : List ℕ) → Edges (frame Γ fn)
  unfolding frame
  frame_edges Γ = record {
    some_block = A.some_blocks;
    below = λ {b} h. target_below (target_aims fn b h);
    one_way = λ {b} {d} e h k. aims_alone e (target_aims fn b h) (target_aims fn d k);
    none_back = λ {b} e h. none_aims e (target_aims fn b h);
  }
