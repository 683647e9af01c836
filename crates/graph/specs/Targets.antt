-- The target items of a block: where they stand and what they name. The graph of an accepted function: targets name blocks, a block
-- that is no join point has at most one incoming target item, and the start block then none. A block that returns has no target.
use Rattle.std.specs.Prelude.{◌≡◌, true, ◌&&◌, List, map}
use Rattle.std.proofs.Math.Path.{refl}
use Prim.Native.Nat.{ℕ, ◌-◌, ◌<◌}
use native.Mathlib.Omega.{arith}
use Rattle.std.proofs.Math.Dec.{eqb, ltb}
use borrow.Author.Tests.{ltb-true, eqb-true, eq-eqb}
use Rattle.model.specs.Function.{nblocks, nitems, start, stop, op, arg}
use Rattle.model.specs.Block.{targets}
use Rattle.base.specs.Tests.{split}
use Rattle.base.specs.Each.{Each, each_none}
use Rattle.base.specs.Collected.{collect_each, collect_map}
use Rattle.base.specs.Function.{stop_inside, FunctionFacts}
use Rattle.solver.specs.Lists.{Has, each_has, Once, once_none, collect_once}
use Rattle.graph.specs.Ranges.{Holds}

-- a target item of the block b that names c
pub record Aims (fn : List ℕ) (b i c : ℕ) : Type 0 where
  pub holds : Holds fn b i
  pub code : op fn i ≡ 10
  pub names : arg fn i ≡ c

module _ (fn : List ℕ) (b : ℕ) where
  -- each listed target is a target item of the block
  targets_aim : Each (λ t. Aims fn b t.0 t.1) (targets fn b)
  unfolding targets
  targets_aim = split (ltb b (nblocks fn))
      (λ e. rw (e, targets) (collect_each (λ i. eqb (op fn i) 10) (λ i. (i, arg fn i)) (stop fn b - start fn b) (start fn b)
      (λ i l m c. record { holds = record { block = ltb-true b (nblocks fn) e; low = l; high = omega arith }; code = eqb-true (op fn i) 10 c; names = refl })))
      (λ e. rw (e, targets) each_none)

  -- a listed target stands in the block
  pub target_aims : {i c : ℕ} → Has (i, c) (targets fn b) → Aims fn b i c
  target_aims h = each_has targets_aim h

  -- the items differ
  pub targets_once : Once (map (λ t. t.0) (targets fn b))
  unfolding targets
  targets_once = split (ltb b (nblocks fn))
      (λ e. rw (e, targets) (rw (collect_map {A = ℕ × ℕ} (λ i. eqb (op fn i) 10) (λ i. (i, arg fn i)) (λ t. t.0) (stop fn b - start fn b) (start fn b))
      (collect_once (λ i. eqb (op fn i) 10) (stop fn b - start fn b) (start fn b))))
      (λ e. rw (e, targets) once_none)

module _ {fn : List ℕ} (A : FunctionFacts fn) where
  -- a target item is one of the record's
  pub aims_item : {b i c : ℕ} → Aims fn b i c → i < nitems fn
  aims_item {b} a = omega (arith, a.holds.high, stop_inside A b)

  -- it counts as incoming
  pub aims_passes : {b i c : ℕ} → Aims fn b i c → eqb (op fn i) 10 && eqb (arg fn i) c ≡ true
  aims_passes {b} {i} {c} a = cc (eq-eqb (op fn i) 10 a.code, eq-eqb (arg fn i) c a.names)
