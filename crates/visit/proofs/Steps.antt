-- Model's steps as the code takes them: a jump, a block entered, a block left. Which blocks have a match.
use mathlib.Core.Path.{◌≡◌, refl}
use mathlib.Core.Bool.{Bool, true, false}
use mathlib.Core.List.{List, [], ◌++◌}
use mathlib.Core.Option.{none}
use Rattle.std.specs.Prelude.{Option, Some, None, Ok}
use mathlib.Core.Logic.{◌≢◌}
use Prim.Native.Nat.{ℕ, suc, ◌-◌, ◌<◌}
use native.Mathlib.Omega.{arith}
use native.Mathlib.Decide.{dec_lt}
use lib.Dec.{eqb}
use borrow.Author.Tests.{lt-ltb, eqb-true, eq-eqb, ne_eqb}
use Rattle.model.specs.Answer.{done, ◌>>=◌}
use Rattle.model.specs.Tree.{Forest}
use Rattle.model.specs.Collect.{folds_at_ret}
use Rattle.model.specs.Function.{nargs, nblocks, start, stop, op}
use Rattle.model.specs.Block.{stations, targets, is_join_point, returns, matched}
use Rattle.model.specs.Frame.{mark, Exit}
use Rattle.model.specs.Body.{pass_stations, unopened, exits_of, ret_lines, body, frame}
use Rattle.solver.specs.Direct.{do_goto, do_leave, do_work, do_enter}
use Rattle.base.specs.Answer.{split_answer}
use Rattle.base.specs.Collected.{collect_none}
use Rattle.base.specs.Function.{FunctionFacts}
use Rattle.graph.specs.Ranges.{Holds}
use Rattle.graph.specs.Enders.{last_holds}
use Rattle.graph.proofs.Enders.{ender_on}
use Rattle.graph.proofs.Targets.{returns_none}
use Rattle.body.specs.Uses.{uses}
use Rattle.body.specs.Arms.{Planned, Behind}
use Rattle.body.specs.declared.arms.Match.{Match}
use Rattle.body.proofs.Stations.{stations_uses}
use Rattle.arrival.specs.Memory.{Memory, arrives, enters, jumps, departs}
use Rattle.arrival.proofs.Heard.{telling, hears_told}

-- A JUMP

module _ (Γ fn : List ℕ) (recording : Bool) (n : ℕ) where
  -- to a join point
  pub jumps_meet : (x : Exit Forest) (m : Memory) → is_join_point fn x.block ≡ true → jumps Γ fn recording n x m ≡ arrives Γ fn recording x m
  unfolding do_goto frame
  jumps_meet x m e = rw (e, do_goto) refl

  -- and to any other block
  pub jumps_enter : (x : Exit Forest) (m : Memory) → is_join_point fn x.block ≡ false
      → jumps Γ fn recording n x m ≡ enters Γ fn recording n x.block x.state m
  unfolding do_goto frame
  jumps_enter x m e = rw (e, do_goto) refl

  -- A BLOCK

  -- its items, what its return records, its targets
  pub enters_uses : (b : ℕ) (E : Forest) (m : Memory) → b < nblocks fn → enters Γ fn recording (suc n) b E m
      ≡ uses Γ fn false (stop fn b - start fn b) (start fn b) E >>= λ w. departs Γ fn recording n b w.0 (telling recording (w.1 ++ ret_lines Γ fn b w.0) m)
  unfolding do_enter do_work frame body
  enters_uses b E m l =
      let t = lt-ltb b (nblocks fn) l in
      rw (← stations_uses Γ fn b E) (split_answer (pass_stations Γ (stations fn b) E)
      (λ r e. cc)
      (λ w e. split_answer (exits_of Γ fn (matched fn b) (targets fn b) w.0)
      (λ r d. cc)
      (λ xs d. cc (hears_told Γ fn recording (w.1 ++ ret_lines Γ fn b w.0) m))))

-- WHICH BLOCKS HAVE A MATCH

module _ {fn : List ℕ} (A : FunctionFacts fn) {b : ℕ} (l : b < nblocks fn) where
  -- not one without a switch
  unmatched : ((i : ℕ) → Holds fn b i → op fn i ≢ 8) → matched fn b ≡ none
  unfolding matched
  unmatched h = rw (
    collect_none (λ i. eqb (op fn i) 8) (λ i. i) (stop fn b - start fn b) (start fn b)
        (λ i u v. ne_eqb (op fn i) 8 (h i (record { block = l; low = u; high = omega (arith, A.starts b l) }))),
    matched,
  ) refl

  -- so none that returns
  pub returns_unmatched : returns fn b ≡ true → matched fn b ≡ none
  unfolding returns
  returns_unmatched e = unmatched (λ i h d.
      let k = last_holds A l in
      let z = eqb-true (op fn (stop fn b - 1)) 11 e in
      elim (dec_lt i (stop fn b - 1)) [
        | yes u ↦ omega (arith, (ender_on A h (omega arith) k u).1)
        | no u ↦ let q : i ≡ stop fn b - 1 = omega (arith, h.high) in omega (arith, rw q at d)
      ])

  -- and none whose first item is a target: so a target of a match stands behind an item
  pub target_behind : {i : ℕ} → Holds fn b i → op fn i ≡ 10 → {Γ : List ℕ} {E : Forest} {p : Option Match} → Planned Γ fn b E (Ok p) → Behind p i
  target_behind {i} h d {p = p} P = elim (dec_lt 0 i) [
    | yes u ↦ behind p u
    | no u ↦
        let q : p ≡ None = cc (P.plain (unmatched (λ s k e. elim (dec_lt i s) [
          | yes v ↦ omega (arith, (ender_on A h (omega arith) k v).0)
          | no v ↦ let q : s ≡ i = omega arith in omega (arith, rw q at e)
        ]))) in
        rw q tt
  ]
    where
      behind : (p : Option Match) → 0 < i → Behind p i
      behind None u = tt
      behind (Some m) u = u

-- A BLOCK THAT IS LEFT

module _ {fn : List ℕ} (A : FunctionFacts fn) {b : ℕ} (l : b < nblocks fn) where
  -- one that returns has no target
  pub departs_none : (Γ : List ℕ) (recording : Bool) (n : ℕ) (E : Forest) (m : Memory) → returns fn b ≡ true → departs Γ fn recording n b E m ≡ done m
  unfolding exits_of do_leave unopened
  departs_none Γ recording n E m e = rw (returns_unmatched A l e, returns_none A l e) refl

-- a block returns if its last item does
pub returns_is : (fn : List ℕ) (b : ℕ) → op fn (stop fn b - 1) ≡ 11 → returns fn b ≡ true
unfolding returns
returns_is fn b e = eq-eqb (op fn (stop fn b - 1)) 11 e

-- and only then
pub returns_not : (fn : List ℕ) (b : ℕ) → op fn (stop fn b - 1) ≢ 11 → returns fn b ≡ false
unfolding returns
returns_not fn b e = ne_eqb (op fn (stop fn b - 1)) 11 e

-- what a return records
pub ret_some : (Γ fn : List ℕ) (b : ℕ) (E : Forest) → returns fn b ≡ true → ret_lines Γ fn b E ≡ mark (stop fn b - 1) (folds_at_ret Γ (nargs fn) E)
unfolding ret_lines
ret_some Γ fn b E e = rw (e, ret_lines) refl

-- and any other block
pub ret_none : (Γ fn : List ℕ) (b : ℕ) (E : Forest) → returns fn b ≡ false → ret_lines Γ fn b E ≡ []
unfolding ret_lines
ret_none Γ fn b E e = rw (e, ret_lines) refl
