-- Where the share of a stored state lies, and what is loaded from it.
use mathlib.Core.Path.{◌≡◌, refl}
use mathlib.Core.Bool.{true}
use mathlib.Core.List.{List}
use mathlib.Core.Option.{some}
use Prim.Native.Nat.{ℕ, suc, ◌+◌, ◌*◌, ◌-◌, ◌≤◌, ◌<◌}
use native.Mathlib.Omega.{arith}
use lib.ListN.{length, take, drop}
use Rattle.model.specs.Words.{word, count_below}
use Rattle.model.specs.Tree.{Forest}
use Rattle.model.specs.Function.{nblocks, local_types}
use Rattle.model.specs.Block.{is_join_point, join_points}
use Rattle.model.specs.Body.{frame}
use Rattle.base.specs.Tests.{split, clash}
use Rattle.base.specs.Below.{count_room}
use Rattle.base.specs.Function.{FunctionFacts}
use Rattle.records.specs.Here.{Holds}
use Rattle.solver.specs.Fuel.{root_join}
use Rattle.blocks.specs.Points.{share_number}
use Rattle.state.specs.Spliced.{fronted}
use Rattle.state.specs.Value.{value}
use Rattle.state.specs.declared.nodes.State.{State}
use Rattle.arrival.specs.Memory.{Memory}
use Rattle.arrival.specs.Shares.{Full, Shared, Arrays, share_of, Remembers}
use Rattle.visit.specs.Ways.{Come}
use Rattle.visit.proofs.Ways.{root_come}
use Rattle.arrival.proofs.Stored.{saved_loaded, saved_fits}

-- the state S is stored for the block b
pub record Placed (Γ fn points : List ℕ) (a : Arrays) (b : ℕ) (S : Forest) : Type 0 where
  pub first : 1 ≤ word points b
  pub forms_room : 512 * (word points b - 1) + 512 ≤ length a.forms
  pub whats_room : 512 * (word points b - 1) + 512 ≤ length a.whats
  pub full : Full Γ (local_types fn) (share_of a.forms (word points b)) (share_of a.whats (word points b)) (word a.kept b) S

module _ {Γ fn points : List ℕ} {m : Memory} {a : Arrays} (P : Shared fn points) (R : Remembers Γ fn m a) (b : ℕ) (l : b < nblocks fn) {S : Forest} (e : m.kept b ≡ some S) where
  -- so b is a join point
  stored_joins : is_join_point fn b ≡ true
  stored_joins = split (is_join_point fn b) (λ d. d) (λ d. clash (cc (R.unsaved b d)))

  -- its share is one of the store's
  pub stored_placed : Placed Γ fn points a b S
  unfolding share_number join_points
  stored_placed =
      let j = stored_joins in
      let p = P.numbers b l in
      let n : share_number fn b ≡ suc (count_below (is_join_point fn) b) = cc in
      let k = count_room (is_join_point fn) b (nblocks fn) l j in
      let f = R.long.forms in
      let w = R.long.whats in
      record {
        first = omega arith;
        forms_room = omega arith;
        whats_room = omega arith;
        full = rw p (rw e at (R.saved b l j));
      }

  -- and a way that comes to it has just begun
  pub stored_come : FunctionFacts fn → {n : ℕ} → n ≡ nblocks fn → Come Γ fn (record { block = b; left = n - 1 })
  unfolding frame
  stored_come A d = rw d (root_come A (root_join stored_joins l))

-- what is read of a share
pub record Loads (Γ locals fs ws : List ℕ) (k : ℕ) (S : Forest) : Type 0 where
  pub some_nodes : 1 ≤ k
  pub fits : (k - 1 ≤ 512) × (k - 1 ≤ length fs) × (k - 1 ≤ length ws)
  pub loads : (s : State) → (s.forms ≡ fronted fs (k - 1)) × (s.whats ≡ fronted ws (k - 1)) × (s.nodes ≡ k - 1) → Holds Γ locals (value s) S

-- a part of the store as a share
part_share : (l : List ℕ) (p n : ℕ) → n ≡ p → take (512 * (n - 1) + 512 - 512 * (n - 1)) (drop (512 * (n - 1)) l) ≡ share_of l p
unfolding share_of
part_share l p n e =
    let k : 512 * (n - 1) + 512 - 512 * (n - 1) ≡ 512 = omega arith in
    rw (k, e)

-- the share of a stored state
pub placed_loads : {Γ fn points : List ℕ} {a : Arrays} {b : ℕ} {S : Forest} → Placed Γ fn points a b S → (n k : ℕ) → n ≡ word points b → k ≡ word a.kept b
    → Loads Γ (local_types fn) (take (512 * (n - 1) + 512 - 512 * (n - 1)) (drop (512 * (n - 1)) a.forms))
    (take (512 * (n - 1) + 512 - 512 * (n - 1)) (drop (512 * (n - 1)) a.whats)) k S
placed_loads {Γ} {fn} {points} {a} {b} {S} P n k e d =
    let F = P.full in
    rw (part_share a.forms (word points b) n e, part_share a.whats (word points b) n e, d) (record {
      some_nodes = omega (arith, F.count);
      fits = saved_fits Γ (local_types fn) _ _ _ (some S) F;
      loads = λ s l. let L = saved_loaded Γ (local_types fn) _ _ _ (some S) F (λ z. omega (arith, F.count)) refl l in let q : L.state ≡ S = cc L.is in rw q at L.holds;
    })
