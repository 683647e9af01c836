-- `type_record::check_types::fill_offsets` meets its contract. The invariant: the offsets of the types below t are filled in. Assumes nothing.
use mathlib.Core.Path.{◌≡◌}
use mathlib.Core.List.{List}
use Prim.Native.Nat.{ℕ, ◌≤◌, ◌<◌}
use lib.ListN.{get_or, drop}
use Rattle.model.specs.Types.{ntypes, nparts, offset}
use Rattle.type_record.proofs.check_types.fill_offsets.Given as goal

-- the offsets of the types below t are filled in, and s is the next
pub record Filled (Γ os₀ os : List ℕ) (s t : ℕ) : Type 0 where
  pub summed : s ≡ offset Γ t
  pub fits : s ≤ nparts Γ
  pub right : (k : ℕ) → k < t → get_or os k 0 ≡ offset Γ k
  pub rest : drop (ntypes Γ) os ≡ drop (ntypes Γ) os₀

abbrev pub invariant-loop-t : goal.invariant-loop-t
invariant-loop-t l = Filled l.types l.initial.offs l.offs l.sum l.t
