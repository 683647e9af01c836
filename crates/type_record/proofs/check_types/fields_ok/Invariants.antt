-- `type_record::check_types::fields_ok` meets its contract. The invariant: the fields from the first up to j pass. Assumes nothing.
use mathlib.Core.Path.{◌≡◌}
use mathlib.Core.Bool.{true}
use mathlib.Core.List.{List}
use Prim.Native.Nat.{ℕ, ◌+◌, ◌-◌}
use Rattle.model.specs.Words.{all}
use Rattle.model.specs.Types.{field_ok}
use Rattle.type_record.proofs.check_types.fields_ok.Given as goal

-- the fields from part k up to j pass
abbrev pub Pass : List ℕ → ℕ → ℕ → ℕ → Type 0
Pass Γ t k j = all (λ i. field_ok Γ t (k + i)) (j - k) ≡ true

abbrev pub invariant-loop-j : goal.invariant-loop-j
invariant-loop-j l = Pass l.types.words.now l.t l.first l.j
