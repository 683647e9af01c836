-- A state record that holds a state is that state's record, and a state's record holds it: `holds_encode`, `encode_holds`.
use Rattle.std.specs.Prelude.{◌≡◌, refl, List, ℕ, ◌≤◌, take}
use Rattle.std.proofs.Math.Path.{sym}
use Rattle.std.proofs.Common.{ap, ap₂, ◌∙◌, arith}
use Rattle.model.specs.Tree.{Forest, sizes}
use Rattle.model.specs.Typing.{Fits, depths}
use Rattle.model.specs.State.{State, most, levels, codess, padded, encode, pairs}
use Rattle.records.specs.Here.{firsts, seconds, Shaped, Holds}
use Rattle.records.specs.Pairs.{pairs_halves, padded_take}
use Rattle.records.specs.Shape.{encode_shaped, encode_forms, encode_whats}

module _ {Γ locals : List ℕ} {s : State} {E : Forest} (h : Holds Γ locals s E) where
  -- its nodes are at most 512
  pub holds_few : sizes E ≤ most
  holds_few = omega arith

  -- its forms up to its count are the state's
  pub holds_forms : take s.nodes s.forms ≡ firsts (codess Γ E)
  holds_forms = ap (λ (n : ℕ). take n s.forms) h.count ∙ h.trees.formed

  -- and its whats
  pub holds_whats : take s.nodes s.whats ≡ seconds (codess Γ E)
  holds_whats = ap (λ (n : ℕ). take n s.whats) h.count ∙ h.trees.said

  -- so its codes are
  pub holds_codes : pairs (take s.nodes s.forms) (take s.nodes s.whats) ≡ codess Γ E
  holds_codes = ap₂ pairs holds_forms holds_whats ∙ pairs_halves (codess Γ E)

  -- it is the state's record
  pub holds_encode : encode Γ E ≡ s
  unfolding encode
  holds_encode =
      let a : Shaped s = h.shape in
      λ i. record {
        forms = (ap padded (sym holds_forms) ∙ padded_take s.forms s.nodes a.few a.forms_long a.forms_zero) i;
        whats = (ap padded (sym holds_whats) ∙ padded_take s.whats s.nodes a.few a.whats_long a.whats_zero) i;
        nodes = sym h.count i;
      }

-- a state's record holds it
pub encode_holds : {Γ locals : List ℕ} {E : Forest} → Fits Γ locals E → depths E ≤ levels → sizes E ≤ most → Holds Γ locals (encode Γ E) E
unfolding encode
encode_holds {Γ} {E} fs d n =
    record {
      shape = encode_shaped Γ E n;
      trees = record { fits = fs; formed = encode_forms Γ E; said = encode_whats Γ E };
      count = refl;
      deep = d;
    }
