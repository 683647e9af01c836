-- The shape of a state record as a test and as facts, and that a written record has it.
use Rattle.std.specs.Prelude.{◌≡◌, Bool, true, ◌&&◌, List, ℕ, ◌-◌, ◌≤◌, eqb, leb, length, take, drop}
use Rattle.std.proofs.Math.Path.{refl}
use Rattle.std.proofs.Common.{ap, ◌∙◌, eqb-true, eq-eqb, leb-true, le-leb}
use Rattle.model.specs.Tree.{Forest, sizes}
use Rattle.model.specs.State.{State, most, codess, padded, encode, zeros, shaped}
use Rattle.base.specs.Tests.{and_left, and_right, and_both}
use Rattle.records.specs.Here.{firsts, seconds, Shaped}
use Rattle.records.specs.Pairs.{length_padded, take_padded, drop_padded, zeros_replicate}
use Rattle.records.specs.Codes.{forest_forms, forest_whats}

-- what the test says
pub shaped_is : (s : State) → shaped s ≡ true → Shaped s
unfolding shaped
shaped_is s e =
    let a : Bool = leb s.nodes most in
    let b : Bool = eqb (length s.forms) most in
    let c : Bool = eqb (length s.whats) most in
    let d : Bool = zeros (drop s.nodes s.forms) in
    let abcd : a && b && c && d ≡ true = and_left (a && b && c && d) (zeros (drop s.nodes s.whats)) e in
    let abc : a && b && c ≡ true = and_left (a && b && c) d abcd in
    let ab : a && b ≡ true = and_left (a && b) c abc in
    record {
      few = leb-true s.nodes most (and_left a b ab);
      forms_long = eqb-true (length s.forms) most (and_right a b ab);
      whats_long = eqb-true (length s.whats) most (and_right (a && b) c abc);
      forms_zero = and_right (a && b && c) d abcd;
      whats_zero = and_right (a && b && c && d) (zeros (drop s.nodes s.whats)) e;
    }

-- and what makes it pass
pub shaped_of : (s : State) → Shaped s → shaped s ≡ true
unfolding shaped
shaped_of s h =
    and_both
    (and_both
    (and_both (and_both (le-leb s.nodes most h.few) (eq-eqb _ most h.forms_long)) (eq-eqb _ most h.whats_long))
    h.forms_zero)
    h.whats_zero

-- nothing but zeros behind a list's own words
zeros_behind : (l : List ℕ) (n : ℕ) → length l ≡ n → zeros (drop n (padded l)) ≡ true
zeros_behind l n e = ap zeros (drop_padded l n e) ∙ zeros_replicate (most - length l)

module _ (Γ : List ℕ) (E : Forest) where
  -- a written record has its shape
  pub encode_shaped : sizes E ≤ most → Shaped (encode Γ E)
  unfolding encode
  encode_shaped h =
      record {
        few = h;
        forms_long = length_padded (firsts (codess Γ E)) (rw (forest_forms Γ E) h);
        whats_long = length_padded (seconds (codess Γ E)) (rw (forest_whats Γ E) h);
        forms_zero = zeros_behind (firsts (codess Γ E)) (sizes E) (forest_forms Γ E);
        whats_zero = zeros_behind (seconds (codess Γ E)) (sizes E) (forest_whats Γ E);
      }

  -- its forms are the state's
  pub encode_forms : take (sizes E) (encode Γ E).forms ≡ firsts (codess Γ E)
  unfolding encode
  encode_forms = take_padded (firsts (codess Γ E)) (sizes E) (forest_forms Γ E)

  -- and its whats
  pub encode_whats : take (sizes E) (encode Γ E).whats ≡ seconds (codess Γ E)
  unfolding encode
  encode_whats = take_padded (seconds (codess Γ E)) (sizes E) (forest_whats Γ E)

  -- its count is the state's
  pub encode_nodes : (encode Γ E).nodes ≡ sizes E
  unfolding encode
  encode_nodes = refl
