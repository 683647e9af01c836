-- A share of the store: what a saved one is, that the state loaded from it is the one stored, and that a state held is one that
-- can be stored. Assumes nothing.
use mathlib.Core.Path.{◌≡◌, refl, sym, ap, ◌∙◌, subst}
use mathlib.Core.Bool.{true}
use mathlib.Core.List.{List}
use mathlib.Core.Option.{Option, none, some}
use Prim.Native.Nat.{ℕ, suc, ◌-◌, ◌≤◌}
use native.Mathlib.Omega.{arith}
use lib.ListN.{length, length-replicate}
use Rattle.model.specs.Tree.{Forest, sizes}
use Rattle.model.specs.State as Model
use Rattle.model.specs.State.{most, encode, locals_ok}
use Rattle.model.specs.Function.{function_ok, local_types}
use Rattle.base.specs.Tests.{and_left, and_right}
use Rattle.base.specs.Kinds.{Known}
use Rattle.records.specs.Here.{Holds}
use Rattle.records.specs.Holds.{holds_few, holds_encode, encode_holds}
use Rattle.records.specs.Decode.{holds_unique}
use Rattle.records.specs.Shape.{encode_shaped, encode_nodes}
use Rattle.laws.specs.Valid.{Valid}
use Rattle.state.specs.Spliced.{fronted}
use Rattle.state.proofs.Fronted.{fronted_is}
use Rattle.state.specs.Value.{value}
use Rattle.state.specs.declared.nodes.State.{State}
use Rattle.blocks.specs.Accepted.{Accepted}
use Rattle.arrival.specs.Shares.{Full, Saved}

-- the local types of a function record that passes
pub accepted_locals : {Γ os fn : List ℕ} → Accepted Γ os fn → locals_ok Γ (local_types fn) ≡ true
unfolding function_ok
accepted_locals a = let e = a.function in search (and_left, and_right)

-- a state held is one of a run
pub holds_valid : {Γ locals : List ℕ} {s : Model.State} {E : Forest} → Holds Γ locals s E → Valid Γ locals E
holds_valid h = record { fits = h.trees.fits; small = holds_few h; shallow = h.deep }

-- a state held, as it is saved
pub held_full : {Γ locals : List ℕ} {s : Model.State} {E : Forest} → Holds Γ locals s E → Full Γ locals s.forms s.whats (suc (sizes E)) E
held_full h = record {
  valid = holds_valid h;
  count = refl;
  forms = ap (λ (t : Model.State). t.forms) (sym (holds_encode h));
  whats = ap (λ (t : Model.State). t.whats) (sym (holds_encode h));
}

-- the state loaded from a share that has S
pub loaded_holds : {Γ locals fs ws : List ℕ} {k : ℕ} {S : Forest} {s : State} → Full Γ locals fs ws k S
    → (s.forms ≡ fronted fs (k - 1)) × (s.whats ≡ fronted ws (k - 1)) × (s.nodes ≡ k - 1) → Holds Γ locals (value s) S
loaded_holds {Γ} {locals} {k} {S} {s} f l =
    let h = encode_shaped Γ S f.valid.small in
    let m : k - 1 ≡ (encode Γ S).nodes = omega (arith, f.count, encode_nodes Γ S) in
    let g : (encode Γ S).forms ≡ s.forms = sym (fronted_is _ _ h.few h.forms_long h.forms_zero) ∙ cc f.forms in
    let w : (encode Γ S).whats ≡ s.whats = sym (fronted_is _ _ h.few h.whats_long h.whats_zero) ∙ cc f.whats in
    let same : encode Γ S ≡ value s = λ i. record { forms = g i; whats = w i; nodes = (sym m ∙ sym l.2) i } in
    subst (λ (t : Model.State). Holds Γ locals t S) same (encode_holds f.valid.fits f.valid.shallow f.valid.small)

-- a share whose count is not 0 has a state S, which s is loaded from
pub record Loaded (Γ locals fs ws : List ℕ) (k : ℕ) (o : Option Forest) (s : State) : Type 0 where
  pub state : Forest
  pub is : o ≡ some state
  pub full : Full Γ locals fs ws k state
  pub holds : Holds Γ locals (value s) state

module _ (Γ locals fs ws : List ℕ) (k : ℕ) where
  -- what is loaded where the count is not 0
  pub saved_loaded : (o : Option Forest) → Saved Γ locals fs ws k o → (k ≡ 0 → ⊥) → {n : ℕ} {s : State} → n ≡ k
      → (s.forms ≡ fronted fs (n - 1)) × (s.whats ≡ fronted ws (n - 1)) × (s.nodes ≡ n - 1) → Loaded Γ locals fs ws k o s
  saved_loaded none b n = absurd (n b.count)
  saved_loaded (some S) f n = λ e l. record { state = S; is = refl; full = f; holds = loaded_holds f (rw e at l) }

  -- where the count is not 0 something is stored
  pub saved_full : (o : Option Forest) → Saved Γ locals fs ws k o → (k ≡ 0 → ⊥) → (S : Forest) × (o ≡ some S) × Full Γ locals fs ws k S
  saved_full none b n = absurd (n b.count)
  saved_full (some S) f n = (S, refl, f)

  -- where it is 0 nothing is
  pub saved_bare : (o : Option Forest) → Saved Γ locals fs ws k o → k ≡ 0 → o ≡ none
  saved_bare none b e = refl
  saved_bare (some S) f e = absurd (omega (arith, f.count))

  -- the arrays of a share are 512 long
  pub saved_long : (o : Option Forest) → Saved Γ locals fs ws k o → (length fs ≡ 512) × (length ws ≡ 512)
  saved_long none b = let e = length-replicate {A = ℕ} most 0 in (ap length b.forms ∙ e, ap length b.whats ∙ e)
  saved_long (some S) f =
      let h = encode_shaped Γ S f.valid.small in
      (ap length f.forms ∙ h.forms_long, ap length f.whats ∙ h.whats_long)

  -- and have as many nodes as its count says
  pub saved_fits : (o : Option Forest) → Saved Γ locals fs ws k o → (k - 1 ≤ 512) × (k - 1 ≤ length fs) × (k - 1 ≤ length ws)
  saved_fits none b = omega (arith, b.count)
  saved_fits (some S) f = let l = saved_long (some S) f in omega (arith, f.count, f.valid.small)

  -- a state that is held, with these arrays and this count, is the one that is stored
  pub saved_same : Known Γ → (o : Option Forest) → Saved Γ locals fs ws k o → {s : Model.State} {E : Forest} → Holds Γ locals s E
      → k ≡ suc s.nodes → fs ≡ s.forms → ws ≡ s.whats → o ≡ some E
  saved_same K none b h e p q = absurd (omega (arith, b.count))
  saved_same K (some S) f {s} h e p q =
      let n : (encode Γ S).nodes ≡ s.nodes = omega (arith, encode_nodes Γ S, f.count) in
      let same : encode Γ S ≡ s = λ i. record { forms = (sym f.forms ∙ p) i; whats = (sym f.whats ∙ q) i; nodes = n i } in
      ap some (holds_unique K (subst (λ (t : Model.State). Holds Γ locals t S) same (encode_holds f.valid.fits f.valid.shallow f.valid.small)) h)
