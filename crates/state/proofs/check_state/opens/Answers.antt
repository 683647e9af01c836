-- `state::check_state::opens` meets its contract: each of its tests is a part of the definition. Assumes nothing.
use borrow.Author.Tests.{eq-eqb, ne_eqb}
use mathlib.Core.Path.{◌≡◌, refl, sym, ap₂, ◌∙◌}
use mathlib.Core.Bool.{true, false}
use mathlib.Core.List.{List}
use Prim.Native.Nat.{ℕ}
use lib.Dec.{eqb, ltb}
use Rattle.model.specs.Types.{kind, count, shut, form}
use Rattle.model.specs.State.{opens}
use Rattle.base.specs.Tests.{split}
use Rattle.type_record.specs.declared.kinds.Kind.TheVariants.{Enum}
use Rattle.type_record.proofs.KindLaws.{shut_named, form_named, eq_true, eq_false}
use Rattle.state.proofs.check_state.opens.Goals as goal
use Rattle.state.proofs.check_state.opens.Goals.{then-shut-via-then-shut, then-shut-via-else-shut+then-form}

module _ (Γ : List ℕ) (t f w : ℕ) where
  -- a kind that cannot be opened
  shut_kind : shut (kind Γ t) ≡ true → false ≡ opens Γ t (f, w)
  unfolding opens
  shut_kind s = cc

  -- a form of another kind
  other_form : (form (kind Γ t) ≡ f → ⊥) → false ≡ opens Γ t (f, w)
  unfolding opens
  other_form g =
      let h : eqb f (form (kind Γ t)) ≡ false = ne_eqb f (form (kind Γ t)) (λ d. g (sym d)) in
      split (shut (kind Γ t)) (λ s. cc) (λ s. cc)

  module _ (s : shut (kind Γ t) ≡ false) (g : form (kind Γ t) ≡ f) where
    -- an enum
    in_range : kind Γ t ≡ 7 → ltb w (count Γ t) ≡ opens Γ t (f, w)
    unfolding opens
    in_range d = cc (eq-eqb f (form (kind Γ t)) (sym g))

    -- any other kind
    no_variant : (kind Γ t ≡ 7 → ⊥) → eqb w 0 ≡ opens Γ t (f, w)
    unfolding opens
    no_variant d = cc (eq-eqb f (form (kind Γ t)) (sym g), ne_eqb (kind Γ t) 7 d)

pub returns-then-shut : goal.returns-then-shut
returns-then-shut c =
    let a = c.args in
    elim c.then-shut.branch [
      | then-shut-via-then-shut w ↦ shut_kind a.types.now a.t a.form a.what (sym (rw (c.kind_at-k.ensures, shut_named) at c.shut.ensures) ∙ w.if-shut.true)
      | then-shut-via-else-shut+then-form w ↦
          other_form a.types.now a.t a.form a.what (λ h. w.if-form.true (rw (c.kind_at-k.ensures, form_named) at w.form.ensures ∙ h))
    ]

pub returns-then-eq : goal.returns-then-eq
returns-then-eq c =
    let a = c.args in
    let s = sym (rw (c.kind_at-k.ensures, shut_named) at c.if-shut.ensures) in
    let g = sym (rw (c.kind_at-k.ensures, form_named) at c.form.ensures) ∙ c.if-form.false in
    ap₂ ltb c.from.ensures c.count_of.ensures ∙ in_range a.types.now a.t a.form a.what s g (eq_true _ Enum c.kind_at-k.ensures c.eq.ensures c.if-eq.true refl)

pub returns-else-eq : goal.returns-else-eq
returns-else-eq c =
    let a = c.args in
    let s = sym (rw (c.kind_at-k.ensures, shut_named) at c.if-shut.ensures) in
    let g = sym (rw (c.kind_at-k.ensures, form_named) at c.form.ensures) ∙ c.if-form.false in
    no_variant a.types.now a.t a.form a.what s g (eq_false _ Enum c.kind_at-k.ensures c.eq.ensures c.if-eq.false refl)
