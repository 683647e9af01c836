-- `opens`, by which a reader tells what may be open, says what `Openable` says.
use Rattle.std.specs.Prelude.{◌≡◌, true, false, cond, not, ◌&&◌, List, ℕ, ltb}
use Rattle.std.proofs.Math.Decide.{ℕ_discrete}
use Rattle.std.proofs.Math.Dec.{eqb}
use Rattle.std.proofs.Common.{ltb-true, eqb-true, eq-eqb, ne_eqb, lt-ltb}
use Rattle.std.proofs.lemmas.Bool.{not-true}
use Rattle.model.specs.Types.{kind, count, shut, form}
use Rattle.model.specs.Typing.{Openable}
use Rattle.model.specs.State.{Code, opens}
use Rattle.base.specs.Tests.{and_left, and_right, eqb_same}
use Rattle.base.specs.Kinds.{openable_not_shut, openable_by}

module _ (Γ : List ℕ) (t : ℕ) (c : Code) (e : opens Γ t c ≡ true) where
  -- its first two tests
  opens_front : not (shut (kind Γ t)) && eqb c.0 (form (kind Γ t)) ≡ true
  unfolding opens
  opens_front = and_left _ (cond (eqb (kind Γ t) 7) (ltb c.1 (count Γ t)) (eqb c.1 0)) e

  -- its third
  opens_back : cond (eqb (kind Γ t) 7) (ltb c.1 (count Γ t)) (eqb c.1 0) ≡ true
  unfolding opens
  opens_back = and_right (not (shut (kind Γ t)) && eqb c.0 (form (kind Γ t))) _ e

  -- the form is the kind's
  pub opens_form : c.0 ≡ form (kind Γ t)
  opens_form = eqb-true c.0 (form (kind Γ t)) (and_right (not (shut (kind Γ t))) _ opens_front)

  -- the kind opens
  pub opens_not_shut : shut (kind Γ t) ≡ false
  opens_not_shut = not-true (shut (kind Γ t)) (and_left _ (eqb c.0 (form (kind Γ t))) opens_front)

  -- the what is a variant
  pub opens_openable : Openable Γ t c.1
  opens_openable =
      openable_by opens_not_shut
      (λ f. eqb-true c.1 0 (cc (ne_eqb (kind Γ t) 7 f, opens_back)))
      (λ h. ltb-true c.1 (count Γ t) (cc (eq-eqb (kind Γ t) 7 h, opens_back)))

-- what may be open is read as open
pub openable_opens : {Γ : List ℕ} {t v : ℕ} → Openable Γ t v → opens Γ t (form (kind Γ t), v) ≡ true
unfolding opens
openable_opens {Γ} {t} {v} o =
    elim (ℕ_discrete (kind Γ t) 7) [
      | yes e ↦ cc (openable_not_shut o, eqb_same (form (kind Γ t)), eq-eqb (kind Γ t) 7 e, lt-ltb v (count Γ t) (o.ranged e))
      | no f ↦ cc (openable_not_shut o, eqb_same (form (kind Γ t)), ne_eqb (kind Γ t) 7 f, eq-eqb v 0 (o.plain f))
    ]
