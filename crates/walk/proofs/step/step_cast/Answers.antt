-- `walk::step::step_cast` meets its contract, case by case. Assumes nothing.
use mathlib.Core.Path.{◌≡◌, refl, sym, ◌∙◌, subst}
use mathlib.Core.List.{List}
use mathlib.Core.Bool.{Bool, true}
use mathlib.Core.Logic.{◌≢◌}
use Prim.Native.Nat.{ℕ, ◌<◌}
use native.Mathlib.Omega.{arith}
use Rattle.std.specs.Prelude.{Result, Ok}
use Rattle.model.specs.Types.{kind, count}
use Rattle.laws.specs.Walked.{openable_cast}
use Rattle.refusal.specs.declared.Refusal.{Refusal}
use Rattle.state.proofs.Fields.{ready_sized}
use Rattle.walk.specs.Fresh.{Bud, widened}
use Rattle.walk.specs.declared.step.Fresh.{Fresh}
use Rattle.walk.proofs.Items.{elem_deref, elem_field, elem_cast, elem_other}
use Rattle.walk.proofs.Grows.{open_deref, open_index, open_field_past, open_field, open_none, open_other, open_same}
use Rattle.walk.proofs.step.step_cast.Goals as goal

-- its variant is in range
ranged : {Γ : List ℕ} {f : Fresh} → Bud Γ f → f.opened ≡ true → kind Γ f.typ ≡ 7 → f.what < count Γ f.typ
ranged {Γ = Γ} {f} b o = (openable_cast Γ f.typ f.what (b.cast o)).ranged

-- the node stays as it was
stays : (f : Fresh) → f.opened ≡ true → ◌≡◌ {A = Result Fresh Refusal} (Ok f) (Ok (widened f.typ f.what f.added))
stays f o =
    subst (λ (b : Bool). ◌≡◌ {A = Result Fresh Refusal} (Ok f) (Ok (record { typ = f.typ; opened = b; what = f.what; added = f.added }))) o refl

pub kid_count-requires-clause-variant_of : goal.kid_count-requires-clause-variant_of
kid_count-requires-clause-variant_of c = ranged c.requires.bud c.requires.opened_value

pub returns-then-kid_count-f : goal.returns-then-kid_count-f
returns-then-kid_count-f c = open_field_past _ _ _ _ c.args.arg (elem_field c.args.op c.args.arg c.in-2.is) (omega (arith, c.kid_count.ensures))

pub kid_type-requires-clause-variant_of : goal.kid_type-requires-clause-variant_of
kid_type-requires-clause-variant_of c = ranged c.requires.bud c.requires.opened_value

pub returns-then-not-casts : goal.returns-then-not-casts
returns-then-not-casts c = open_none _ _ _ _ c.args.arg (elem_cast c.args.op c.args.arg c.in-3.is) (sym c.casts.ensures ∙ c.if-not-casts.true)

pub returns-then-w-v : goal.returns-then-w-v
returns-then-w-v c = open_other _ _ _ _ c.args.arg (elem_cast c.args.op c.args.arg c.in-3.is) (sym c.casts.ensures ∙ c.if-not-casts.false) c.if-w-v.true

pub returns-in-1 : goal.returns-in-1
returns-in-1 c = open_deref _ _ _ _ (elem_deref c.args.op c.args.arg c.in-1.is)

pub returns-else-kid_count-f : goal.returns-else-kid_count-f
returns-else-kid_count-f c =
    rw (c.folded.ensures, c.kid_type.ensures)
    (open_field _ _ _ _ c.args.arg (elem_field c.args.op c.args.arg c.in-2.is) (omega (arith, c.kid_count.ensures)))

pub returns-else-w-v : goal.returns-else-w-v
returns-else-w-v c =
    stays c.args.at c.requires.opened_value
    ∙ open_same _ _ _ _ c.args.arg (elem_cast c.args.op c.args.arg c.in-3.is) (sym c.casts.ensures ∙ c.if-not-casts.false) c.if-w-v.false

pub returns-in_default : goal.returns-in_default
returns-in_default c =
    let a = c.args in
    let p : a.op ≢ 1 = omega arith in
    let q : a.op ≢ 2 = omega arith in
    let r : a.op ≢ 3 = omega arith in
    stays a.at c.requires.opened_value ∙ open_index _ _ _ _ (elem_other a.op a.arg p q r)
