-- `walk::step::step_folded` meets its contract, case by case. Assumes nothing.
use mathlib.Core.Path.{◌≡◌, sym, ◌∙◌, ap}
use mathlib.Core.List.{List}
use mathlib.Core.Bool.{false}
use mathlib.Core.Logic.{◌≢◌}
use Prim.Native.Nat.{ℕ}
use native.Mathlib.Omega.{arith}
use lib.ListN.{length}
use Rattle.std.specs.Prelude.{Result}
use Rattle.model.specs.Place.{Elem}
use Rattle.model.specs.Block.{elem_of}
use Rattle.base.specs.Kinds.{pointer_not_enum, fielded_not_enum}
use Rattle.base.specs.Typed.{kids_pointer}
use Rattle.laws.specs.Walked.{openable_cast}
use Rattle.refusal.specs.declared.Refusal.{Refusal}
use Rattle.state.proofs.Fields.{ready_sized, ready_typed}
use Rattle.walk.specs.Fresh.{grows_folded, grows}
use Rattle.walk.specs.declared.step.Fresh.{Fresh}
use Rattle.walk.proofs.Items.{elem_deref, elem_field, elem_cast, elem_other}
use Rattle.walk.proofs.KindTests.{pointer_is, fielded_is}
use Rattle.walk.proofs.Growing.{kids_few}
use Rattle.walk.proofs.Grows.{grows_opened, grows_closed, folded_no_deref, folded_deref, folded_no_field, folded_field_past, folded_field, folded_none, folded_cast}
use Rattle.walk.proofs.step.step_folded.Goals as goal

-- what is so of a folded node
closed : (Γ : List ℕ) (f : Fresh) → f.opened ≡ false → (e : Elem) (r : Result Fresh Refusal) → r ≡ grows_folded Γ f.typ f.added e → r ≡ grows Γ f e
closed Γ f o e r h = h ∙ sym (grows_closed Γ f e o)

pub returns-then-at : goal.returns-then-at
returns-then-at c =
    let a = c.args in
    c.step_cast.ensures ∙ sym (grows_opened a.types.now.words.now a.at (elem_of a.op a.arg) c.if-at.true)

pub returns-then-not-pointer : goal.returns-then-not-pointer
returns-then-not-pointer c =
    let a = c.args in
    closed _ _ c.if-at.false _ _
    (folded_no_deref _ _ _ (elem_deref a.op a.arg c.in-1.is) (pointer_is _ c.kind_at-k.ensures c.pointer.ensures c.if-not-pointer.true))

pub kid_type-requires-clause-variant_of : goal.kid_type-requires-clause-variant_of
kid_type-requires-clause-variant_of c = λ e. absurd (pointer_not_enum _ (pointer_is _ c.kind_at-k.ensures c.pointer.ensures c.if-not-pointer.false) e)

pub kid_type-requires-clause-i_in_bounds : goal.kid_type-requires-clause-i_in_bounds
kid_type-requires-clause-i_in_bounds c =
    let k = pointer_is _ c.kind_at-k.ensures c.pointer.ensures c.if-not-pointer.false in
    omega (arith, ap length (kids_pointer (ready_typed c.args.types.now.ready) c.args.at.typ 0 k))

pub returns-then-not-fielded : goal.returns-then-not-fielded
returns-then-not-fielded c =
    let a = c.args in
    closed _ _ c.if-at.false _ _
    (folded_no_field _ _ _ a.arg (elem_field a.op a.arg c.in-2.is) (fielded_is _ c.kind_at-k.ensures c.fielded.ensures c.if-not-fielded.true))

pub kid_count-n-requires-clause-variant_of : goal.kid_count-n-requires-clause-variant_of
kid_count-n-requires-clause-variant_of c = λ e. absurd (fielded_not_enum _ (fielded_is _ c.kind_at-k.ensures c.fielded.ensures c.if-not-fielded.false) e)

pub returns-then-n-f : goal.returns-then-n-f
returns-then-n-f c =
    let a = c.args in
    closed _ _ c.if-at.false _ _
    (folded_field_past _ _ _ a.arg (elem_field a.op a.arg c.in-2.is) (fielded_is _ c.kind_at-k.ensures c.fielded.ensures c.if-not-fielded.false)
    (omega (arith, c.kid_count-n.ensures)))

pub kid_type-requires-in-2-clause-variant_of : goal.kid_type-requires-in-2-clause-variant_of
kid_type-requires-in-2-clause-variant_of c = λ e. absurd (fielded_not_enum _ (fielded_is _ c.kind_at-k.ensures c.fielded.ensures c.if-not-fielded.false) e)

pub overflow_add-at-in-2 : goal.overflow_add-at-in-2
overflow_add-at-in-2 c =
    let k = fielded_is _ c.kind_at-k.ensures c.fielded.ensures c.if-not-fielded.false in
    omega (
      arith,
      c.requires.added_bound,
      c.kid_count-n.ensures,
      kids_few (ready_typed c.args.types.now.ready) c.args.at.typ 0 c.requires.bud.known (λ e. absurd (fielded_not_enum _ k e)),
    )

pub returns-then-not-casts : goal.returns-then-not-casts
returns-then-not-casts c =
    let a = c.args in
    closed _ _ c.if-at.false _ _ (folded_none _ _ _ a.arg (elem_cast a.op a.arg c.in-3.is) (sym c.casts.ensures ∙ c.if-not-casts.true))

pub kid_count-n-requires-in-3-clause-variant_of : goal.kid_count-n-requires-in-3-clause-variant_of
kid_count-n-requires-in-3-clause-variant_of c = (openable_cast _ _ _ (sym c.casts.ensures ∙ c.if-not-casts.false)).ranged

pub overflow_add-result : goal.overflow_add-result
overflow_add-result c =
    omega (
      arith,
      c.requires.added_bound,
      c.kid_count-n-in-3.ensures,
      kids_few (ready_typed c.args.types.now.ready) c.args.at.typ c.args.arg c.requires.bud.known (openable_cast _ _ _ (sym c.casts.ensures ∙ c.if-not-casts.false)).ranged,
    )

pub returns-else-not-pointer : goal.returns-else-not-pointer
returns-else-not-pointer c =
    let a = c.args in
    rw (c.folded.ensures, c.kid_type.ensures)
    (closed _ _ c.if-at.false _ _
    (folded_deref _ _ _ (elem_deref a.op a.arg c.in-1.is) (pointer_is _ c.kind_at-k.ensures c.pointer.ensures c.if-not-pointer.false)))

pub returns-else-n-f : goal.returns-else-n-f
returns-else-n-f c =
    let a = c.args in
    rw (c.folded-in-2.ensures, c.kid_type-in-2.ensures, c.kid_count-n.ensures)
    (closed _ _ c.if-at.false _ _
    (folded_field _ _ _ a.arg (elem_field a.op a.arg c.in-2.is) (fielded_is _ c.kind_at-k.ensures c.fielded.ensures c.if-not-fielded.false)
    (omega (arith, c.if-n-f.false, c.kid_count-n.ensures))))

pub returns-else-not-casts : goal.returns-else-not-casts
returns-else-not-casts c =
    let a = c.args in
    rw c.kid_count-n-in-3.ensures
    (closed _ _ c.if-at.false _ _ (folded_cast _ _ _ a.arg (elem_cast a.op a.arg c.in-3.is) (sym c.casts.ensures ∙ c.if-not-casts.false)))

pub returns-in_default : goal.returns-in_default
returns-in_default c =
    let a = c.args in
    let p : a.op ≢ 1 = omega arith in
    let q : a.op ≢ 2 = omega arith in
    let r : a.op ≢ 3 = omega arith in
    closed _ _ c.if-at.false _ _ (c.step_unfold.ensures ∙ ap (grows_folded a.types.now.words.now a.at.typ a.at.added) (sym (elem_other a.op a.arg p q r)))
