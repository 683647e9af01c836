-- `walk::step::step_open` meets its contract: at each return the step found is the model's. Assumes nothing.
use mathlib.Core.Path.{◌≡◌, refl, sym, ◌∙◌, ap, subst}
use mathlib.Core.List.{List}
use mathlib.Core.Logic.{◌≢◌}
use Prim.Native.Nat.{ℕ, ◌+◌, ◌<◌}
use native.Mathlib.Omega.{arith}
use lib.ListN.{length, get_or}
use Rattle.std.specs.Prelude.{Result, Ok, Err}
use Rattle.model.specs.Types.{kind, count}
use Rattle.model.specs.Tree.{Tree}
use Rattle.model.specs.Place.{Elem}
use Rattle.model.specs.Collect.{firsts}
use Rattle.base.specs.Kinds.{pointer_not_enum}
use Rattle.base.specs.Typed.{kids_pointer}
use Rattle.records.specs.Here.{Here, Coded}
use Rattle.records.specs.Coded.{coded_opened}
use Rattle.refusal.specs.declared.Refusal.{Refusal}
use Rattle.refusal.specs.declared.Refusal.TheVariants.{WrongStep, OtherVariant}
use Rattle.state.specs.Found.{OpenAt}
use Rattle.state.proofs.Fields.{ready_typed, ready_sized, ready_counted}
use Rattle.state.proofs.Standing.{node_in}
use Rattle.walk.specs.Way.{Steps}
use Rattle.walk.specs.declared.step.Node.{Node}
use Rattle.walk.proofs.Items.{elem_deref, elem_field, elem_cast, elem_other}
use Rattle.walk.proofs.KindTests.{pointer_is}
use Rattle.walk.proofs.Stepping.{fields_here, fields_there, deref_to, field_to, cast_stay, open_stay, deref_refused, field_pointer, field_past, cast_none, cast_other}
use Rattle.walk.proofs.step.step_open.Goals as goal
use Rattle.walk.proofs.step.step_open.Goals.{then-pointer-via-then-pointer, then-pointer-via-else-pointer+then-kid_count-f}

-- its variant is in range
node_ranged : {Γ fs ws : List ℕ} {i t : ℕ} → Here Γ fs ws i t → OpenAt fs i → (v : ℕ) → v ≡ get_or ws i 0 → kind Γ t ≡ 7 → v < count Γ t
node_ranged H o v e = rw e (coded_opened H.coded o).openable.ranged

-- the item's element is e, of which the step is known
found : {Γ fs ws : List ℕ} {i t : ℕ} {e e' : Elem} (r : Result Node Refusal) → e' ≡ e → ((x : Tree) → Coded Γ fs ws i t x → Steps Γ fs ws i e x r)
    → (x : Tree) → Coded Γ fs ws i t x → Steps Γ fs ws i e' x r
found {Γ = Γ} {fs} {ws} {i} {t} r d f = subst (λ (e : Elem). (x : Tree) → Coded Γ fs ws i t x → Steps Γ fs ws i e x r) (sym d) f

pub bounds-whats-node : goal.bounds-whats-node
bounds-whats-node c = (node_in c.requires.here).1

pub returns-then-not-pointer : goal.returns-then-not-pointer
returns-then-not-pointer c =
    found (Err WrongStep) (elem_deref c.args.op c.args.arg c.in-1.is) (λ x h act.
    deref_refused (coded_opened h c.requires.open_at) act (pointer_is _ c.kind_at-k.ensures c.pointer.ensures c.if-not-pointer.true))

pub kid_type-requires-clause-variant_of : goal.kid_type-requires-clause-variant_of
kid_type-requires-clause-variant_of c = λ e. absurd (pointer_not_enum _ (pointer_is _ c.kind_at-k.ensures c.pointer.ensures c.if-not-pointer.false) e)

pub kid_type-requires-clause-i_in_bounds : goal.kid_type-requires-clause-i_in_bounds
kid_type-requires-clause-i_in_bounds c =
    let k = pointer_is _ c.kind_at-k.ensures c.pointer.ensures c.if-not-pointer.false in
    omega (arith, ap length (kids_pointer (ready_typed c.args.types.now.ready) c.args.typ 0 k))

pub kid_count-requires-clause-variant_of : goal.kid_count-requires-clause-variant_of
kid_count-requires-clause-variant_of c = node_ranged c.requires.here c.requires.open_at _ c.from-what.ensures

pub returns-then-pointer : goal.returns-then-pointer
returns-then-pointer c =
    let e = elem_field c.args.op c.args.arg c.in-2.is in
    elim c.then-pointer.branch [
      | then-pointer-via-then-pointer w ↦
          found (Err WrongStep) e (λ x h act. field_pointer (coded_opened h c.requires.open_at) act c.args.arg (pointer_is _ c.kind_at-k.ensures c.pointer-in-2.ensures w.if-pointer.true))
      | then-pointer-via-else-pointer+then-kid_count-f w ↦
          found (Err WrongStep) e (λ x h act. field_past (coded_opened h c.requires.open_at) act c.args.arg
          (pointer_is _ c.kind_at-k.ensures c.pointer-in-2.ensures w.if-pointer.false)
          (rw (← c.from-what.ensures) (omega (arith, w.if-kid_count-f.true, w.kid_count.ensures))))
    ]

pub owner_of-u-requires-clause-variant_of : goal.owner_of-u-requires-clause-variant_of
owner_of-u-requires-clause-variant_of c = node_ranged c.requires.here c.requires.open_at _ c.from-what.ensures

pub fields_end-requires-clause-fields : goal.fields_end-requires-clause-fields
fields_end-requires-clause-fields c =
    let o = coded_opened c.requires.here.coded c.requires.open_at in
    fields_there (ready_typed c.args.types.now.ready) c.requires.typ_bound _ _ _ _ (rw c.from-what.ensures o.openable) c.owner_of-u.ensures c.first_of-j.ensures
    (omega (arith, c.if-kid_count-f.false, c.kid_count.ensures))

pub fields_end-requires-clause-heres : goal.fields_end-requires-clause-heres
fields_end-requires-clause-heres c =
    let o = coded_opened c.requires.here.coded c.requires.open_at in
    record {
      trees = firsts c.args.arg o.children;
      coded = fields_here o _ _ _ _ c.from-what.ensures c.owner_of-u.ensures c.first_of-j.ensures (omega (arith, c.if-kid_count-f.false, c.kid_count.ensures));
    }

pub kid_type-requires-in-2-clause-variant_of : goal.kid_type-requires-in-2-clause-variant_of
kid_type-requires-in-2-clause-variant_of c = node_ranged c.requires.here c.requires.open_at _ c.from-what.ensures

pub returns-then-not-casts : goal.returns-then-not-casts
returns-then-not-casts c =
    found (Err WrongStep) (elem_cast c.args.op c.args.arg c.in-3.is) (λ x h act.
    cast_none (coded_opened h c.requires.open_at) act c.args.arg (sym c.casts.ensures ∙ c.if-not-casts.true))

pub returns-then-v-what : goal.returns-then-v-what
returns-then-v-what c =
    found (Err OtherVariant) (elem_cast c.args.op c.args.arg c.in-3.is) (λ x h act.
    cast_other (coded_opened h c.requires.open_at) act c.args.arg (sym c.casts.ensures ∙ c.if-not-casts.false) (λ d. c.if-v-what.true (d ∙ sym c.from-what.ensures)))

pub returns-else-not-pointer : goal.returns-else-not-pointer
returns-else-not-pointer c =
    found (Ok (record { node = c.args.node + 1; typ = c.kid_type.result })) (elem_deref c.args.op c.args.arg c.in-1.is) (λ x h.
    deref_to (coded_opened h c.requires.open_at) (ready_typed c.args.types.now.ready) c.requires.typ_bound
    (pointer_is _ c.kind_at-k.ensures c.pointer.ensures c.if-not-pointer.false) _ _ refl c.kid_type.ensures)

pub returns-else-kid_count-f : goal.returns-else-kid_count-f
returns-else-kid_count-f c =
    let w = c.from-what.ensures in
    found (Ok (record { node = c.fields_end.result; typ = c.kid_type-in-2.result })) (elem_field c.args.op c.args.arg c.in-2.is) (λ x h.
    let o = coded_opened h c.requires.open_at in
    field_to o (ready_typed c.args.types.now.ready) c.requires.typ_bound (pointer_is _ c.kind_at-k.ensures c.pointer-in-2.ensures c.if-pointer.false)
    c.args.arg (rw (← w) (omega (arith, c.if-kid_count-f.false, c.kid_count.ensures)))
    c.fields_end.result c.kid_type-in-2.result
    (c.fields_end.ensures _ (fields_here o _ _ _ _ w c.owner_of-u.ensures c.first_of-j.ensures (omega (arith, c.if-kid_count-f.false, c.kid_count.ensures))))
    (rw (← w) c.kid_type-in-2.ensures))

pub returns-else-v-what : goal.returns-else-v-what
returns-else-v-what c =
    found (Ok (record { node = c.args.node; typ = c.args.typ })) (elem_cast c.args.op c.args.arg c.in-3.is) (λ x h.
    cast_stay (coded_opened h c.requires.open_at) c.requires.typ_bound h c.args.arg (sym c.casts.ensures ∙ c.if-not-casts.false)
    (c.if-v-what.false ∙ c.from-what.ensures))

pub returns-in_default : goal.returns-in_default
returns-in_default c =
    let p : c.args.op ≢ 1 = omega arith in
    let q : c.args.op ≢ 2 = omega arith in
    let r : c.args.op ≢ 3 = omega arith in
    found (Ok (record { node = c.args.node; typ = c.args.typ })) (elem_other c.args.op c.args.arg p q r) (λ x h.
    open_stay (coded_opened h c.requires.open_at) c.requires.typ_bound h)
