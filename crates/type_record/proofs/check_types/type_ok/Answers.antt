-- `type_record::check_types::type_ok` meets its contract, by cases on the kind. Assumes nothing.
use mathlib.Core.Path.{◌≡◌, refl, sym, ◌∙◌, ap}
use mathlib.Core.Logic.{⊎_elim}
use mathlib.Core.Bool.{Bool, true, false, cond, ◌&&◌, ◌||◌}
use mathlib.Core.List.{List}
use Prim.Native.Nat.{ℕ, ◌≤◌}
use native.Mathlib.Omega.{arith}
use lib.Dec.{eqb, leb}
use borrow.Author.Tests.{ne_eqb, le-leb, lt-leb}
use Rattle.model.specs.Types.{kind, count, pointer, fielded, pointee_ok, fields_ok, variants_ok, type_ok}
use Rattle.type_record.specs.Kinds.{kind_named}
use Rattle.type_record.specs.declared.kinds.Kind.{Kind}
use Rattle.type_record.specs.declared.kinds.Kind.TheVariants.{Opaque, Pointer, Reference, Box, Array, Tuple, Struct, Enum, Variant, Closure, Coroutine, Other}
use Rattle.type_record.proofs.KindLaws.{named}
use Rattle.type_record.proofs.check_types.type_ok.Goals as goal

module _ (Γ : List ℕ) (t : ℕ) where
  -- what is asked of the type t at each kind
  abbrev asked : Kind → Bool
  asked Opaque = eqb (count Γ t) 0
  asked Pointer = pointee_ok Γ t
  asked Reference = pointee_ok Γ t
  asked Box = pointee_ok Γ t
  asked Array = eqb (count Γ t) 0
  asked Tuple = fields_ok Γ t 0
  asked Struct = fields_ok Γ t 0
  asked Enum = variants_ok Γ t
  asked Variant = leb 1 (count Γ t) && fields_ok Γ t 1
  asked Closure = fields_ok Γ t 0
  asked Coroutine = fields_ok Γ t 0
  asked Other = false

  -- `type_ok` as it stands, at kind n
  asked_at : ℕ → Bool
  asked_at n = cond (eqb n 0 || eqb n 4) (eqb (count Γ t) 0)
      (cond (pointer n) (pointee_ok Γ t)
      (cond (fielded n) (fields_ok Γ t 0)
      (cond (eqb n 7) (variants_ok Γ t)
      (eqb n 8 && leb 1 (count Γ t) && fields_ok Γ t 1))))

  asked_unknown : (n : ℕ) → 11 ≤ n → false ≡ asked_at n
  unfolding asked_at pointer fielded
  asked_unknown n h =
      let off : (i : ℕ) → i ≤ 10 → eqb n i ≡ false = λ i m. ne_eqb n i (λ x. omega arith) in
      cc (
        off 0 (omega arith),
        off 1 (omega arith),
        off 2 (omega arith),
        off 3 (omega arith),
        off 4 (omega arith),
        off 5 (omega arith),
        off 6 (omega arith),
        off 7 (omega arith),
        off 8 (omega arith),
        off 9 (omega arith),
        off 10 (omega arith),
      )

  same : (n : ℕ) → asked (kind_named n) ≡ asked_at n
  unfolding asked_at pointer fielded kind_named
  same = named (λ n k. asked k ≡ asked_at n) (refl, (refl, (refl, (refl, (refl, (refl, (refl, (refl, (refl, (refl, (refl, tt))))))))))) asked_unknown

  -- at an arm of the match on the kind j
  arm : {j : Kind} → j ≡ kind_named (kind Γ t) → (k : Kind) → j ≡ k → asked k ≡ type_ok Γ t
  unfolding asked_at type_ok
  arm e k f = ap asked (sym f ∙ e) ∙ same (kind Γ t)

  module _ (e : Variant ≡ kind_named (kind Γ t)) {n : ℕ} (f : n ≡ count Γ t) where
    variant : leb 1 n ≡ true → {b : Bool} → b ≡ fields_ok Γ t 1 → b ≡ type_ok Γ t
    variant h d = cc (arm e Variant refl)

    bare : leb 1 n ≡ false → leb 1 n ≡ type_ok Γ t
    bare h = cc (arm e Variant refl)

pub returns-in-Opaque : goal.returns-in-Opaque
returns-in-Opaque c =
    ap (λ (n : ℕ). eqb n 0) c.count_of.ensures
    ∙ ⊎_elim (arm _ _ c.kind_at.ensures Opaque) (arm _ _ c.kind_at.ensures Array) c.in-Opaque.is

pub returns-in-Pointer : goal.returns-in-Pointer
returns-in-Pointer c =
    let a = arm _ _ c.kind_at.ensures in
    c.pointee_ok.ensures ∙ ⊎_elim (a Pointer) (⊎_elim (a Reference) (a Box)) c.in-Pointer.is

pub returns-in-Tuple : goal.returns-in-Tuple
returns-in-Tuple c =
    let a = arm _ _ c.kind_at.ensures in
    c.fields_ok.ensures ∙ ⊎_elim (a Tuple) (⊎_elim (a Struct) (⊎_elim (a Closure) (a Coroutine))) c.in-Tuple.is

pub returns-in-Enum : goal.returns-in-Enum
returns-in-Enum c = c.variants_ok.ensures ∙ arm _ _ c.in-Enum.ensures Enum refl

pub returns-then-count_of-ge1 : goal.returns-then-count_of-ge1
returns-then-count_of-ge1 c =
    variant _ _ c.in-Variant.ensures c.count_of-in-Variant.ensures (le-leb 1 _ c.if-count_of-ge1.true) c.fields_ok-then-count_of-ge1.ensures

pub returns-else-count_of-ge1 : goal.returns-else-count_of-ge1
returns-else-count_of-ge1 c = bare _ _ c.in-Variant.ensures c.count_of-in-Variant.ensures (lt-leb 1 _ c.if-count_of-ge1.false)

pub returns-in-Other : goal.returns-in-Other
returns-in-Other c = arm _ _ c.in-Other.ensures Other refl
