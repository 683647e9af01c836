-- The type record: T, P; kind[T], count[T]; then P parts, in type order. What each word means, and refusal 1.
-- Kinds: 0 opaque, 1 plain pointer, 2 mutable reference, 3 box, 4 array or slice, 5 tuple, 6 struct, 7 enum, 8 variant,
-- 9 closure, 10 coroutine.
use Rattle.std.specs.Prelude.{Bool, cond, not, ◌&&◌, ◌||◌, List, [], ◌∷◌, ℕ, zero, suc, ◌+◌, ◌*◌, ◌-◌, length, get_or, eqb, ltb, leb}
use Rattle.model.specs.Words.{word, all, sum}

-- THE WORDS

abbrev pub ntypes : List ℕ → ℕ
ntypes Γ = word Γ 0

abbrev pub nparts : List ℕ → ℕ
nparts Γ = word Γ 1

-- past the last type there is nothing to open: opaque
unfoldable pub kind : List ℕ → ℕ → ℕ
kind Γ t = cond (ltb t (ntypes Γ)) (word Γ (2 + t)) 0

unfoldable pub count : List ℕ → ℕ → ℕ
count Γ t = word Γ (2 + ntypes Γ + t)

-- how many parts the types below t have
unfoldable pub offset : List ℕ → ℕ → ℕ
offset Γ t = sum (count Γ) t

unfoldable pub part : List ℕ → ℕ → ℕ → ℕ
part Γ t j = word Γ (2 + ntypes Γ + ntypes Γ + offset Γ t + j)

-- how long the record is by its sizes as written
unfoldable pub types_length : List ℕ → ℕ
types_length ws = 2 + 2 * word ws 0 + word ws 1

-- KINDS

-- kinds with a pointee
unfoldable pub pointer : ℕ → Bool
pointer k = eqb k 1 || eqb k 2 || eqb k 3

-- kinds that a field opens: tuple, struct, closure, coroutine
unfoldable pub fielded : ℕ → Bool
fielded k = eqb k 5 || eqb k 6 || eqb k 9 || eqb k 10

-- kinds that cannot be opened: opaque, array, and variant, which is no place's type
unfoldable pub shut : ℕ → Bool
shut k = eqb k 0 || eqb k 4 || eqb k 8

-- does a node of kind k stay open when it meets a folded one? m: some step above was behind a mutable reference
unfoldable pub sticky : Bool → ℕ → Bool
sticky m k = eqb k 5 || eqb k 9 || eqb k 10 || (eqb k 6 && not m)

-- m for what lies below a node of kind k
unfoldable pub below : Bool → ℕ → Bool
below m k = m || eqb k 2

-- the form of an open node in a state record: 1 deref, 2 Downcast, 3 closure, 4 generator, 5 tuple
unfoldable pub form : ℕ → ℕ
form k = get_or (0 ∷ 1 ∷ 1 ∷ 1 ∷ 0 ∷ 5 ∷ 2 ∷ 2 ∷ 0 ∷ 3 ∷ 4 ∷ []) k 0

-- THE CHILDREN OF AN OPEN NODE

-- n parts of u from part j on
unfoldable pub parts : List ℕ → ℕ → ℕ → ℕ → List ℕ
parts Γ u j zero = []
parts Γ u j (suc n) = part Γ u j ∷ parts Γ u (suc j) n

-- whose parts they are, and from which on: an enum's are its variant's behind the discriminant
unfoldable pub owner : List ℕ → ℕ → ℕ → ℕ
owner Γ t v = cond (eqb (kind Γ t) 7) (part Γ t v) t

unfoldable pub first : List ℕ → ℕ → ℕ
first Γ t = cond (eqb (kind Γ t) 7) 1 0

-- the types of the children: the pointee, the fields, the fields of variant v
-- (`downcast`, `downcast_struct`, `upvar_tys` of the source)
unfoldable pub kids : List ℕ → ℕ → ℕ → List ℕ
kids Γ t v = parts Γ (owner Γ t v) (first Γ t) (count Γ (owner Γ t v) - first Γ t)

-- has the type t a variant v to downcast to? A struct has variant 0
unfoldable pub casts : List ℕ → ℕ → ℕ → Bool
casts Γ t v = cond (eqb (kind Γ t) 7) (ltb v (count Γ t)) (eqb (kind Γ t) 6 && eqb v 0)

-- the discriminant of variant v of the enum t
unfoldable pub discriminant : List ℕ → ℕ → ℕ → ℕ
discriminant Γ t v = part Γ (part Γ t v) 0

-- REFUSAL 1

-- "T is 1 to 4,096, P at most 16,384, the counts add up to P", and the record is as long as its sizes say
unfoldable pub type_sizes : List ℕ → Bool
type_sizes Γ = leb 1 (ntypes Γ) && leb (ntypes Γ) 4096 && leb (nparts Γ) 16384
    && eqb (length Γ) (2 + ntypes Γ + ntypes Γ + nparts Γ)

unfoldable pub counts_add : List ℕ → Bool
counts_add Γ = eqb (offset Γ (ntypes Γ)) (nparts Γ)

-- a field's type: below its owner's number, and no variant
unfoldable pub field_ok : List ℕ → ℕ → ℕ → Bool
field_ok Γ t j = ltb (part Γ t j) t && not (eqb (kind Γ (part Γ t j)) 8)

-- the fields of t from part j on
unfoldable pub fields_ok : List ℕ → ℕ → ℕ → Bool
fields_ok Γ t j = all (λ i. field_ok Γ t (j + i)) (count Γ t - j)

-- any type below T, but no variant
unfoldable pub pointee_ok : List ℕ → ℕ → Bool
pointee_ok Γ t = eqb (count Γ t) 1 && ltb (part Γ t 0) (ntypes Γ) && not (eqb (kind Γ (part Γ t 0)) 8)

-- a variant below the enum's number, whose discriminant no earlier one has
unfoldable pub variant_ok : List ℕ → ℕ → ℕ → Bool
variant_ok Γ t j = ltb (part Γ t j) t && eqb (kind Γ (part Γ t j)) 8
    && all (λ i. not (eqb (discriminant Γ t i) (discriminant Γ t j))) j

unfoldable pub variants_ok : List ℕ → ℕ → Bool
variants_ok Γ t = all (variant_ok Γ t) (count Γ t)

unfoldable pub type_ok : List ℕ → ℕ → Bool
type_ok Γ t = cond (eqb (kind Γ t) 0 || eqb (kind Γ t) 4) (eqb (count Γ t) 0)
    (cond (pointer (kind Γ t)) (pointee_ok Γ t)
    (cond (fielded (kind Γ t)) (fields_ok Γ t 0)
    (cond (eqb (kind Γ t) 7) (variants_ok Γ t)
    (eqb (kind Γ t) 8 && leb 1 (count Γ t) && fields_ok Γ t 1))))

unfoldable pub all_types_ok : List ℕ → Bool
all_types_ok Γ = all (type_ok Γ) (ntypes Γ)

-- the record passes
unfoldable pub types_ok : List ℕ → Bool
types_ok Γ = type_sizes Γ && counts_add Γ && all_types_ok Γ
