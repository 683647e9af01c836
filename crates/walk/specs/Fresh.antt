-- The walk by types alone, from a folded node: what each step opens (`grows`), where it leads (`sprout`), and the codes of the
-- nodes before the one that it leads to (`trail`).
use Rattle.std.specs.Prelude.{◌≡◌, true, false, cond, List, [], ◌∷◌, ◌++◌, ℕ, suc, ◌+◌, ◌<◌, length, get_or, replicate, eqb, leb, Result, Ok, Err}
use Rattle.model.specs.Types.{ntypes, kind, pointer, fielded, shut, form, kids, casts}
use Rattle.model.specs.Tree.{Tree, leaf}
use Rattle.model.specs.State.{Code}
use Rattle.model.specs.Place.{Elem, deref, field, downcast, index, Place}
use Rattle.model.specs.Walk.{opened}
use Rattle.refusal.specs.declared.Refusal.{Refusal}
use Rattle.refusal.specs.declared.Refusal.TheVariants.{WrongStep, OtherVariant, BareVariant}
use Rattle.walk.specs.declared.step.Fresh.{Fresh}

-- a folded node of type t, behind which n nodes were added
abbrev pub folded : ℕ → ℕ → Fresh
folded t n = record { typ = t; opened = false; what = 0; added = n }

-- a node of type t, open at variant v
abbrev pub widened : ℕ → ℕ → ℕ → Fresh
widened t v n = record { typ = t; opened = true; what = v; added = n }

-- a node that the walk has come to by types alone: of a type of the record; opened by a downcast
pub record Bud (Γ : List ℕ) (f : Fresh) : Type 0 where
  pub known : f.typ < ntypes Γ
  pub cast : f.opened ≡ true → casts Γ f.typ f.what ≡ true

-- the variant at which a step opens a folded node
abbrev pub variant : Elem → ℕ
variant deref = 0
variant (field i) = 0
variant (downcast v) = v
variant index = 0

-- how many nodes a step passes
abbrev pub distance : Elem → ℕ
distance deref = 1
distance (field i) = suc i
distance (downcast v) = 0
distance index = 0

module _ (Γ : List ℕ) where
  -- the tree that it is
  unfoldable pub bud : Fresh → Tree
  bud f = cond f.opened (opened Γ f.typ f.what) (leaf f.typ)

  -- from a node that the walk has opened
  unfoldable pub grows_open : ℕ → ℕ → ℕ → Elem → Result Fresh Refusal
  grows_open t v n deref = Err WrongStep
  grows_open t v n (field i) = cond (leb (length (kids Γ t v)) i) (Err WrongStep) (Ok (folded (get_or (kids Γ t v) i 0) n))
  grows_open t v n (downcast w) = cond (casts Γ t w) (cond (eqb w v) (Ok (widened t v n)) (Err OtherVariant)) (Err WrongStep)
  grows_open t v n index = Ok (widened t v n)

  -- from a folded node
  unfoldable pub grows_folded : ℕ → ℕ → Elem → Result Fresh Refusal
  grows_folded t n deref = cond (pointer (kind Γ t)) (Ok (folded (get_or (kids Γ t 0) 0 0) (n + 1))) (Err WrongStep)
  grows_folded t n (field i) = cond (fielded (kind Γ t))
      (cond (leb (length (kids Γ t 0)) i) (Err WrongStep) (Ok (folded (get_or (kids Γ t 0) i 0) (n + length (kids Γ t 0)))))
      (Err WrongStep)
  grows_folded t n (downcast v) = cond (casts Γ t v) (Ok (widened t v (n + length (kids Γ t v)))) (Err WrongStep)
  grows_folded t n index = cond (shut (kind Γ t)) (Err WrongStep)
      (cond (eqb (kind Γ t) 7) (Err BareVariant) (Ok (widened t 0 (n + length (kids Γ t 0)))))

  unfoldable pub grows : Fresh → Elem → Result Fresh Refusal
  grows f e = cond f.opened (grows_open f.typ f.what f.added e) (grows_folded f.typ f.added e)

  -- along a place
  unfoldable pub sprout : Fresh → Place → Result Fresh Refusal
  sprout f [] = Ok f
  sprout f (e ∷ es) = elim (grows f e) [ Ok g ↦ sprout g es | Err r ↦ Err r ]

  -- CODES

  -- of the node itself, as far as it is written
  unfoldable pub stub : Fresh → List Code
  stub f = cond f.opened ((form (kind Γ f.typ), f.what) ∷ []) []

  -- the code of the node when the step has opened it
  unfoldable pub mark : Fresh → Elem → Code
  mark f e = (form (kind Γ f.typ), cond f.opened f.what (variant e))

  -- the codes of the nodes that a step passes
  unfoldable pub passing : Fresh → Elem → List Code
  passing f deref = mark f deref ∷ []
  passing f (field i) = mark f (field i) ∷ replicate i (0, 0)
  passing f (downcast v) = []
  passing f index = []

  unfoldable pub trail : Fresh → Place → List Code
  trail f [] = []
  trail f (e ∷ es) = passing f e ++ elim (grows f e) [ Ok g ↦ trail g es | Err r ↦ [] ]
