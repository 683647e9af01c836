-- One step by types alone, case by case: what the code's tests say of `grows`.
use mathlib.Core.Path.{◌≡◌}
use mathlib.Core.Logic.{◌≢◌}
use mathlib.Core.Bool.{true, false}
use mathlib.Core.List.{List}
use Prim.Native.Nat.{ℕ, ◌+◌, ◌<◌, ◌≤◌}
use lib.ListN.{length, get_or}
use borrow.Author.Tests.{le-leb, lt-leb, eq-eqb, ne_eqb}
use Rattle.std.specs.Prelude.{Ok, Err}
use Rattle.refusal.specs.declared.Refusal.TheVariants.{WrongStep, OtherVariant, BareVariant}
use Rattle.model.specs.Types.{kind, pointer, fielded, shut, kids, casts}
use Rattle.model.specs.Place.{Elem, deref, field, downcast, index}
use Rattle.walk.specs.Fresh.{folded, widened, grows_open, grows_folded, grows}
use Rattle.walk.specs.declared.step.Fresh.{Fresh}

-- from a node that the walk has opened
module _ (Γ : List ℕ) (t v n : ℕ) {e : Elem} where
  -- no deref
  pub open_deref : e ≡ deref → Err WrongStep ≡ grows_open Γ t v n e
  unfolding grows_open
  open_deref d = rw d

  -- an index stays
  pub open_index : e ≡ index → Ok (widened t v n) ≡ grows_open Γ t v n e
  unfolding grows_open
  open_index d = rw d

  module _ (a : ℕ) where
    -- a field that it has not
    pub open_field_past : e ≡ field a → length (kids Γ t v) ≤ a → Err WrongStep ≡ grows_open Γ t v n e
    unfolding grows_open
    open_field_past d l = rw (d, le-leb (length (kids Γ t v)) a l)

    -- a field
    pub open_field : e ≡ field a → a < length (kids Γ t v) → Ok (folded (get_or (kids Γ t v) a 0) n) ≡ grows_open Γ t v n e
    unfolding grows_open
    open_field d l = rw (d, lt-leb (length (kids Γ t v)) a l)

    -- a downcast to no variant of it
    pub open_none : e ≡ downcast a → casts Γ t a ≡ false → Err WrongStep ≡ grows_open Γ t v n e
    unfolding grows_open
    open_none d c = rw (d, c)

    -- to another variant
    pub open_other : e ≡ downcast a → casts Γ t a ≡ true → a ≢ v → Err OtherVariant ≡ grows_open Γ t v n e
    unfolding grows_open
    open_other d c x = rw (d, c, ne_eqb a v x)

    -- to its own
    pub open_same : e ≡ downcast a → casts Γ t a ≡ true → a ≡ v → Ok (widened t v n) ≡ grows_open Γ t v n e
    unfolding grows_open
    open_same d c x = rw (d, c, eq-eqb a v x)

-- from a folded node
module _ (Γ : List ℕ) (t n : ℕ) {e : Elem} where
  -- a deref of no pointer
  pub folded_no_deref : e ≡ deref → pointer (kind Γ t) ≡ false → Err WrongStep ≡ grows_folded Γ t n e
  unfolding grows_folded
  folded_no_deref d p = rw (d, p)

  -- of a pointer
  pub folded_deref : e ≡ deref → pointer (kind Γ t) ≡ true → Ok (folded (get_or (kids Γ t 0) 0 0) (n + 1)) ≡ grows_folded Γ t n e
  unfolding grows_folded
  folded_deref d p = rw (d, p)

  -- an unfold of what cannot be opened
  pub folded_shut : e ≡ index → shut (kind Γ t) ≡ true → Err WrongStep ≡ grows_folded Γ t n e
  unfolding grows_folded
  folded_shut d p = rw (d, p)

  -- of an enum
  pub folded_enum : e ≡ index → shut (kind Γ t) ≡ false → kind Γ t ≡ 7 → Err BareVariant ≡ grows_folded Γ t n e
  unfolding grows_folded
  folded_enum d p k = rw (d, p, eq-eqb (kind Γ t) 7 k)

  -- of anything else
  pub folded_index : e ≡ index → shut (kind Γ t) ≡ false → kind Γ t ≢ 7 → Ok (widened t 0 (n + length (kids Γ t 0))) ≡ grows_folded Γ t n e
  unfolding grows_folded
  folded_index d p k = rw (d, p, ne_eqb (kind Γ t) 7 k)

  module _ (a : ℕ) where
    -- a field of what has none
    pub folded_no_field : e ≡ field a → fielded (kind Γ t) ≡ false → Err WrongStep ≡ grows_folded Γ t n e
    unfolding grows_folded
    folded_no_field d p = rw (d, p)

    -- one that it has not
    pub folded_field_past : e ≡ field a → fielded (kind Γ t) ≡ true → length (kids Γ t 0) ≤ a → Err WrongStep ≡ grows_folded Γ t n e
    unfolding grows_folded
    folded_field_past d p l = rw (d, p, le-leb (length (kids Γ t 0)) a l)

    -- a field
    pub folded_field : e ≡ field a → fielded (kind Γ t) ≡ true → a < length (kids Γ t 0)
        → Ok (folded (get_or (kids Γ t 0) a 0) (n + length (kids Γ t 0))) ≡ grows_folded Γ t n e
    unfolding grows_folded
    folded_field d p l = rw (d, p, lt-leb (length (kids Γ t 0)) a l)

    -- a downcast to no variant of it
    pub folded_none : e ≡ downcast a → casts Γ t a ≡ false → Err WrongStep ≡ grows_folded Γ t n e
    unfolding grows_folded
    folded_none d c = rw (d, c)

    -- a downcast
    pub folded_cast : e ≡ downcast a → casts Γ t a ≡ true → Ok (widened t a (n + length (kids Γ t a))) ≡ grows_folded Γ t n e
    unfolding grows_folded
    folded_cast d c = rw (d, c)

-- from either
module _ (Γ : List ℕ) (f : Fresh) (e : Elem) where
  -- a node that the walk has opened
  pub grows_opened : f.opened ≡ true → grows Γ f e ≡ grows_open Γ f.typ f.what f.added e
  unfolding grows
  grows_opened o = rw o

  -- one that it has not
  pub grows_closed : f.opened ≡ false → grows Γ f e ≡ grows_folded Γ f.typ f.added e
  unfolding grows
  grows_closed o = rw o
