-- What an item's code says its element is.
use mathlib.Core.Path.{◌≡◌}
use mathlib.Core.Logic.{◌≢◌}
use Prim.Native.Nat.{ℕ}
use lib.Dec.{eqb}
use borrow.Author.Tests.{ne_eqb}
use Rattle.model.specs.Place.{deref, field, downcast, index}
use Rattle.model.specs.Block.{elem_of}
use Rattle.base.specs.Tests.{split}
use Rattle.walk.specs.Fresh.{variant, distance}

module _ (o a : ℕ) where
  -- 1 is a deref
  pub elem_deref : o ≡ 1 → elem_of o a ≡ deref
  unfolding elem_of
  elem_deref e = rw e

  -- 2 is a field
  pub elem_field : o ≡ 2 → elem_of o a ≡ field a
  unfolding elem_of
  elem_field e = rw e

  -- 3 is a downcast
  pub elem_cast : o ≡ 3 → elem_of o a ≡ downcast a
  unfolding elem_of
  elem_cast e = rw e

  -- any other code stands for an index
  pub elem_other : o ≢ 1 → o ≢ 2 → o ≢ 3 → elem_of o a ≡ index
  unfolding elem_of
  elem_other p q r = rw (ne_eqb o 1 p, ne_eqb o 2 q, ne_eqb o 3 r)

-- only a downcast has a variant
pub variant_other : (o a : ℕ) → o ≢ 3 → variant (elem_of o a) ≡ 0
unfolding elem_of
variant_other o a n = split (eqb o 1) (λ p. rw p) (λ p. split (eqb o 2) (λ q. rw (p, q)) (λ q. rw (p, q, ne_eqb o 3 n)))

-- a downcast and an index pass no node, nor does what stands for one
pub distance_other : (o a : ℕ) → o ≢ 1 → o ≢ 2 → distance (elem_of o a) ≡ 0
unfolding elem_of
distance_other o a p q = split (eqb o 3) (λ r. rw (ne_eqb o 1 p, ne_eqb o 2 q, r)) (λ r. rw (ne_eqb o 1 p, ne_eqb o 2 q, r))
