-- A tree that stands in the arrays with room for its ways: its place, its children, and the first of several. Assumes nothing.
use mathlib.Core.Path.{◌≡◌, ◌∙◌, ap}
use mathlib.Core.List.{List, ◌∷◌}
use Prim.Native.Nat.{ℕ, ◌+◌, ◌≤◌, ◌<◌}
use native.Mathlib.Omega.{arith}
use lib.ListN.{length, get_or}
use Rattle.model.specs.Types.{kids}
use Rattle.model.specs.Tree.{Tree, Forest, size, sizes}
use Rattle.model.specs.Typing.{Openable, Fits, fit_none, fit_more, depth, depths}
use Rattle.records.specs.Here.{Coded, Here}
use Rattle.records.specs.Codes.{size_pos}
use Rattle.records.specs.Coded.{coded_in_forms, coded_in_whats, coded_opened, coded_split}
use Rattle.collectors.specs.Trail.{Long}
use Rattle.collectors.specs.Gets.{Stands, StandAll}

-- trees have a node each
sizes_many : {Γ ts : List ℕ} {xs : Forest} → Fits Γ ts xs → length ts ≤ sizes xs
unfolding sizes
sizes_many fit_none = omega arith
sizes_many (fit_more {s} f gs) = omega (arith, size_pos s, sizes_many gs)

-- the arrays of a path keep their length
pub long_kept : {ops args ops' args' : List ℕ} → Long ops args → length ops' ≡ length ops → length args' ≡ length args → Long ops' args'
long_kept L e d = record { first = e ∙ L.first; second = d ∙ L.second }

module _ {Γ fs ws : List ℕ} {i t n : ℕ} (h : Stands Γ fs ws i t n) where
  -- a tree is there
  pub stands_here : Here Γ fs ws i t
  stands_here = record { tree = h.tree; coded = h.coded }

  -- its place is in both arrays
  pub stands_in : (i < length fs) × (i < length ws)
  stands_in = (omega (arith, coded_in_forms h.coded, size_pos h.tree), omega (arith, coded_in_whats h.coded, size_pos h.tree))

  -- it is open
  module _ (f : get_or fs i 0 ≡ 0 → ⊥) where
    -- at a variant that it may be open at
    pub stands_openable : Openable Γ t (get_or ws i 0)
    stands_openable = (coded_opened h.coded f).openable

    -- its children stand behind it
    pub stands_below : StandAll Γ fs ws (i + 1) (kids Γ t (get_or ws i 0)) (n + 2)
    unfolding depth
    stands_below =
        let O = coded_opened h.coded f in
        record { trees = O.children; coded = O.below; room = omega (arith, h.room, ap depth O.is) }

    -- and are in the array
    pub stands_enough : i + 1 + length (kids Γ t (get_or ws i 0)) ≤ length fs
    stands_enough =
        let O = coded_opened h.coded f in
        omega (arith, coded_in_forms h.coded, O.long, sizes_many O.below.fits)

-- the first of several trees
pub stands_first : {Γ fs ws us ts : List ℕ} {i t n m : ℕ} → StandAll Γ fs ws i us n → us ≡ t ∷ ts → m ≤ n → Stands Γ fs ws i t m
unfolding depths
stands_first h e l =
    let S = coded_split (rw e at h.coded) in
    record { tree = S.head; coded = S.here; room = omega (arith, h.room, ap depths S.is) }

-- the others
pub stands_rest : {Γ fs ws us ts : List ℕ} {i j t n : ℕ} → StandAll Γ fs ws i us n → us ≡ t ∷ ts → ((x : Tree) → Coded Γ fs ws i t x → j ≡ i + size x)
    → StandAll Γ fs ws j ts n × (i < j) × (j ≤ length fs)
unfolding depths
stands_rest h e g =
    let S = coded_split (rw e at h.coded) in
    let d = g S.head S.here in (
      record { trees = S.tail; coded = rw d S.rest; room = omega (arith, h.room, ap depths S.is) },
      omega (arith, d, size_pos S.head),
      omega (arith, d, coded_in_forms S.here),
    )
