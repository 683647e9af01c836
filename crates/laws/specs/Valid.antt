-- The states of a run: of the local types, with 512 nodes and 64 levels at the most. All that a run does keeps them.
use Rattle.std.specs.Prelude.{◌≡◌, true, false, List, ℕ, ◌≤◌, ◌<◌, length}
use Rattle.std.proofs.Common.{arith}
use Rattle.model.specs.Tree.{leaves, joins, sizes, Forest, flagss}
use Rattle.model.specs.Typing.{depths, Fits}
use Rattle.model.specs.State.{most, levels}
use Rattle.model.specs.Place.{steps, Spot}
use Rattle.model.specs.Walk.{downcasting}
use Rattle.model.specs.Measure.{measure}
use Rattle.base.specs.Answer.{good_at, good_same, Good}
use Rattle.laws.specs.Typing.{fits_leaves, fits_join}
use Rattle.laws.specs.Sizes.{sizes_leaves}
use Rattle.laws.specs.Flags.{flags1_changed}
use Rattle.laws.specs.Measure.{measure_falls}
use Rattle.laws.specs.Depth.{depths_leaves, joins_depths}
use Rattle.laws.specs.Projection.{cast_fits, downcasting_cast}
use Rattle.laws.specs.Levels.{cast_at_levels}

-- a state of a run
pub record Valid (Γ ts : List ℕ) (E : Forest) : Type 0 where
  pub fits : Fits Γ ts E
  pub small : sizes E ≤ most
  pub shallow : depths E ≤ levels

module _ {Γ ts : List ℕ} where
  -- at the entry
  pub leaves_valid : length ts ≤ most → Valid Γ ts (leaves ts)
  leaves_valid h = record { fits = fits_leaves ts; small = omega (arith, sizes_leaves ts); shallow = omega (arith, depths_leaves ts) }

  -- a join that fits
  pub joins_valid : {ss es : Forest} → Valid Γ ts ss → Valid Γ ts es → sizes (joins Γ false ss es) ≤ most → Valid Γ ts (joins Γ false ss es)
  joins_valid {ss} {es} a b h = record {
    fits = fits_join false a.fits b.fits;
    small = h;
    shallow = omega (arith, joins_depths Γ false ss es, a.shallow, b.shallow);
  }

  -- one that changes the first state lowers the measure
  pub joins_falls : {ss es : Forest} → Valid Γ ts ss → Valid Γ ts es → sizes (joins Γ false ss es) ≤ most
      → (flagss Γ false ss es).0 ≡ true → measure Γ (joins Γ false ss es) < measure Γ ss
  joins_falls a b h e = measure_falls a.fits b.fits a.small h ((flags1_changed false a.fits b.fits).0 e)

  -- and a match arm
  pub downcasting_valid : {E : Forest} (q : Spot) (v : ℕ) → Valid Γ ts E → steps q.place ≤ 63 → Good (Valid Γ ts) (downcasting Γ q v E)
  downcasting_valid {E} q v a h = good_same (λ D k. record {
    fits = good_at (cast_fits Γ q v a.fits) k.0;
    small = k.1;
    shallow = good_at (cast_at_levels Γ q v E h a.shallow) k.0;
  }) (downcasting_cast Γ q v E)
