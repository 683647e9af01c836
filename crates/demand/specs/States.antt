-- The states of a function's run: of its local types, open at 64 levels at most. They meet what is asked of states and trees.
use Rattle.std.specs.Prelude.{◌≡◌, true, List, ℕ, ◌≤◌}
use Rattle.std.proofs.Common.{◌∙◌, arith}
use Rattle.std.proofs.Math.Bool.{false}
use borrow.Author.Tests.{leb-true}
use Rattle.model.specs.Types.{types_ok}
use Rattle.model.specs.Tree.{Forest, joins, leaves, sizes}
use Rattle.model.specs.Typing.{depths, Fits}
use Rattle.model.specs.State.{most, levels}
use Rattle.model.specs.Function.{nlocals, nargs, local_types}
use Rattle.model.specs.Body.{frame}
use Rattle.base.specs.Answer.{good_at}
use Rattle.base.specs.Function.{FunctionFacts, length_local_types}
use Rattle.laws.specs.Order.{states}
use Rattle.laws.specs.Flags.{flags1_law, flags1_changed}
use Rattle.laws.specs.Measure.{measure_bound, measure_falls}
use Rattle.laws.specs.Places.{used_limits}
use Rattle.laws.specs.Sound.{types_sound}
use Rattle.laws.specs.Projection.{projection_carry, downcasting_cast}
use Rattle.laws.proofs.Projection.{projection_quiet}
use Rattle.laws.specs.Passed.{projection_tells}
use Rattle.laws.specs.Lifted.{collects_dashed}
use Rattle.laws.specs.Depth.{joins_depths}
use Rattle.laws.specs.Valid.{Valid, leaves_valid, downcasting_valid}
use Rattle.laws.proofs.Valid.{projection_valid}
use Rattle.laws.specs.Carried.{goto_above}
use Rattle.model.specs.Collect.{returned_at}
use Rattle.laws.specs.Returned.{folds_at_ret_carry}
use Rattle.solver.specs.Laws.{Good, Lattice, Collects}
use Rattle.graph.specs.Trees.{small_good, Trees}
use Rattle.graph.specs.Bridge.{carries_same}

-- what a run keeps of a state, but for its number of nodes
pub record Shaped (Γ ts : List ℕ) (E : Forest) : Type 0 where
  pub fits : Fits Γ ts E
  pub shallow : depths E ≤ levels

module _ (Γ fn : List ℕ) where
  -- the states of the function fn
  abbrev pub Ok : Forest → Type 0
  Ok E = Shaped Γ (local_types fn) E

  -- a good state is one that a state record may have
  pub good_valid : {E : Forest} → Good (frame Γ fn) Ok E → Valid Γ (local_types fn) E
  unfolding frame
  good_valid {E} g = record { fits = g.ok.fits; small = leb-true (sizes E) most g.fits; shallow = g.ok.shallow }

  -- such a state is shaped
  valid_shaped : {E : Forest} → Valid Γ (local_types fn) E → Ok E
  valid_shaped v = record { fits = v.fits; shallow = v.shallow }

  -- THE JOIN
  pub frame_lattice : Lattice (frame Γ fn) Ok
  unfolding frame
  frame_lattice =
      let L = states Γ false (local_types fn) in
      record {
        laws = record {
          ok = λ {a} {b} f g. record { fits = L.ok f.fits g.fits; shallow = omega (arith, joins_depths Γ false a b, f.shallow, g.shallow) };
          self = L.self;
          comm = λ f g. L.comm f.fits g.fits;
          assoc = λ f g h. L.assoc f.fits g.fits h.fits;
        };
        unchanged = λ f g e. (flags1_law false f.fits g.fits).0 e;
        falls = λ {S} {E} f g r e. measure_falls f.ok.fits g.fits (leb-true (sizes S) most f.fits) (leb-true (sizes (joins Γ false S E)) most r)
            ((flags1_changed false f.ok.fits g.fits).0 e);
        bounded = λ {E} g. measure_bound Γ E (leb-true (sizes E) most g.fits);
      }

  -- at the entry
  pub folded_good : FunctionFacts fn → Good (frame Γ fn) Ok (leaves (local_types fn))
  folded_good A =
      let v : Valid Γ (local_types fn) (leaves (local_types fn)) = leaves_valid (omega (arith, A.few_locals, length_local_types A)) in
      small_good Γ fn (valid_shaped v) v.small

  module _ (t : types_ok Γ ≡ true) where
    -- THE COLLECTION
    pub frame_collects : Collects (frame Γ fn) Ok
    unfolding frame
    frame_collects = record {
      collects = λ {S} {E} f g e.
          let (a, c, d) = goto_above Γ (types_sound Γ t) false f.fits g.fits e in
          record { stmts = a; given = c; leads = carries_same Γ fn a E ∙ d };
    }

    -- PLACES USED, MATCH ARMS, RETURNS: what the laws of trees say
    pub frame_trees : Trees Γ fn Ok
    frame_trees = record {
      projects = λ q E u g e.
          let n = used_limits (nlocals fn) q u in
          let v = good_at (projection_valid q (good_valid g) n.plain n.near) e in
          record {
            ok = valid_shaped v;
            small = v.small;
            carried = good_at (projection_carry Γ q E n.plain) e;
            quiet = good_at (projection_quiet Γ q E n.plain) e;
            tells = good_at (projection_tells Γ q E) e;
          };
      opens = λ q v E u g e.
          let w = good_at (downcasting_valid q v (good_valid g) (used_limits (nlocals fn) q u).near) e in
          record { ok = valid_shaped w; small = w.small; cast = (good_at (downcasting_cast Γ q v E) e).0 };
      dashed = λ E D ts e. good_at (collects_dashed Γ E D) e;
      returns = λ {E} o. (returned_at Γ (nargs fn) E, folds_at_ret_carry Γ (types_sound Γ t) (nargs fn) o.fits);
    }
