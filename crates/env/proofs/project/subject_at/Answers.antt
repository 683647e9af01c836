-- `env::project::subject_at` meets its contract, by where the walk has ended. Assumes nothing.
use mathlib.Core.Path.{◌≡◌, refl, sym, ◌∙◌}
use mathlib.Core.Bool.{true, false}
use mathlib.Core.List.{List}
use mathlib.Core.Option.{some}
use Prim.Native.Nat.{ℕ, ◌≤◌, ◌<◌}
use native.Mathlib.Omega.{arith}
use lib.ListN.{length}
use Rattle.std.proofs.Common.{rules}
use Rattle.std.specs.Prelude.{Err}
use Rattle.model.specs.Tree.{Tree}
use Rattle.model.specs.Place.{Spot, no_index}
use Rattle.model.specs.Calls.{spot_of}
use Rattle.base.specs.Tests.{split}
use Rattle.laws.specs.Places.{walked_all, walked_less}
use Rattle.type_record.proofs.KindLaws.{kind_is, kind_not}
use Rattle.type_record.specs.declared.kinds.Kind.TheVariants.{Enum}
use Rattle.state.proofs.Fields.{ready_typed}
use Rattle.walk.specs.Site.{Site}
use Rattle.walk.specs.declared.along.Walk.{Walk}
use Rattle.walk.proofs.Places.{length_ops}
use Rattle.walk.proofs.Ends.{site_ended}
use Rattle.env.proofs.Limits.{used_walks}
use Rattle.env.proofs.Walked.{walk_given, walk_limited, walk_sited}
use Rattle.env.proofs.Lasts.{sited_bud}
use Rattle.env.proofs.Subjects.{subject_refused, subject_element, subject_enum, subject_other}
use Rattle.env.proofs.project.subject_at.Goals as goal

-- the walk ends before the place does exactly if the place holds an index
module _ {Γ fs ws ops args : List ℕ} {i : ℕ} {x : Tree} {w : Walk} (q : Spot) (is : spot_of ops args ≡ some q) (W : Site Γ fs ws ops args i q.place x w) where
  walked_short : w.walked < length ops → no_index q.place ≡ false
  walked_short l = split (no_index q.place) (λ y. absurd (omega (arith, l, W.far, walked_all q.place y, length_ops ops args is))) (λ y. y)

  walked_whole : length ops ≤ w.walked → no_index q.place ≡ true
  walked_whole l = split (no_index q.place) (λ y. y) (λ y. absurd (omega (arith, l, W.far, walked_less q.place y, length_ops ops args is)))

pub ensure_unfolded-requires : goal.ensure_unfolded-requires
ensure_unfolded-requires c = (c.requires.0, (c.requires.1.0, (c.requires.1.1.0, walk_given (used_walks (length c.args.locals.now)) c.requires.1.1.1)))

pub returns-in_err-w : goal.returns-in_err-w
returns-in_err-w c =
    let e : c.from_residual.result ≡ Err c.in_err-w.field-0.0 = search rules in
    rw e (λ n E q h is. sym (rw (subject_refused h.trees.fits q (walk_limited (used_walks (length c.args.locals.now)) c.requires.1.1.1 is).known (c.in_err-w.ensures n E q h is))))

pub kind_at-requires : goal.kind_at-requires
kind_at-requires c =
    let g = c.requires.1.1.1 in
    let h = ready_typed c.requires.0 in
    record { t_bound = (sited_bud h (walk_sited (used_walks (length c.args.locals.now)) g (c.in_ok-w.ensures c.requires.1.1.0) g.holds g.is)).known }

-- a walk that ends before the place does ends at an index
pub returns-then-early : goal.returns-then-early
returns-then-early c =
    λ n E q h is.
    let W = c.in_ok-w.ensures n E q h is in
    sym (rw (subject_element h.trees.fits q (walk_limited (used_walks (length c.args.locals.now)) c.requires.1.1.1 is).known (site_ended (ready_typed c.requires.0) is W) (walked_short q is W c.if-early.true)))

pub returns-in-Enum : goal.returns-in-Enum
returns-in-Enum c =
    λ n E q h is.
    let W = c.in_ok-w.ensures n E q h is in
    sym (rw (subject_enum h.trees.fits q (walk_limited (used_walks (length c.args.locals.now)) c.requires.1.1.1 is).known (site_ended (ready_typed c.requires.0) is W) (walked_whole q is W (omega arith))
    (kind_is _ Enum (sym c.in-Enum.ensures) refl)))

pub returns-in_default : goal.returns-in_default
returns-in_default c =
    λ n E q h is.
    let W = c.in_ok-w.ensures n E q h is in
    sym (rw (subject_other h.trees.fits q (walk_limited (used_walks (length c.args.locals.now)) c.requires.1.1.1 is).known (site_ended (ready_typed c.requires.0) is W) (walked_whole q is W (omega arith))
    (kind_not _ Enum (λ e. c.in_default.not-Enum (c.kind_at.ensures ∙ e)) refl)))
