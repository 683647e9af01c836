-- `state::check_state::check_state` meets its contract: a record that has not the shape, or in which the locals' trees do not stand, is refused, and
-- any other holds those trees. Assumes nothing.
use mathlib.Core.Path.{◌≡◌, sym, ◌∙◌, ap}
use mathlib.Core.Bool.{Bool, true, false, true≢false}
use mathlib.Core.List.{List}
use mathlib.Core.Option.{none}
use Prim.Native.Nat.{ℕ}
use native.Mathlib.Omega.{arith}
use lib.ListN.{length}
use Rattle.model.specs.Tree.{Forest}
use Rattle.model.specs.State as Model
use Rattle.model.specs.State.{levels, decode}
use Rattle.base.specs.Tests.{split}
use Rattle.base.specs.Kinds.{Known}
use Rattle.records.specs.Here.{Shaped, Holds}
use Rattle.records.specs.Decode.{holds_decode}
use Rattle.records.specs.Absent.{decode_refused, decode_misshapen}
use Rattle.mir.specs.Parts.{is_some}
use Rattle.state.specs.Value.{value}
use Rattle.state.specs.Found.{FoundAll}
use Rattle.state.proofs.Fields.{ready_typed}
use borrow.Author.Rules.{rules}
use Rattle.state.proofs.check_state.check_state.Goals as goal
use Rattle.state.proofs.check_state.check_state.Goals.{then-n-gt512-via-then-n-gt512, then-n-gt512-via-else-n-gt512+then-not-zeros_from, then-n-gt512-via-else-n-gt512+else-not-zeros_from+then-not-zeros_from-2}

module _ (Γ locals : List ℕ) (s : Model.State) where
  -- nothing is read from it
  refused : decode Γ locals s ≡ none → false ≡ is_some (decode Γ locals s)
  refused e = rw e

  -- it has not the shape
  misshapen : (Shaped s → ⊥) → false ≡ is_some (decode Γ locals s)
  misshapen f = refused (decode_misshapen Γ locals s f)

  abbrev Stands : Type 0
  Stands = FoundAll Γ s.forms s.whats s.nodes levels 0 locals s.nodes

  -- trees that stand there are held
  held : Shaped s → (f : Stands) → Holds Γ locals s f.trees
  held h f = record { shape = h; trees = f.coded; count = omega (arith, f.end); deep = f.deep }

  -- and those that are held stand there
  standing : (E : Forest) → Holds Γ locals s E → Stands
  standing E h = record { trees = E; coded = h.trees; end = omega (arith, h.count); deep = h.deep; within = omega arith }

  -- r: do the trees stand there?
  decided : Known Γ → Shaped s → (r : Bool) → (r ≡ true → Stands) → (r ≡ false → Stands → ⊥) → r ≡ is_some (decode Γ locals s)
  decided known h r f g =
      split r (λ e. e ∙ sym (ap (is_some {A = Forest}) (holds_decode known (held h (f e))))) (λ e. e ∙ refused (decode_refused Γ locals s (λ E k. g e (standing E k))))

pub returns-then-n-gt512 : goal.returns-then-n-gt512
returns-then-n-gt512 c =
    let a = c.args in
    elim c.then-n-gt512.branch [
      | then-n-gt512-via-then-n-gt512 w ↦ misshapen a.types.now.words.now a.locals.now (value a.s) (λ h. omega (arith, h.few))
      | then-n-gt512-via-else-n-gt512+then-not-zeros_from w ↦
          misshapen a.types.now.words.now a.locals.now (value a.s) (λ h. true≢false (sym h.forms_zero ∙ sym w.zeros_from.ensures ∙ w.if-not-zeros_from.true))
      | then-n-gt512-via-else-n-gt512+else-not-zeros_from+then-not-zeros_from-2 w ↦
          misshapen a.types.now.words.now a.locals.now (value a.s) (λ h. true≢false (sym h.whats_zero ∙ sym w.zeros_from-else-not-zeros_from.ensures ∙ w.if-not-zeros_from-2.true))
    ]

pub returns : goal.returns
returns c =
    let a = c.args in
    let p = c.requires in
    let r = c.check_locals.ensures in
    let lf : length a.s.forms ≡ 512 = search rules in
    let lw : length a.s.whats ≡ 512 = search rules in
    decided a.types.now.words.now a.locals.now (value a.s) (ready_typed c.args.types.now.ready).known (record {
      few = c.if-n-gt512.false;
      forms_long = lf;
      whats_long = lw;
      forms_zero = sym c.zeros_from.ensures ∙ c.if-not-zeros_from.false;
      whats_zero = sym c.zeros_from-else-not-zeros_from.ensures ∙ c.if-not-zeros_from-2.false;
    }) c.check_locals.result r.0 r.1
