-- `assign::list::place_end` meets its contract. Assumes nothing.
use mathlib.Core.Path.{refl, sym, ◌∙◌}
use borrow.Author.Tests.{eqb-true, not-true, not-false}
use Rattle.assign.proofs.Ends.{end_cut, end_constant, end_rootless, end_other, end_place}
use Rattle.assign.proofs.list.place_end.Goals as goal
use Rattle.assign.proofs.list.place_end.Goals.{then-list-at-ne-ROOT, else-list-at-ne-ROOT, else-n-ne0-via-then-n-ne0+else-not-elements_ok, else-n-ne0-via-else-n-ne0}

pub returns-then-list-at : goal.returns-then-list-at
returns-then-list-at c = end_cut _ c.args.at _ c.requires refl c.if-list-at.true

pub returns-then-not-elements_ok : goal.returns-then-not-elements_ok
returns-then-not-elements_ok c =
    elim c.if-list-at-ne-ROOT.branch [
      | then-list-at-ne-ROOT w ↦ end_rootless _ c.args.at _ c.requires refl c.if-list-at.false c.if-n-ne0.true w.if-list-at-ne-ROOT.true
      | else-list-at-ne-ROOT w ↦
          end_other _ c.args.at _ c.requires refl c.if-list-at.false c.if-n-ne0.true w.if-list-at-ne-ROOT.false w.elements_ok.ensures (not-true _ (sym w.value-is ∙ c.if-not-elements_ok.true))
    ]

pub returns : goal.returns
returns c =
    elim c.else-n-ne0.branch [
      | else-n-ne0-via-then-n-ne0+else-not-elements_ok w ↦ elim w.if-list-at-ne-ROOT.branch [
        | then-list-at-ne-ROOT v ↦ absurd (v.if-list-at-ne-ROOT.true (eqb-true _ 0 (not-false _ (sym v.value-is ∙ w.if-not-elements_ok.false))))
        | else-list-at-ne-ROOT v ↦
            end_place _ c.args.at _ c.requires refl c.if-list-at.false w.if-n-ne0.true v.if-list-at-ne-ROOT.false v.elements_ok.ensures (not-false _ (sym v.value-is ∙ w.if-not-elements_ok.false))
      ]
      | else-n-ne0-via-else-n-ne0 w ↦ end_constant _ c.args.at _ c.requires refl c.if-list-at.false w.if-n-ne0.false
    ]
