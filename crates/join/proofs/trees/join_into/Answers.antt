-- `join::trees::join_into` meets its contract: what `join_locals` and `clear` ensure, put together by the laws of `Joined`.
use Rattle.std.proofs.Common.{◌∙◌}
use Rattle.state.proofs.Fronted.{cleared_fronted}
use Rattle.join.proofs.Joined.{joined_full, joined_some}
use Rattle.join.proofs.trees.join_into.Goals as goal

pub returns-in_err-r : goal.returns-in_err-r
returns-in_err-r c = λ S E h g. rw c.from_residual.ensures (joined_full h.trees g.trees c.in_err-r.ensures)

pub returns : goal.returns
returns c =
    let R = c.requires.room in
    let J = c.join_locals in
    λ S E h g. rw (
      c.clear.ensures ∙ cleared_fronted _ _ (J.auto.of ∙ R.forms),
      c.clear-2.ensures ∙ cleared_fronted _ _ (J.auto.ow ∙ R.whats),
    ) (joined_some h.trees g.trees c.in_ok-r.ensures)
