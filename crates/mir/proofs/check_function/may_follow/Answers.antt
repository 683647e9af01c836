-- `mir::check_function::may_follow` meets its contract, by the groups of items. Assumes nothing.
use native.Mathlib.Omega.{arith}
use Rattle.mir.proofs.Follows.{may_follow_unknown}
use Rattle.mir.proofs.check_function.may_follow.Goals as goal

pub returns-in_default : goal.returns-in_default
returns-in_default c =
    may_follow_unknown c.args.before c.args.next (omega arith)
