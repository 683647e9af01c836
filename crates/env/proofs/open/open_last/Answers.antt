-- `env::open::open_last` meets its contract: the last step is refused, nodes are opened, or the state stays. Assumes nothing.
use Rattle.env.proofs.Answered.{lasts_opens}
use Rattle.env.proofs.open.open_last.Goals as goal

pub returns-in-Some : goal.returns-in-Some
returns-in-Some c =
    let a = c.args in
    λ E q h is. (lasts_opens a.ops.now a.args.now a.more c.in-Some.is (c.in_ok-opens.ensures E q h is)).gives _ c.open_nodes.ensures
