-- `body::items::tell` meets its contract: by what `record` ensures, where the pass records.
use mathlib.Core.Path.{refl}
use native.Mathlib.Numerals.{add-one}
use Rattle.base.specs.Tests.{clash}
use Rattle.statements.proofs.Puts.{alike_at}
use Rattle.body.proofs.items.tell.Goals as goal

pub returns-then-o : goal.returns-then-o
returns-then-o c =
    let t = c.if-o.true in
    record { told = λ e. rw (← add-one c.args.number) c.«record».ensures.puts; silent = λ e. clash (cc) }

pub returns : goal.returns
returns c =
    let t = c.if-o.false in
    record { told = λ e. clash (cc); silent = λ e. (refl, alike_at c.args.o c.args.o.point) }
