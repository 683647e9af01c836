-- `mir::check_function::locals_ok` meets its contract: each local is tested. Assumes nothing.
use mathlib.Core.Path.{◌≡◌}
use mathlib.Core.Bool.{Bool, true, false}
use mathlib.Core.List.{List}
use Prim.Native.Nat.{ℕ, ◌≤◌}
use lib.ListN.{length, get_or}
use borrow.Author.Rules.{rules}
use borrow.Author.Tests.{le-leb}
use Rattle.std.proofs.lemmas.Iterator.{cases_from_all, YieldsList-from_slice}
use Rattle.model.specs.Words.{all}
use Rattle.model.specs.State.{local_ok, locals_ok}
use Rattle.mir.specs.Parts.{type_usable}
use Rattle.mir.proofs.Each.{all_read}
use Rattle.mir.proofs.check_function.locals_ok.Goals as goal

-- with their number within its limits, the locals decide
decides : (Γ locals : List ℕ) (r : Bool) → 1 ≤ length locals → length locals ≤ 256 → r ≡ all (λ i. type_usable Γ (get_or locals i 0)) (length locals) → r ≡ locals_ok Γ locals
unfolding locals_ok local_ok type_usable
decides Γ locals r h l e = rw (le-leb 1 (length locals) h, le-leb (length locals) 256 l) e

pub returns-then-locals-le-MOST_LOCALS : goal.returns-then-locals-le-MOST_LOCALS
returns-then-locals-le-MOST_LOCALS c =
    let a = c.args in
    let h = c.if-locals-le-MOST_LOCALS.true in
    decides _ _ _ h.0 h.1
    (all_read (type_usable a.types.now) a.locals.now c.all.result
    (cases_from_all _ _ _ (λ t. type_usable a.types.now t ≡ true) (λ t. type_usable a.types.now t ≡ false) c.all.ensures.ran (YieldsList-from_slice a.locals.now cc) (λ x q k. search rules) (λ x q k. search rules)))
