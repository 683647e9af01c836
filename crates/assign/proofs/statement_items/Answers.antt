-- `assign::statement_items` meets its contract. Assumes nothing.
use mathlib.Core.Path.{◌≡◌, refl, sym, ◌∙◌}
use Prim.Native.Nat.{◌+◌, ◌*◌, ◌≤◌, ◌<◌}
use native.Mathlib.Omega.{arith}
use borrow.Author.Tests.{eqb-true, eqb-false}
use lib.ListN.{length}
use Rattle.assign.proofs.Answering.{room_dry, promised, gives_cut, gives_unknown, counted_length, counted_word, gives_short, gives_all}
use Rattle.assign.proofs.statement_items.Goals as goal
use Rattle.assign.proofs.statement_items.Goals.{After-put_all-n, Else-out-n, then-is_empty-via-then-is_empty, then-is_empty-via-else-is_empty+then-out-n}

-- the buffer is as long as before
long : (c : After-put_all-n) → length c.put_all-n.new.out ≡ length c.args.out.now
long c = counted_length c.args.list.now (length c.args.out.now) (sym c.list_ok.ensures ∙ c.if-not-list_ok.false) (sym c.all_known.ensures ∙ c.if-not-all_known.false) refl refl c.put_all-n.ensures c.wipe.ensures

-- there is room
fits : (c : Else-out-n) → 1 + 2 * c.put_all-n.result.at ≤ length c.args.out.now
fits c =
    let some : length c.put_all-n.new.out ≡ 0 → ⊥ = eqb-false _ 0 (sym c.is_empty.ensures ∙ c.if-is_empty.false) in
    omega (arith, long (goal.at.Else-out-n c).After-put_all-n)

pub returns-then-not-list_ok : goal.returns-then-not-list_ok
returns-then-not-list_ok c =
    promised (gives_cut c.args.list.now (length c.args.out.now) c.wipe.ensures (sym c.list_ok.ensures ∙ c.if-not-list_ok.true))

pub returns-then-not-all_known : goal.returns-then-not-all_known
returns-then-not-all_known c =
    promised (gives_unknown c.args.list.now (length c.args.out.now) (sym c.list_ok.ensures ∙ c.if-not-list_ok.false) c.wipe.ensures (sym c.all_known.ensures ∙ c.if-not-all_known.true))

pub put_all-n-requires-clause-room_all : goal.put_all-n-requires-clause-room_all
put_all-n-requires-clause-room_all c = room_dry _ _ refl refl

pub returns-then-is_empty : goal.returns-then-is_empty
returns-then-is_empty c =
    let same = long (goal.at.returns-then-is_empty c).After-put_all-n in
    let short : length c.args.out.now < 1 + 2 * c.put_all-n.result.at = elim c.then-is_empty.branch [
      | then-is_empty-via-then-is_empty w ↦
          let none : length c.put_all-n.new.out ≡ 0 = eqb-true _ 0 (sym c.is_empty.ensures ∙ w.if-is_empty.true) in
          omega (arith, same)
      | then-is_empty-via-else-is_empty+then-out-n w ↦ omega (arith, same, w.if-out-n.true)
    ] in
    promised (gives_short _ _ (sym c.list_ok.ensures ∙ c.if-not-list_ok.false) (sym c.all_known.ensures ∙ c.if-not-all_known.false) refl refl c.put_all-n.ensures c.wipe.ensures short)

pub returns : goal.returns
returns c =
    let e = sym c.list_ok.ensures ∙ c.if-not-list_ok.false in
    let k = sym c.all_known.ensures ∙ c.if-not-all_known.false in
    let word = c.small.ensures ∙ counted_word c.args.list.now (length c.args.out.now) e k refl refl c.put_all-n.ensures c.wipe.ensures in
    promised (gives_all c.args.list.now (length c.args.out.now) e k refl refl c.put_all-n.ensures c.wipe.ensures _ refl refl (fits (goal.at.returns c).Else-out-n) word c.put_all.ensures)
