-- `merge::merge_types` meets its contract. Assumes nothing.
use mathlib.Core.Path.{sym, ◌∙◌}
use native.Mathlib.Omega.{arith}
use lib.ListN.{length}
use Rattle.refusal.specs.declared.Refusal.TheVariants.{BadTypes}
use Rattle.std.proofs.Common.{Err}
use Rattle.merge.specs.Answers.{Gives}
use Rattle.merge.proofs.Answering.{promised, gives_first, gives_second, gives_large, gives_short, gives_merged}
use Rattle.merge.proofs.merge_types.Goals as goal
use Rattle.merge.proofs.merge_types.Goals.{then-not-check_types-via-then-not-check_types, then-not-check_types-via-else-not-check_types+then-not-check_types-2}

pub returns-then-not-check_types : goal.returns-then-not-check_types
returns-then-not-check_types c =
    let a = c.args in
    let g : Gives a.first.now a.second.now (length a.out.now) c.wipe.new.out (Err BadTypes) = elim c.then-not-check_types.branch [
      | then-not-check_types-via-then-not-check_types w ↦ gives_first _ _ _ c.wipe.ensures (sym c.check_types.ensures.answer ∙ w.if-not-check_types.true)
      | then-not-check_types-via-else-not-check_types+then-not-check_types-2 w ↦
          gives_second _ _ _ (sym c.check_types.ensures.answer ∙ w.if-not-check_types.false) c.wipe.ensures
          (sym w.check_types-else-not-check_types.ensures.answer ∙ w.if-not-check_types-2.true)
    ] in
    let p = promised g in
    record { gives = p.0; numbered = p.1; passes = p.2; links = p.3 }

pub sums_ok-requires : goal.sums_ok-requires
sums_ok-requires c = record {
  first_value = sym c.check_types.ensures.answer ∙ c.if-not-check_types.false;
  second_value = sym c.check_types-else-not-check_types.ensures.answer ∙ c.if-not-check_types-2.false;
}

pub returns-then-not-sums_ok : goal.returns-then-not-sums_ok
returns-then-not-sums_ok c =
    let a = c.args in
    let p = promised (gives_large a.first.now a.second.now (length a.out.now) (sym c.check_types.ensures.answer ∙ c.if-not-check_types.false)
    (sym c.check_types-else-not-check_types.ensures.answer ∙ c.if-not-check_types-2.false) c.wipe.ensures (sym c.sums_ok.ensures ∙ c.if-not-sums_ok.true)) in
    record { gives = p.0; numbered = p.1; passes = p.2; links = p.3 }

pub merged_length-n-requires : goal.merged_length-n-requires
merged_length-n-requires c = record {
  first_value = sym c.check_types.ensures.answer ∙ c.if-not-check_types.false;
  second_value = sym c.check_types-else-not-check_types.ensures.answer ∙ c.if-not-check_types-2.false;
}

pub returns-then-out-n : goal.returns-then-out-n
returns-then-out-n c =
    let a = c.args in
    let p = promised (gives_short a.first.now a.second.now (length a.out.now) (sym c.check_types.ensures.answer ∙ c.if-not-check_types.false)
    (sym c.check_types-else-not-check_types.ensures.answer ∙ c.if-not-check_types-2.false) (sym c.sums_ok.ensures ∙ c.if-not-sums_ok.false)
    c.merged_length-n.ensures c.wipe.ensures (omega arith)) in
    record { gives = p.0; numbered = p.1; passes = p.2; links = p.3 }

pub write-requires : goal.write-requires
write-requires c =
    let t = c.check_types-else-not-check_types.ensures in
    record {
      first_value = sym c.check_types.ensures.answer ∙ c.if-not-check_types.false;
      second_in_bounds = omega (arith, c.merged_length-n.ensures);
    }

pub returns : goal.returns
returns c =
    let a = c.args in
    let p = promised (gives_merged a.first.now a.second.now (length a.out.now) (sym c.check_types.ensures.answer ∙ c.if-not-check_types.false)
    (sym c.check_types-else-not-check_types.ensures.answer ∙ c.if-not-check_types-2.false) (sym c.sums_ok.ensures ∙ c.if-not-sums_ok.false)
    c.merged_length-n.ensures c.wipe.ensures (omega arith) c.write.ensures) in
    record { gives = p.0; numbered = p.1; passes = p.2; links = p.3 }
