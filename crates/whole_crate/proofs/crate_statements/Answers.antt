-- `whole_crate::crate_statements` meets its contract: by the tests and the functions one after another.
use mathlib.Core.Path.{refl}
use Rattle.fold_unfold.proofs.Answered.{own_zeros}
use Rattle.whole_crate.proofs.Answering.{called_denied, called_passed, called_replayed, called_numbered}
use Rattle.whole_crate.proofs.crate_statements.Goals as goal

pub returns-in-Err : goal.returns-in-Err
returns-in-Err c =
    let a = c.args in
    let L = called_denied a.types.now a.words.now a.forms.now a.whats.now a.out.now c.in-Err.ensures
    (c.fill.ensures.after (λ y e. e)) (c.fill-2.ensures.after (λ y e. e)) (c.fill-3.ensures.after (λ y e. e)) in
    record { called = L; replayed = tt; numbered = called_numbered a.types.now a.words.now a.forms.now a.whats.now a.out.now L }

pub invariant_of-types : goal.invariant_of-types
invariant_of-types c = record { ready = c.in-Ok.ensures.ready refl }

pub each-requires : goal.each-requires
each-requires c =
    let a = c.args in
    record {
      counted = c.in-Ok.ensures.counted refl;
      all_zero = record {
        forms = own_zeros a.forms.now (c.fill.ensures.after (λ y e. e));
        whats = own_zeros a.whats.now (c.fill-2.ensures.after (λ y e. e));
        blank = own_zeros a.out.now (c.fill-3.ensures.after (λ y e. e));
      };
    }

pub returns-in-Ok : goal.returns-in-Ok
returns-in-Ok c =
    let a = c.args in
    let L = called_passed a.types.now a.words.now a.forms.now a.whats.now a.out.now c.in-Ok.ensures
    c.fill.new.self c.fill-2.new.self c.fill-3.new.self c.fill.auto.self c.fill-2.auto.self c.fill-3.auto.self c.each.ensures in
    record {
      called = L;
      replayed = called_replayed a.types.now a.words.now a.forms.now a.whats.now a.out.now _ L;
      numbered = called_numbered a.types.now a.words.now a.forms.now a.whats.now a.out.now L;
    }
