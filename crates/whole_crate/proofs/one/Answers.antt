-- `whole_crate::one` meets its contract. Assumes nothing.
use mathlib.Core.Path.{refl}
use Rattle.fold_unfold.proofs.Answered.{own_zeros}
use Rattle.fold_unfold.proofs.Numbers.{whole_same}
use Rattle.whole_crate.proofs.Parts.{part_blank, call_alone}
use Rattle.whole_crate.proofs.one.Goals as goal

pub function_statements-requires : goal.function_statements-requires
function_statements-requires c =
    let a = c.args in record {
      all_zero = record {
        forms = own_zeros a.forms.now (c.fill.ensures.after (λ y e. e));
        whats = own_zeros a.whats.now (c.fill-2.ensures.after (λ y e. e));
        blank = part_blank a.out.now a.used c.requires.blank_from;
      };
    }

pub returns : goal.returns
returns c =
    call_alone c.args.out.now c.args.used c.requires.blank_from.within _ (whole_same c.fill.auto.self c.fill-2.auto.self refl c.function_statements.ensures.whole)
