-- `fold_unfold::run::analyse` meets its contract: zeros are the memory before the first pass, what that leaves is the memory before the
-- second, and both are model's.
use mathlib.Core.Path.{refl}
use Prim.Native.Nat.{ℕ}
use Rattle.std.proofs.lemmas.Result.{err_from_is_err_and}
use native.Mathlib.Omega.{arith}
use lib.ListN.{length-replicate}
use Rattle.fold_unfold.specs.Runs.{blank, again}
use Rattle.fold_unfold.proofs.Begun.{zeros_remembered}
use Rattle.fold_unfold.proofs.Both.{records_pass, first_sound, first_stops, first_goes, second_begins, second_ends}
use Rattle.fold_unfold.proofs.run.analyse.Goals as goal

pub invert-requires : goal.invert-requires
invert-requires c = record { formed = c.args.fun.now.accepted.formed; in_bounds = omega arith }

pub run-requires : goal.run-requires
run-requires c =
    let p = c.requires in
    record {
      shared = p.shared;
      inverted = c.invert.ensures;
      in_bounds = omega (arith, length-replicate {A = ℕ} 512 0);
      begins = record { memory = blank; is = zeros_remembered p.wiped p.store_long; starts = refl; goes = first_sound (records_pass c.args.fun.now.accepted) };
    }

pub returns-in_err-run : goal.returns-in_err-run
returns-in_err-run c =
    let r = err_from_is_err_and c.from_residual.result c.from_residual.ensures.1 in
    rw (r.1, r.2) (first_stops (c.in_err-run.ensures blank refl (zeros_remembered c.requires.wiped c.requires.store_long)))

pub run-requires-2 : goal.run-requires-2
run-requires-2 c =
    let p = c.requires in
    record {
      shared = p.shared;
      inverted = c.invert.ensures;
      in_bounds = omega (arith, c.run.auto.memo, length-replicate {A = ℕ} 512 0);
      begins = second_begins (first_goes (c.in_ok-run.ensures blank refl (zeros_remembered p.wiped p.store_long))) (records_pass c.args.fun.now.accepted);
    }

pub returns : goal.returns
returns c =
    let E = c.in_ok-run.ensures blank refl (zeros_remembered c.requires.wiped c.requires.store_long) in
    let H = first_goes E in
    second_ends H (c.run-2.ensures (again H.memory.kept) (H.memory.kept, refl, H.inferred) H.remembers) E.same_forms E.same_whats E.same_out
