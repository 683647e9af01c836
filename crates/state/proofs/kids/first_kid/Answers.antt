-- `state::kids::first_kid` meets its contract: what a type record that passes says of a run of parts. Assumes nothing.
use mathlib.Core.Path.{sym, ◌∙◌, ap}
use mathlib.Core.List.{◌∷◌}
use Prim.Native.Nat.{ℕ}
use native.Mathlib.Omega.{arith}
use Rattle.base.specs.Typed.{parts_inside}
use Rattle.base.specs.Parts.{parts_cons}
use Rattle.state.specs.Kids.{kid_types, rest_kids}
use Rattle.state.proofs.Fields.{ready_typed, ready_counted, fields_first, fields_rest}
use Rattle.state.proofs.kids.first_kid.Goals as goal

pub returns : goal.returns
returns c =
    let a = c.args in
    let p = c.requires in
    let T = ready_typed c.args.types.now.ready in
    let ks = a.ks in
    let e = c.part_at.ensures in
    record {
      known = rw e (fields_first p.kids_in p.count_nonzero);
      all = parts_cons a.types.now.words.now ks.owner ks.first ks.count p.count_nonzero ∙ ap (λ (t : ℕ). t ∷ kid_types a.types.now.words.now (rest_kids ks)) (sym e);
      left = record { some = p.count_nonzero; few = omega (arith, parts_inside T ks.owner p.kids_in.known, T.few_parts, p.kids_in.inside) };
      rest = fields_rest p.kids_in p.count_nonzero;
    }
