-- `text::print::print_entry` meets its contract, by cases on whether the line ends. Assumes nothing.
use mathlib.Core.Path.{◌≡◌, refl, sym, ◌∙◌, subst}
use mathlib.Core.List.{append-nil}
use Prim.Native.Nat.{◌+◌, ◌≤◌, ◌<◌}
use native.Mathlib.Omega.{arith}
use lib.ListN.{length}
use Rattle.std.specs.Prelude.{Option}
use Rattle.text.specs.declared.print.Verb.{Verb}
use Rattle.model.specs.Words.{word}
use Rattle.model.specs.Record.{Entry}
use Rattle.text.specs.Printing.{entry_text, verb_now, kept_for}
use Rattle.text.proofs.Writing.{writes_then, writes_same}
use Rattle.text.proofs.Entries.{first_there, verb_there, ended_there, length_kept, length_told}
use Rattle.text.proofs.print.print_entry.Goals as goal

-- THE ROOM at the end of a line

-- what the entry and what is told behind it take
taken : (v : Option Verb) (x : Entry) {r : Option Verb} → r ≡ verb_now v x.0 → length (entry_text x) + kept_for r ≤ kept_for v + 13
taken v x e = subst (λ (v' : Option Verb). length (entry_text x) + kept_for v' ≤ kept_for v + 13) (sym e) (length_kept v x)

pub returns-then-not-ends : goal.returns-then-not-ends
returns-then-not-ends c =
    let o = c.args.out.now in
    let p = c.args.p in
    let q = sym c.if-not-ends.true ∙ c.ends.ensures in
    record {
      writes = writes_same (first_there o c.requires.whole c.args.k _ c.requires.k_bound refl q p.verb (word c.args.told.now p.line))
          (writes_same (sym (append-nil _)) c.put_entry-a.ensures);
      verb = c.verb_now-v.ensures ∙ verb_there o c.requires.whole c.args.k _ c.requires.k_bound refl q p.verb;
      line = omega (arith, ended_there o c.requires.whole c.args.k _ c.requires.k_bound refl q);
    }

pub put_told-b-requires : goal.put_told-b-requires
put_told-b-requires c =
    let t = taken c.args.p.verb (word c.args.out.now (2 + c.args.k), word c.args.out.now (2 + word c.args.out.now 1 + c.args.k)) c.verb_now-v.ensures in
    let w = c.put_entry-a.ensures in
    record {
      verb_in_bounds = omega (arith, t, w.end, w.long, c.requires.verb_in_bounds);
      n_bound = omega (arith, c.number_of.ensures, c.requires.few_digits c.args.p.line);
    }

pub put-requires : goal.put-requires
put-requires c =
    let t = taken c.args.p.verb (word c.args.out.now (2 + c.args.k), word c.args.out.now (2 + word c.args.out.now 1 + c.args.k)) c.verb_now-v.ensures in
    let w = c.put_entry-a.ensures in
    let few : c.number_of.result < 1000 = omega (arith, c.number_of.ensures, c.requires.few_digits c.args.p.line) in
    let b = c.put_told-b.ensures in
    omega (arith, t, w.end, w.long, c.requires.verb_in_bounds, length_told c.verb_now-v.result c.number_of.result few, b.end, b.long)

pub returns : goal.returns
returns c =
    let o = c.args.out.now in
    let p = c.args.p in
    let q = sym c.if-not-ends.false ∙ c.ends.ensures in
    let told = c.put_told-b.ensures in
    record {
      writes = writes_same (first_there o c.requires.whole c.args.k _ c.requires.k_bound refl q p.verb (word c.args.told.now p.line))
          (writes_then c.put_entry-a.ensures (writes_then (rw (c.verb_now-v.ensures, c.number_of.ensures) at told) c.put.ensures));
      verb = verb_there o c.requires.whole c.args.k _ c.requires.k_bound refl q p.verb;
      line = omega (arith, ended_there o c.requires.whole c.args.k _ c.requires.k_bound refl q);
    }
