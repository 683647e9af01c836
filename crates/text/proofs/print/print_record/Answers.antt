-- `text::print::print_record` meets its contract. The loop's invariant: what is written and the text from entry k on are the text of all entries, which
-- is that of the lines. Assumes nothing.
use mathlib.Core.Path.{◌≡◌, sym, ◌∙◌, ap, ap₂}
use mathlib.Core.List.{List, ◌++◌, append_assoc, append-nil}
use Prim.Native.Nat.{ℕ, ◌+◌, ◌<◌}
use native.Mathlib.Omega.{arith}
use lib.ListN.{length, take, drop}
use Rattle.std.specs.Prelude.{Option, None}
use Rattle.text.specs.declared.print.Verb.{Verb}
use Rattle.model.specs.Words.{word}
use Rattle.records.specs.Entries.{entries_of}
use Rattle.text.specs.Printing.{first_text}
use Rattle.text.proofs.Entries.{entries_text, text_next, text_over, length_first, ended_few}
use Rattle.text.proofs.Lines.{lines_printed}
use Rattle.text.proofs.print.print_record.Goals as goal

pub print_entry-p-requires : goal.print_entry-p-requires
print_entry-p-requires c =
    let L = c.loop-k in
    let l : L.k < word c.args.out.now 1 = omega (arith, c.loop-k-test.true) in record { whole = c.requires.whole; k_bound = l; verb_in_bounds = omega (arith, L.invariant.0, L.invariant.1, c.requires.out_in_bounds); few_digits = c.requires.few_digits; line_le_k = L.invariant.2 }

pub loop-k-preserved : goal.loop-k-preserved
loop-k-preserved c =
    let L = c.loop-k in
    let p = L.p in
    let w = c.print_entry-p.ensures in
    let o = c.args.out.now in
    let told = c.args.told.now in
    let es = drop L.k (entries_of o) in
    let l : L.k < word o 1 = omega (arith, c.loop-k-test.true) in
    let long = length_first p.verb (word told p.line) es (c.requires.few_digits p.line) in (
      w.writes.long ∙ L.invariant.0,
      rw w.verb (omega (arith, w.writes.end, long, L.invariant.1)),
      omega (arith, w.line, ended_few es, L.invariant.2),
      ap (λ (t : List ℕ). t ++ entries_text c.print_entry-p.result.verb (drop c.print_entry-p.result.line told) (drop (L.k + 1) (entries_of o))) w.writes.front
          ∙ append_assoc (take p.at L.text) (first_text p.verb (word told p.line) es) _
          ∙ ap₂ (λ (v : Option Verb) (j : ℕ). take p.at L.text ++ (first_text p.verb (word told p.line) es ++ entries_text v (drop j told) (drop (L.k + 1) (entries_of o)))) w.verb w.line
          ∙ ap (λ (t : List ℕ). take p.at L.text ++ t) (text_next o c.requires.whole L.k l p.verb told p.line)
          ∙ L.invariant.3,
    )

pub returns : goal.returns
returns c =
    let out = c.args.out.now in
    let told = c.args.told.now in
    let L = c.loop-k in
    let p = L.p in
    let all : take p.at L.text ≡ entries_text None told (entries_of out) =
    sym (append-nil _)
    ∙ ap (λ (t : List ℕ). take p.at L.text ++ t) (sym (text_over out c.requires.whole L.k (omega arith) p.verb (drop p.line told)))
    ∙ L.invariant.3 in
    record {
      long = L.invariant.0;
      inside = omega (arith, L.invariant.1, c.requires.out_in_bounds);
      lines = λ entry ls e d. all ∙ lines_printed entry (length out) (length told) ls out told e d;
    }
