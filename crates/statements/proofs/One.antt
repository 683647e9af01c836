-- One entry more: where there is room its op and arg are stored, else one count stands for all. And one statement more.
use mathlib.Core.Path.{◌≡◌, refl, sym, ap, ◌∙◌}
use mathlib.Core.List.{List, [], ◌∷◌, ◌++◌}
use Prim.Native.Nat.{ℕ, suc, ◌+◌, ◌≤◌, ◌<◌}
use native.Mathlib.Nat.{add-zero}
use native.Mathlib.Decide.{dec_le}
use native.Mathlib.Omega.{arith}
use lib.ListN.{length, get_or, set, length-append, length-set, get_or-append}
use lib.Seq.{get_or_at, get_or-set_same, get_or-set_other}
use Rattle.model.specs.Words.{word}
use Rattle.model.specs.Record.{Entry}
use Rattle.base.specs.Below.{below_suc}
use Rattle.statements.specs.declared.Out.{Out}
use Rattle.statements.specs.Kept.{with_counts, room, Counted, Fits, Kept, Puts}
use Rattle.statements.proofs.Puts.{puts_count, puts_room}

-- op and arg of entry n, stored
abbrev stored : List ℕ → ℕ → ℕ → ℕ → ℕ → List ℕ
stored out r n x y = set (set out (2 + n) x) (2 + r + n) y

-- the length stays
length_stored : (out : List ℕ) (r n x y : ℕ) → length (stored out r n x y) ≡ length out
length_stored out r n x y = simp length-set

-- ENOUGH ROOM

module _ (out : List ℕ) (r n x y : ℕ) (e : r ≡ room (length out)) (h : n < r) where
  -- the last arg is within the buffer
  stored_within : 2 + r + n < length out
  unfolding room
  stored_within = omega arith

  -- the op is there
  op_new : word (stored out r n x y) (2 + n) ≡ x
  op_new = get_or-set_other (set out (2 + n) x) (2 + r + n) (2 + n) y 0 (omega arith) ∙ get_or-set_same out (2 + n) x 0 (omega (arith, stored_within))

  -- the arg is there
  arg_new : word (stored out r n x y) (2 + r + n) ≡ y
  arg_new = get_or-set_same (set out (2 + n) x) (2 + r + n) y 0 (simp length-set stored_within)

  -- the ops before it are as they were
  op_old : (i : ℕ) → i < n → word (stored out r n x y) (2 + i) ≡ word out (2 + i)
  op_old i l = get_or-set_other (set out (2 + n) x) (2 + r + n) (2 + i) y 0 (omega arith) ∙ get_or-set_other out (2 + n) (2 + i) x 0 (omega arith)

  -- and the args
  arg_old : (i : ℕ) → i < n → word (stored out r n x y) (2 + r + i) ≡ word out (2 + r + i)
  arg_old i l = get_or-set_other (set out (2 + n) x) (2 + r + n) (2 + r + i) y 0 (omega arith) ∙ get_or-set_other out (2 + n) (2 + r + i) x 0 (omega arith)

-- the entries with one more
fits_one : {k : ℕ} {es : List Entry} {out : List ℕ} {o : Out} (r x y : ℕ) → r ≡ room (length out) → o.entries < r → Fits k es out o
    → Fits k (es ++ ((x, y) ∷ [])) (stored out r o.entries x y) (with_counts o o.statements (o.entries + 1))
fits_one {k} {es} {out} {o} r x y e h F =
    let n : length (es ++ ((x, y) ∷ [])) ≡ suc o.entries = length-append es ((x, y) ∷ []) ∙ omega (arith, F.entries) in
    let d : room (length (stored out r o.entries x y)) ≡ r = ap room (length_stored out r o.entries x y) ∙ sym e in
    let last : (i : ℕ) → i ≡ o.entries → (x, y) ≡ get_or (es ++ ((x, y) ∷ [])) i (0, 0) =
    λ i q. sym (get_or_at es (x, y) [] (0, 0) i (omega (arith, F.entries))) in
    let old : (i : ℕ) → i < o.entries → get_or es i (0, 0) ≡ get_or (es ++ ((x, y) ∷ [])) i (0, 0) =
    λ i l. sym (get_or-append es _ (0, 0) i (omega (arith, F.entries))) in
    record {
      statements = F.statements;
      entries = omega arith;
      ops = λ i l.
          below_suc {n = o.entries} (omega arith)
          (λ q. ap (λ (j : ℕ). word (stored out r o.entries x y) (2 + j)) q ∙ op_new out r o.entries x y e h ∙ ap (λ (p : Entry). p.0) (last i q))
          (λ b. op_old out r o.entries x y e h i b ∙ F.ops i (omega (arith, F.entries)) ∙ ap (λ (p : Entry). p.0) (old i b));
      args = λ i l.
          rw d
          (below_suc {n = o.entries} (omega arith)
          (λ q. ap (λ (j : ℕ). word (stored out r o.entries x y) (2 + r + j)) q ∙ arg_new out r o.entries x y e h ∙ ap (λ (p : Entry). p.1) (last i q))
          (λ b. arg_old out r o.entries x y e h i b ∙ (rw (← e) at (F.args i (omega (arith, F.entries)))) ∙ ap (λ (p : Entry). p.1) (old i b)));
    }

-- one entry is put where there is room
pub puts_one : {out : List ℕ} {o : Out} (r x y : ℕ) → Counted out o → r ≡ room (length out) → o.entries < r
    → Puts 0 out o (stored out r o.entries x y) (with_counts o o.statements (o.entries + 1)) ((x, y) ∷ [])
puts_one {out} {o} r x y C e h =
    let same : length (stored out r o.entries x y) ≡ length out = length_stored out r o.entries x y in
    let d : room (length (stored out r o.entries x y)) ≡ r = ap room same ∙ sym e in
    record {
      same = same;
      recording = refl;
      counted = record { statements = omega (arith, C.statements); entries = omega arith };
      kept = λ k es K.
          let n : length (es ++ ((x, y) ∷ [])) ≡ length es + 1 = length-append es ((x, y) ∷ []) in
          record {
            fits = λ l. rw add-zero (fits_one r x y e h (K.fits (omega arith)));
            over = λ l.
                elim (dec_le (length es) (room (length out))) [
                  | yes b ↦ absurd (omega (arith, (K.fits b).entries))
                  | no b ↦ absurd (omega (arith, K.over (omega arith)))
                ];
          };
    }

-- NO ROOM

-- one entry is put where there is none
pub puts_full : {out : List ℕ} {o : Out} (r x y : ℕ) → Counted out o → r ≡ room (length out) → r ≤ o.entries
    → Puts 0 out o out (with_counts o o.statements (r + 1)) ((x, y) ∷ [])
puts_full {out} {o} r x y C e h = record {
  same = refl;
  recording = refl;
  counted = record { statements = omega (arith, C.statements, C.entries); entries = omega arith };
  kept = λ k es K.
      let n : length (es ++ ((x, y) ∷ [])) ≡ length es + 1 = length-append es ((x, y) ∷ []) in
      record { fits = λ l. absurd (omega (arith, (K.fits (omega arith)).entries)); over = λ l. omega arith };
}

-- A STATEMENT

-- entries that fit are counted as a statement more
pub puts_statement : {a b : List ℕ} {o p : Out} {new : List Entry} → Counted a o → Puts 0 a o b p new → 0 < length new → p.entries ≤ room (length b)
    → Puts 1 a o b (with_counts o (o.statements + 1) p.entries) new
puts_statement {a} {b} {o} {p} {new} C P l h = record {
  same = P.same;
  recording = refl;
  counted = record { statements = omega (arith, C.statements, puts_count C P h); entries = omega arith };
  kept = λ k es K.
      let Q : Kept (k + 0) (es ++ new) b p = P.kept k es K in
      record {
        fits = λ d.
            let F = Q.fits d in
            record { statements = omega (arith, (K.fits (puts_room P es d)).statements); entries = F.entries; ops = F.ops; args = F.args };
        over = λ d. Q.over d;
      };
}

-- entries that do not fit are not counted
pub puts_lost : {a b : List ℕ} {o p : Out} {new : List Entry} → Counted a o → Puts 0 a o b p new → room (length b) < p.entries
    → Puts 1 a o b (with_counts o o.statements p.entries) new
puts_lost {a} {b} {o} {p} {new} C P h = record {
  same = P.same;
  recording = refl;
  counted = record { statements = omega (arith, C.statements, C.entries, ap room P.same); entries = P.counted.entries };
  kept = λ k es K.
      let Q : Kept (k + 0) (es ++ new) b p = P.kept k es K in
      record { fits = λ d. absurd (omega (arith, (Q.fits d).entries)); over = λ d. Q.over d };
}
