-- A whole crate in one call (document 02, F-3): demand 3 of each function, and demand 1.
use Rattle.std.specs.Prelude.{◌≡◌, true, ◌&&◌, ℕ, zero, suc, ◌+◌, ◌-◌, ◌≤◌, ◌<◌, drop, eqb}
use Rattle.std.proofs.Math.Path.{refl, ap, subst}
use Rattle.std.proofs.Common.{sym, ◌∙◌, take_at, drop_at}
use mathlib.Core.List.{List, [], ◌∷◌, ◌++◌, append_assoc}
use native.Mathlib.Omega.{arith}
use Rattle.std.proofs.Math.ListN.{length, take, replicate}
use Rattle.std.proofs.Math.Dec.{leb}
use borrow.Author.Tests.{leb-true}
use Rattle.model.specs.Words.{word}
use Rattle.model.specs.Types.{types_ok}
use Rattle.model.specs.Block.{entry_point}
use Rattle.model.specs.Record.{entries, record_length, statement_record, lent}
use Rattle.model.specs.Whole.{whole}
use Rattle.model.specs.Crate.{behind, records, spare, passed, stopped, stopped_at, calls, from_first, crate_statements}
use Rattle.model.specs.Replay.{ReplayedEach, replayed_none, replayed_more}
use Rattle.model.specs.Rounds.{elem}
use Rattle.model.specs.Promised.{OneOf, function_numbers, crate_numbers, RefusedAt}
use Rattle.base.specs.Tests.{split, clash, and_right}
use Rattle.base.specs.Answer.{split_answer}
use Rattle.records.specs.Recorded.{length_record}
use Rattle.demand.specs.Whole.{Leaves, whole_leaves}
use Rattle.demand.specs.Refused.{function_refuses}

-- a statement record at the front of a lent buffer, taken out
pub front_record : (Γ fn : List ℕ) (nforms nwhats nout : ℕ) {out : List ℕ} {c : ℕ × ℕ} (L : Leaves Γ fn nforms nwhats nout out c)
    → take (record_length c.1) out ≡ statement_record (entry_point fn) L.lines
unfolding lent
front_record Γ fn nforms nwhats nout {out} {c} L =
    let long : length (statement_record (entry_point fn) L.lines) ≡ record_length c.1 = omega (arith, length_record (entry_point fn) L.lines, L.counted) in
    ap (take (record_length c.1)) L.written ∙ take_at (statement_record (entry_point fn) L.lines) _ (record_length c.1) long

-- so many records as were counted
count_records : (n : ℕ) (ws : List ℕ) → length (records n ws) ≡ n
unfolding records
count_records zero ws = refl
count_records (suc n) ws = ap suc (count_records n (behind ws))

-- a function's numbers, at its position
positioned : (m n : ℕ) → 1 ≤ m → OneOf function_numbers n → OneOf (crate_numbers m) n
positioned zero n h o = absurd (omega arith)
positioned (suc m) n h o = o

module _ (Γ : List ℕ) (nforms nwhats nout : ℕ) where
  -- what stands behind a front in the output: the statement records of these functions
  record Behind (fns : List (List ℕ)) (front out : List ℕ) : Type 0 where
    tail : List ℕ
    is : out ≡ front ++ tail
    replayed : ReplayedEach Γ fns tail

  calls_replayed : (fns : List (List ℕ)) (p : ℕ) (front fs ws : List ℕ) → (calls Γ nforms nwhats nout p front fs ws fns).verdict ≡ passed
      → Behind fns front (calls Γ nforms nwhats nout p front fs ws fns).out
  unfolding calls lent stopped_at statement_record
  calls_replayed [] p front fs ws e = record { tail = replicate (nout - length front) 0; is = refl; replayed = replayed_none }
  calls_replayed (fn ∷ fns) p front fs ws e =
      let R = whole Γ fn nforms nwhats (nout - length front) in
      split_answer R.answer
      (λ n q. clash (cc))
      (λ c q.
      let L = whole_leaves Γ fn nforms nwhats (nout - length front) q in
      let rec = statement_record (entry_point fn) L.lines in
      let t : take (record_length c.1) R.out ≡ rec = front_record Γ fn nforms nwhats (nout - length front) L in
      let B = calls_replayed fns (suc p) (front ++ take (record_length c.1) R.out) R.forms R.whats (rw (q, calls) at e) in
      let long : length rec ≡ record_length (length (entries (entry_point fn) L.lines)) = length_record (entry_point fn) L.lines in
      record {
        tail = rec ++ B.tail;
        is = rw (q, calls) (B.is ∙ append_assoc front _ B.tail ∙ ap (λ (x : List ℕ). front ++ (x ++ B.tail)) t);
        replayed = replayed_more (L.replayed B.tail) (subst (ReplayedEach Γ fns) (sym (drop_at rec B.tail _ long)) B.replayed);
      })

  -- DEMAND 3, of each function of a crate that is accepted
  pub crate_demand : (words : List ℕ) → (crate_statements Γ nforms nwhats nout words).verdict ≡ passed
      → ReplayedEach Γ (records (word words 0) (drop 1 words)) (crate_statements Γ nforms nwhats nout words).out
  unfolding crate_statements from_first stopped_at
  crate_demand words e = split (leb 1 (length words) && leb (word words 0) 64)
      (λ a. split (types_ok Γ)
      (λ b. split (eqb (length (spare (word words 0) (drop 1 words))) 0)
      (λ c.
      let B = calls_replayed (records (word words 0) (drop 1 words)) 1 [] (replicate nforms 0) (replicate nwhats 0) (rw (a, b, c) at e) in
      rw (a, b, c) (subst (ReplayedEach Γ (records (word words 0) (drop 1 words))) (sym B.is) B.replayed))
      (λ c. clash (cc)))
      (λ b. clash (cc)))
      (λ a. clash (cc))

  -- the first function that is refused, by its position
  calls_refuse : types_ok Γ ≡ true → (fns : List (List ℕ)) (p : ℕ) (front fs ws : List ℕ) {n m : ℕ}
      → (calls Γ nforms nwhats nout p front fs ws fns).verdict ≡ stopped n m → (p ≤ m) × (m < p + length fns) × OneOf function_numbers n
  unfolding calls stopped_at
  calls_refuse t [] p front fs ws e = clash (cc)
  calls_refuse t (fn ∷ fns) p front fs ws {n} {m} e =
      let R = whole Γ fn nforms nwhats (nout - length front) in
      split_answer R.answer
      (λ k q.
      let g : stopped k p ≡ stopped n m = rw (q, calls) at e in
      let i : k ≡ n = cc in
      let j : p ≡ m = cc in
      (omega arith, omega arith, subst (OneOf function_numbers) i (function_refuses Γ fn nforms nwhats (nout - length front) t k q)))
      (λ c q.
      let (a, b, o) = calls_refuse t fns (suc p) (front ++ take (record_length c.1) R.out) R.forms R.whats (rw (q, calls) at e) in
      (omega arith, omega arith, o))

  -- DEMAND 1: at position 0 with 1 or 2, at that of a function with its own numbers
  pub crate_refuses : (words : List ℕ) {n m : ℕ} → (crate_statements Γ nforms nwhats nout words).verdict ≡ stopped n m → RefusedAt (word words 0) n m
  unfolding crate_statements from_first stopped_at elem
  crate_refuses words {n} {m} e = split (leb 1 (length words) && leb (word words 0) 64)
      (λ a. split (types_ok Γ)
      (λ b. split (eqb (length (spare (word words 0) (drop 1 words))) 0)
      (λ c.
      let (d, f, o) = calls_refuse b (records (word words 0) (drop 1 words)) 1 [] (replicate nforms 0) (replicate nwhats 0) (rw (a, b, c) at e) in
      let few : word words 0 ≤ 64 = leb-true (word words 0) 64 (and_right (leb 1 (length words)) (leb (word words 0) 64) a) in
      record { one = positioned m n d o; counted = omega (arith, count_records (word words 0) (drop 1 words)); few = omega (arith, count_records (word words 0) (drop 1 words)) })
      (λ c. at_0 2 refl (cc)))
      (λ b. at_0 1 refl (cc)))
      (λ a. at_0 2 refl (cc))
    where
      at_0 : (k : ℕ) → OneOf (crate_numbers 0) k → stopped k 0 ≡ stopped n m → RefusedAt (word words 0) n m
      at_0 k o q =
          let i : k ≡ n = cc in
          let j : 0 ≡ m = cc in
          record { one = subst (λ (x : ℕ). OneOf (crate_numbers x) n) j (subst (OneOf (crate_numbers 0)) i o); counted = omega arith; few = omega arith }
