-- The entries of a record as they stand in its words: ops behind two sizes, args behind the ops.
use Rattle.std.specs.Prelude.{◌≡◌, refl, List, [], ◌∷◌, ◌++◌, map, take, drop}
use Rattle.std.proofs.Math.Path.{sym, ap}
use Rattle.std.proofs.Common.{◌∙◌, ap₂, append_assoc, arith, length-append, length-drop, drop_of_length-le, take_at, drop_at, length-take-le}
use Prim.Native.Nat.{ℕ, zero, suc, ◌+◌, ◌*◌, ◌≤◌, ◌<◌}
use Rattle.std.proofs.Math.ListN.{length, get_or}
use Rattle.std.proofs.lemmas.List.{length-map}
use Rattle.std.proofs.Math.Seq.{get_or-take, get_or-drop}
use Rattle.model.specs.Words.{word}
use Rattle.model.specs.State.{pairs}
use Rattle.model.specs.Record.{Entry, record_length}
use Rattle.records.specs.Here.{firsts, seconds}
use Rattle.records.specs.Pairs.{pairs_halves, firsts_pairs}

-- a record's words hold as many entries as it says
abbrev pub Whole : List ℕ → Type 0
Whole ws = 2 + 2 * word ws 1 ≤ length ws

-- the entries of a record
unfoldable pub entries_of : List ℕ → List Entry
entries_of ws = pairs (take (word ws 1) (drop 2 ws)) (take (word ws 1) (drop (2 + word ws 1) ws))

-- the record of k statements, of these entries
abbrev pub record_of : ℕ → List Entry → List ℕ
record_of k es = k ∷ length es ∷ (map (λ e. e.0) es ++ map (λ e. e.1) es)

-- two words, and two for each entry
pub length_record_of : (k : ℕ) (es : List Entry) → length (record_of k es) ≡ record_length (length es)
length_record_of k es = rw (length-append, length-map, length-map) (omega arith)

-- two more
two_add : (n : ℕ) → 2 + n ≡ suc (suc n)
two_add n = omega arith

-- one pair of two lists, and the pairs behind it
pairs_from : (k : ℕ) (a b : List ℕ) → k < length a → k < length b → drop k (pairs a b) ≡ (get_or a k 0, get_or b k 0) ∷ drop (suc k) (pairs a b)
unfolding pairs
pairs_from k [] b h g = absurd (omega arith)
pairs_from k (x ∷ a) [] h g = absurd (omega arith)
pairs_from zero (x ∷ a) (y ∷ b) h g = refl
pairs_from (suc k) (x ∷ a) (y ∷ b) h g = pairs_from k a b (omega arith) (omega arith)

module _ (ws : List ℕ) (h : Whole ws) where
  -- as many ops as the record says
  length_ops : length (take (word ws 1) (drop 2 ws)) ≡ word ws 1
  length_ops = length-take-le (word ws 1) (drop 2 ws) (omega (arith, length-drop 2 ws))

  -- as many args
  length_args : length (take (word ws 1) (drop (2 + word ws 1) ws)) ≡ word ws 1
  length_args = length-take-le (word ws 1) (drop (2 + word ws 1) ws) (omega (arith, length-drop (2 + word ws 1) ws))

  -- and so many entries
  pub length_entries_of : length (entries_of ws) ≡ word ws 1
  unfolding entries_of
  length_entries_of =
      let n : ℕ = word ws 1 in
      sym (length-map (entries_of ws) (λ e. e.0)) ∙ ap length (firsts_pairs (take n (drop 2 ws)) (take n (drop (2 + n) ws)) (length_ops ∙ sym length_args)) ∙ length_ops

  -- entry k, and those behind it
  pub entries_next : (k : ℕ) → k < word ws 1 → drop k (entries_of ws) ≡ (word ws (2 + k), word ws (2 + word ws 1 + k)) ∷ drop (suc k) (entries_of ws)
  unfolding entries_of
  entries_next k l =
      let n : ℕ = word ws 1 in
      let op : get_or (take n (drop 2 ws)) k 0 ≡ word ws (2 + k) = get_or-take n (drop 2 ws) k 0 l ∙ get_or-drop 2 ws k 0 in
      let arg : get_or (take n (drop (2 + n) ws)) k 0 ≡ word ws (2 + n + k) = get_or-take n (drop (2 + n) ws) k 0 l ∙ get_or-drop (2 + n) ws k 0 in
      pairs_from k (take n (drop 2 ws)) (take n (drop (2 + n) ws)) (omega (arith, length_ops)) (omega (arith, length_args))
      ∙ cc

  -- nothing behind the last
  pub entries_over : (k : ℕ) → word ws 1 ≤ k → drop k (entries_of ws) ≡ []
  entries_over k l = drop_of_length-le _ {i = k} (omega (arith, length_entries_of))

-- A RECORD OF ENTRIES, with whatever words behind it

-- holds them
pub whole_record : (k : ℕ) (es : List Entry) (r : List ℕ) → Whole (record_of k es ++ r)
whole_record k es r = rw length-append (omega (arith, length_record_of k es))

-- and they are its entries
pub entries_written : (k : ℕ) (es : List Entry) (r : List ℕ) → entries_of (record_of k es ++ r) ≡ es
unfolding entries_of
entries_written k es r =
    let n : ℕ = length es in
    let both : (firsts es ++ seconds es) ++ r ≡ firsts es ++ (seconds es ++ r) = append_assoc (firsts es) (seconds es) r in
    let ops : take n ((firsts es ++ seconds es) ++ r) ≡ firsts es = ap (take n) both ∙ take_at (firsts es) _ n (length-map es _) in
    let args : take n (drop (2 + n) (k ∷ n ∷ ((firsts es ++ seconds es) ++ r))) ≡ seconds es =
    ap (λ (i : ℕ). take n (drop i (k ∷ n ∷ ((firsts es ++ seconds es) ++ r)))) (two_add n)
    ∙ ap (λ (l : List ℕ). take n (drop n l)) both
    ∙ ap (take n) (drop_at (firsts es) _ n (length-map es _))
    ∙ take_at (seconds es) r n (length-map es _) in
    ap₂ pairs ops args ∙ pairs_halves es
