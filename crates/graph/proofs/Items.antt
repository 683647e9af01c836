-- Items, continued from specs/Items: theorems that rest on others.
use Rattle.std.specs.Prelude.{◌≡◌, refl, false, ◌&&◌, ◌||◌, List, ltb}
use Rattle.std.proofs.Common.{◌∙◌, arith}
use Rattle.std.proofs.Math.Bool.{true}
use Prim.Native.Nat.{ℕ, zero, suc, ◌+◌, ◌<◌}
use Rattle.std.proofs.Math.Decide.{dec_lt}
use Rattle.std.proofs.Math.Dec.{eqb}
use borrow.Author.Tests.{ltb-true, eqb-true}
use Rattle.model.specs.Function.{nblocks, nitems, start, stop, op, may_follow, after, arg_ok, items_from, items_ok}
use Rattle.base.specs.Tests.{split, clash, and_left, and_right}
use Rattle.base.specs.Function.{stop_inside, FunctionFacts, stop_next, stop_last, stop_before}
use Rattle.graph.specs.Ranges.{Holds, holds_same}
use Rattle.graph.specs.Follow.{follow_entry, follow_inner}
use Rattle.graph.specs.Items.{Reached, Rest, before_at, before_entry, before_first, before_from, before_next, entered, held, no_start, rest_more, standing, start_least, stopped}

module _ {fn : List ℕ} (A : FunctionFacts fn) where
  -- what stands before the next item
  standing_next : (b i : ℕ) → ((c : ℕ) → c < b → start fn c < i) → standing A b (suc i) ≡ after (standing A b i) (op fn i)
  standing_next zero i p = before_next fn 0 0 i (omega arith)
  standing_next (suc c) i p = before_next fn 2 (start fn c) i (omega (arith, p c (omega arith)))

  -- the first item of a block
  step_in : {i b k : ℕ} → Reached A i b k → b < nblocks fn → i ≡ start fn b → may_follow 2 (op fn i) ≡ true → Reached A (suc i) (suc b) (after 2 (op fn i))
  step_in {i} {b} R l s f = record {
    most = l;
    passed = λ c m. elim (dec_lt c b) [ yes u ↦ omega (arith, R.passed c u) | no u ↦ let q : c ≡ b = omega arith in rw (q, ← s) (omega arith) ];
    ahead = λ c m u. omega (arith, stop_before A b c m u, A.starts _ l);
    is = cc (before_next fn 2 (start fn b) i (omega arith), before_first fn 2 (start fn b) i (omega arith));
    entry = λ e. absurd (omega arith);
    inner = λ m. follow_inner 2 (op fn i) (omega arith) (omega arith) f;
  }

  -- any other item
  step_on : {i b k : ℕ} → Reached A i b k → ltb b (nblocks fn) && eqb i (start fn b) ≡ false → may_follow k (op fn i) ≡ true → Reached A (suc i) b (after k (op fn i))
  step_on {i} {b} {k} R t f = record {
    most = R.most;
    passed = λ c m. omega (arith, R.passed c m);
    ahead = λ c m u. elim (dec_lt i (start fn c)) [
      | yes v ↦ v
      | no v ↦ absurd (elim (dec_lt b c) [
        | yes w ↦ omega (arith, R.ahead b (omega arith) (omega arith), A.starts b (omega arith), stop_before A b c w u)
        | no w ↦ let q : b ≡ c = omega arith in no_start A t (rw q u) (rw q (omega (arith, R.ahead c m u)))
      ])
    ];
    is = cc (R.is, standing_next b i R.passed);
    entry = λ e. follow_entry k (op fn i) (R.entry e) f;
    inner = λ m. let j = R.inner m in follow_inner k (op fn i) j.0 j.1 f;
  }

  -- the check finds it so
  rest : (n i b k : ℕ) → n + i ≡ nitems fn → Reached A i b k → items_from fn n i b k ≡ true → Rest A i
  unfolding items_from
  rest zero i b k z R e = record {
    inner = λ c x h l. absurd (omega (arith, stop_inside A c));
    ends = λ c l m.
        let q : i ≡ stop fn c = omega (arith, stop_inside A c) in
        rw (← q) ((stopped A R c l q).1 ∙ eqb-true k 8 e);
    entry = λ x m l. absurd (omega (arith, A.starts_inside 0 A.some_blocks));
    over = λ l. absurd (omega (arith, A.starts_inside 0 A.some_blocks));
  }
  rest (suc n) i b k z R e = split (ltb b (nblocks fn) && eqb i (start fn b))
      (λ t. split ((eqb k 0 || eqb k 8) && may_follow 2 (op fn i) && arg_ok fn i)
      (λ u.
      let l = ltb-true b (nblocks fn) (search and_left) in
      let s = eqb-true i (start fn b) (search and_right) in
      let f : may_follow 2 (op fn i) ≡ true = search (and_left, and_right) in
      let g : eqb k 0 || eqb k 8 ≡ true = search (and_left, and_right) in
      rest_more A
      (λ c h.
      let q = holds_same A h (record { block = l; low = omega arith; high = omega (arith, A.starts _ l) }) in
      rw (q, before_first fn 2 (start fn b) i (omega arith)) f)
      (λ c m q. let (v, w, x) = stopped A R c m q in w ∙ split (eqb k 0) (λ d. absurd (omega (arith, eqb-true k 0 d))) (λ d. eqb-true k 8 (rw d at g)))
      (λ m. absurd (omega (arith, start_least A l)))
      (λ q. let (v, w, x) = entered A R (omega arith) in w ∙ split (eqb k 0) (λ d. eqb-true k 0 d) (λ d. absurd (omega (arith, eqb-true k 8 (rw d at g)))))
      (rest n (suc i) (suc b) (after 2 (op fn i)) (omega arith) (step_in R l s f) (cc)))
      (λ u. clash (cc)))
      (λ t. split (may_follow k (op fn i) && arg_ok fn i)
      (λ u.
      let f : may_follow k (op fn i) ≡ true = search and_left in
      rest_more A
      (λ c h. rw (held A R t c h) f)
      (λ c m q. absurd (
      let (v, w, x) = stopped A R c m q in
      elim (dec_lt (suc c) (nblocks fn)) [
        | yes y ↦ no_start A t (rw v y) (rw v (q ∙ stop_next A c y))
        | no y ↦ omega (arith, stop_last A c (omega arith))
      ]))
      (λ m. rw (entered A R (omega arith)).1 f)
      (λ q. absurd (let (v, w, x) = entered A R (omega arith) in no_start A t (rw v A.some_blocks) (rw v q)))
      (rest n (suc i) b (after k (op fn i)) (omega arith) (step_on R t f) (cc)))
      (λ u. clash (cc)))

  -- from the first item on
  whole : Rest A 0
  unfolding items_ok before_from
  whole = rest (nitems fn) 0 0 0 (omega arith) (record {
    most = omega arith;
    passed = λ c l. absurd (omega arith);
    ahead = λ c l m. omega arith;
    is = refl;
    entry = λ q. omega arith;
    inner = λ l. absurd (omega arith);
  }) A.items

  -- EACH ITEM

  -- in a block, each item may follow what stands before it
  pub item_follows : {b i : ℕ} → Holds fn b i → may_follow (before_at fn b i) (op fn i) ≡ true
  item_follows {b} {i} h = whole.inner b i h (omega arith)

  -- at its stop the block is ended
  pub block_ends : {b : ℕ} → b < nblocks fn → before_at fn b (stop fn b) ≡ 8
  block_ends {b} l = whole.ends b l (omega arith)

  -- the same in the entry part, which ends behind a use, or is empty
  pub entry_follows : {i : ℕ} → i < start fn 0 → may_follow (before_entry fn i) (op fn i) ≡ true
  entry_follows {i} l = whole.entry i l (omega arith)

  -- at the first start the entry part is over
  pub entry_ends : before_entry fn (start fn 0) ≡ 0
  entry_ends = whole.over (omega arith)
