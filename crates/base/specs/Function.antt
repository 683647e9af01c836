-- What a function record that passes is known to say of its sizes, starts and ranks, and of each item; its local types pass.
use Rattle.std.specs.Prelude.{◌≡◌, ◌≢◌, not, ◌&&◌, ◌||◌, List, length, drop}
use Rattle.std.proofs.Common.{subst, ⊎_elim, true≢false, le_of_suc-le-suc, eq-or-lt_of_le, arith}
use Rattle.std.proofs.Math.Bool.{Bool, true}
use Prim.Native.Nat.{ℕ, zero, suc, ◌+◌, ◌≤◌, ◌<◌}
use Rattle.std.proofs.Math.Dec.{eqb, ltb, leb}
use Rattle.std.proofs.Math.ListN.{length-drop}
use Rattle.std.proofs.Math.Seq.{length-take-le}
use borrow.Author.Tests.{ltb-true, ltb-false, lt-ltb, le-ltb, leb-true, eqb-true, eqb-false, not-true}
use Rattle.model.specs.Words.{all}
use Rattle.model.specs.State.{locals_ok}
use Rattle.model.specs.Function.{nlocals, nargs, nblocks, nitems, local_types, start, rank, op, arg, stop, may_follow, after, arg_ok, function_sizes, starts_ok, ranks_ok, items_from, items_ok, function_ok}
use Rattle.base.specs.Tests.{split, and_left, and_right}
use Rattle.base.specs.Below.{all_at}

-- what the words of a function record say
pub record FunctionFacts (fn : List ℕ) : Type 0 where
  pub some_locals : 1 ≤ nlocals fn
  pub few_locals : nlocals fn ≤ 256
  pub few_args : nargs fn < nlocals fn
  pub some_blocks : 1 ≤ nblocks fn
  pub few_blocks : nblocks fn ≤ 256
  pub few_items : nitems fn ≤ 16384
  pub long : length fn ≡ 4 + nlocals fn + nblocks fn + nblocks fn + nitems fn + nitems fn
  pub starts : (b : ℕ) → b < nblocks fn → start fn b < stop fn b
  pub starts_inside : (b : ℕ) → b < nblocks fn → start fn b < nitems fn
  pub ranks : (b : ℕ) → b < nblocks fn → rank fn b < nblocks fn
  pub ranks_differ : (b c : ℕ) → c < b → b < nblocks fn → rank fn c ≢ rank fn b
  pub ops : (i : ℕ) → i < nitems fn → op fn i ≤ 12
  pub args : (i : ℕ) → i < nitems fn → arg_ok fn i ≡ true
  pub items : items_ok fn ≡ true

-- an item may stand somewhere, and its arg passes
record Item (fn : List ℕ) (i : ℕ) : Type 0 where
  op_few : op fn i ≤ 12
  arg_good : arg_ok fn i ≡ true

-- the items from i on, taken apart
record Step (fn : List ℕ) (n i : ℕ) : Type 0 where
  here : Item fn i
  begun : ℕ
  before : ℕ
  rest : items_from fn n (suc i) begun before ≡ true

module _ (fn : List ℕ) where
  -- an item that may follow
  item_here : (before i : ℕ) → may_follow before (op fn i) ≡ true → arg_ok fn i ≡ true → Item fn i
  unfolding may_follow
  item_here before i e d = record { op_few = leb-true (op fn i) 12 (and_left (leb (op fn i) 12) _ e); arg_good = d }

  -- the first of the items, and the others
  items_step : (n i b before : ℕ) → items_from fn (suc n) i b before ≡ true → Step fn n i
  unfolding items_from
  items_step n i b before e =
      let o : Bool = eqb before 0 || eqb before 8 in
      let ok : Bool = arg_ok fn i in
      split (ltb b (nblocks fn) && eqb i (start fn b))
      (λ p. let m : Bool = may_follow 2 (op fn i) in
      split (o && m && ok)
      (λ q. record {
        here = item_here 2 i (and_right o m (and_left (o && m) ok q)) (and_right (o && m) ok q);
        begun = suc b;
        before = after 2 (op fn i);
        rest = cc;
      })
      (λ q. absurd (true≢false (cc))))
      (λ p. let m : Bool = may_follow before (op fn i) in
      split (m && ok)
      (λ q. record {
        here = item_here before i (and_left m ok q) (and_right m ok q);
        begun = b;
        before = after before (op fn i);
        rest = cc;
      })
      (λ q. absurd (true≢false (cc))))

  -- an item among n from i on
  item_at : (n i b before : ℕ) → items_from fn n i b before ≡ true → (j : ℕ) → i ≤ j → j < i + n → Item fn j
  item_at zero i b before e j p q = absurd (omega arith)
  item_at (suc n) i b before e j p q =
      let s : Step fn n i = items_step n i b before e in
      ⊎_elim (λ d. subst (Item fn) d s.here) (λ l. item_at n (suc i) s.begun s.before s.rest j l (omega arith)) (eq-or-lt_of_le p)

  -- the seven tests of the sizes
  sized : function_sizes fn ≡ true
      → (1 ≤ nlocals fn) × (nlocals fn ≤ 256) × (nargs fn < nlocals fn) × (1 ≤ nblocks fn) × (nblocks fn ≤ 256) × (nitems fn ≤ 16384)
      × (length fn ≡ 4 + nlocals fn + nblocks fn + nblocks fn + nitems fn + nitems fn)
  unfolding function_sizes
  sized e =
      let a : Bool = leb 1 (nlocals fn) in
      let b : Bool = leb (nlocals fn) 256 in
      let c : Bool = ltb (nargs fn) (nlocals fn) in
      let d : Bool = leb 1 (nblocks fn) in
      let f : Bool = leb (nblocks fn) 256 in
      let g : Bool = leb (nitems fn) 16384 in
      let h : Bool = eqb (length fn) (4 + nlocals fn + nblocks fn + nblocks fn + nitems fn + nitems fn) in
      let e6 : a && b && c && d && f && g ≡ true = and_left (a && b && c && d && f && g) h e in
      let e5 : a && b && c && d && f ≡ true = and_left (a && b && c && d && f) g e6 in
      let e4 : a && b && c && d ≡ true = and_left (a && b && c && d) f e5 in
      let e3 : a && b && c ≡ true = and_left (a && b && c) d e4 in
      let e2 : a && b ≡ true = and_left (a && b) c e3 in (
        leb-true 1 (nlocals fn) (and_left a b e2),
        leb-true (nlocals fn) 256 (and_right a b e2),
        ltb-true (nargs fn) (nlocals fn) (and_right (a && b) c e3),
        leb-true 1 (nblocks fn) (and_right (a && b && c) d e4),
        leb-true (nblocks fn) 256 (and_right (a && b && c && d) f e5),
        leb-true (nitems fn) 16384 (and_right (a && b && c && d && f) g e6),
        eqb-true (length fn) _ (and_right (a && b && c && d && f && g) h e),
      )

-- what a record says that passes all tests but the one of its local types
pub facts_of : (fn : List ℕ) → function_sizes fn ≡ true → starts_ok fn ≡ true → ranks_ok fn ≡ true → items_ok fn ≡ true → FunctionFacts fn
unfolding starts_ok ranks_ok items_ok
facts_of fn sizing starting ranking going =
    let z = sized fn sizing in
    let s : (x : ℕ) → x < nblocks fn → ltb (start fn x) (stop fn x) && ltb (start fn x) (nitems fn) ≡ true =
    all_at (λ x. ltb (start fn x) (stop fn x) && ltb (start fn x) (nitems fn)) (nblocks fn) starting in
    let r : (x : ℕ) → x < nblocks fn → ltb (rank fn x) (nblocks fn) && all (λ y. not (eqb (rank fn y) (rank fn x))) x ≡ true =
    all_at (λ x. ltb (rank fn x) (nblocks fn) && all (λ y. not (eqb (rank fn y) (rank fn x))) x) (nblocks fn) ranking in
    let item : (i : ℕ) → i < nitems fn → Item fn i = λ i l. item_at fn (nitems fn) 0 0 0 going i (omega arith) (omega arith) in
    record {
      some_locals = z.0;
      few_locals = z.1;
      few_args = z.2;
      some_blocks = z.3;
      few_blocks = z.4;
      few_items = z.5;
      long = z.6;
      starts = λ x l. ltb-true (start fn x) (stop fn x) (and_left _ (ltb (start fn x) (nitems fn)) (s x l));
      starts_inside = λ x l. ltb-true (start fn x) (nitems fn) (and_right (ltb (start fn x) (stop fn x)) _ (s x l));
      ranks = λ x l. ltb-true (rank fn x) (nblocks fn) (and_left _ (all (λ y. not (eqb (rank fn y) (rank fn x))) x) (r x l));
      ranks_differ = λ x y h l. eqb-false (rank fn y) (rank fn x)
          (not-true _ (all_at (λ k. not (eqb (rank fn k) (rank fn x))) x (and_right (ltb (rank fn x) (nblocks fn)) _ (r x l)) y h));
      ops = λ i l. (item i l).op_few;
      args = λ i l. (item i l).arg_good;
      items = going;
    }

module _ (Γ fn : List ℕ) (e : function_ok Γ fn ≡ true) where
  -- what a record that passes says
  pub function_facts : FunctionFacts fn
  unfolding function_ok
  function_facts = facts_of fn (search (and_left, and_right)) (search (and_left, and_right)) (search (and_left, and_right)) (search (and_left, and_right))

module _ {fn : List ℕ} (h : FunctionFacts fn) where
  -- as many local types as locals
  pub length_local_types : length (local_types fn) ≡ nlocals fn
  unfolding local_types
  length_local_types = length-take-le (nlocals fn) (drop 4 fn) (rw length-drop (omega arith))

  -- a target names a block
  pub target_known : (i : ℕ) → i < nitems fn → op fn i ≡ 10 → arg fn i < nblocks fn
  unfolding arg_ok
  target_known i p e = ltb-true (arg fn i) (nblocks fn) (cc (h.args i p))

  -- a block's items end where the next one's begin
  pub stop_next : (b : ℕ) → suc b < nblocks fn → stop fn b ≡ start fn (suc b)
  unfolding stop
  stop_next b p = rw (lt-ltb (suc b) (nblocks fn) p)

  -- the last block's end with the record's
  pub stop_last : (b : ℕ) → nblocks fn ≤ suc b → stop fn b ≡ nitems fn
  unfolding stop
  stop_last b p = rw (le-ltb (suc b) (nblocks fn) p)

  -- no block's end lies past the items
  pub stop_inside : (b : ℕ) → stop fn b ≤ nitems fn
  stop_inside b =
      split (ltb (suc b) (nblocks fn))
      (λ e. rw (stop_next b (ltb-true (suc b) (nblocks fn) e)) (omega (arith, h.starts_inside (suc b) (ltb-true (suc b) (nblocks fn) e))))
      (λ e. rw (stop_last b (ltb-false (suc b) (nblocks fn) e)) (omega arith))

  -- nor past the start of a later block
  pub stop_before : (b c : ℕ) → b < c → c < nblocks fn → stop fn b ≤ start fn c
  stop_before b zero p q = absurd (omega arith)
  stop_before b (suc c) p q =
      ⊎_elim
      (λ e. subst (λ (k : ℕ). stop fn b ≤ start fn (suc k)) e (omega (arith, stop_next b (omega arith))))
      (λ l. omega (arith, stop_before b c l (omega arith), h.starts c (omega arith), stop_next c q))
      (eq-or-lt_of_le (le_of_suc-le-suc p))

-- the local types pass
pub locals_pass : (Γ fn : List ℕ) → function_ok Γ fn ≡ true → locals_ok Γ (local_types fn) ≡ true
unfolding function_ok
locals_pass Γ fn e = search (and_left, and_right)
