-- A function record whose blocks are made of what lists of statements give, each with an ender, is in order: it is never refused with 2
-- for the order of its items.
use Rattle.std.specs.Prelude.{◌≡◌, Bool, false, ◌&&◌, ◌||◌, length, eqb, leb}
use Rattle.std.proofs.Math.Path.{refl, ap, subst}
use Rattle.std.proofs.Common.{sym, ◌∙◌}
use Rattle.std.proofs.Math.Bool.{true}
use mathlib.Core.List.{List, [], ◌∷◌, ◌++◌}
use Prim.Native.Nat.{ℕ, zero, suc, ◌+◌, ◌-◌, ◌≤◌, ◌<◌}
use native.Mathlib.Omega.{arith}
use Rattle.std.proofs.Math.Dec.{ltb}
use borrow.Author.Tests.{ltb-true, lt-ltb, le-ltb, leb-true, ne_eqb}
use Rattle.model.specs.Answer.{done}
use Rattle.model.specs.Record.{Entry}
use Rattle.model.specs.State.{locals_ok}
use Rattle.model.specs.Function.{nlocals, nargs, nblocks, nitems, local_types, start, stop, op, arg, may_follow, after, arg_ok, function_sizes, starts_ok, ranks_ok, items_from, items_ok, function_ok}
use Rattle.model.specs.Assign.{Operand, operands_ok, statement_items}
use Rattle.base.specs.Tests.{split, and_left, and_right, eqb_same}
use Rattle.base.specs.Below.{all_at}
use Rattle.assign.specs.Leads.{Leads, leads_end, leads_first, leads_append, entry_leads, Ender, ender_leads, items_lead}
use Rattle.assign.specs.Clauses.{each}

-- the items of a record from item i on
unfoldable pub items_of : List ℕ → ℕ → ℕ → List Entry
items_of fn i zero = []
items_of fn i (suc m) = (op fn i, arg fn i) ∷ items_of fn (suc i) m

-- block b is what a list gives, and an ender
pub record Made (fn : List ℕ) (b : ℕ) : Type 0 where
  pub list : List ℕ
  pub room : ℕ
  pub items : List Entry
  pub ender : List Entry
  pub given : statement_items list room ≡ done items
  pub ends : Ender (nblocks fn) ender
  pub all : items_of fn (start fn b) (stop fn b - start fn b) ≡ items ++ ender

-- before start[0] stand places with use
pub record Entered (fn : List ℕ) : Type 0 where
  pub places : List Operand
  pub ok : operands_ok places ≡ true
  pub all : items_of fn 0 (start fn 0) ≡ each places

module _ (fn : List ℕ) where
  -- is i where block b begins?
  abbrev begins : ℕ → ℕ → Bool
  begins i b = ltb b (nblocks fn) && eqb i (start fn b)

  -- one item more; the first of a block
  one_more : (n i b before : ℕ) → begins i b ≡ false → may_follow before (op fn i) ≡ true → arg_ok fn i ≡ true
      → items_from fn (suc n) i b before ≡ items_from fn n (suc i) b (after before (op fn i))
  unfolding items_from
  one_more n i b before h m a = rw (h, items_from, m, a) refl

  one_new : (n i b before : ℕ) → begins i b ≡ true → eqb before 0 || eqb before 8 ≡ true → may_follow 2 (op fn i) ≡ true → arg_ok fn i ≡ true
      → items_from fn (suc n) i b before ≡ items_from fn n (suc i) (suc b) (after 2 (op fn i))
  unfolding items_from
  one_new n i b before h e m a = rw (h, items_from, e, m, a) refl

  -- no block begins before its start
  not_yet : (i b m : ℕ) → (b < nblocks fn → i + suc m ≤ start fn b) → begins i b ≡ false
  not_yet i b m h = split (ltb b (nblocks fn))
      (λ e. rw (e, ne_eqb i (start fn b) (λ z. absurd (omega (arith, h (ltb-true b (nblocks fn) e))))) refl)
      (λ e. rw e refl)

  -- items in order, up to where block b begins
  run : (m n i b before c : ℕ) → Leads (nblocks fn) before (items_of fn i m) c → (b < nblocks fn → i + m ≤ start fn b)
      → items_from fn (m + n) i b before ≡ items_from fn n (i + m) b c
  unfolding items_of arg_ok
  run zero n i b before c L h =
      let y : 0 + n ≡ n = omega arith in
      let z : i + 0 ≡ i = omega arith in
      rw (y, z, leads_end L) refl
  run (suc m) n i b before c L h =
      let (f, a, K) = leads_first L in
      let y : suc m + n ≡ suc (m + n) = omega arith in
      let z : i + suc m ≡ suc i + m = omega arith in
      rw (y, z) (one_more (m + n) i b before (not_yet i b m h) f a ∙ run m n (suc i) b (after before (op fn i)) c K (λ l. omega (arith, h l)))

  -- a block's items
  block : (m n b before : ℕ) → b < nblocks fn → eqb before 0 || eqb before 8 ≡ true → Leads (nblocks fn) 2 (items_of fn (start fn b) (suc m)) 8
      → (suc b < nblocks fn → start fn b + suc m ≤ start fn (suc b)) → items_from fn (suc m + n) (start fn b) b before ≡ items_from fn n (start fn b + suc m) (suc b) 8
  unfolding items_of arg_ok
  block m n b before l e L h =
      let (f, a, K) = leads_first L in
      let i = start fn b in
      let y : suc m + n ≡ suc (m + n) = omega arith in
      let z : i + suc m ≡ suc i + m = omega arith in
      let g : begins i b ≡ true = rw (lt-ltb b (nblocks fn) l) (eqb_same i) in
      rw (y, z) (one_new (m + n) i b before g e f a ∙ run m n (suc i) (suc b) (after 2 (op fn i)) 8 K (λ k. omega (arith, h k)))

  -- so is the whole record, if its starts are
  module _ (s : starts_ok fn ≡ true) (made : (b : ℕ) → b < nblocks fn → Made fn b) where
    starts : (b : ℕ) → b < nblocks fn → (start fn b < stop fn b) × (start fn b < nitems fn)
    unfolding starts_ok
    starts b l =
        let h = all_at (λ b. ltb (start fn b) (stop fn b) && ltb (start fn b) (nitems fn)) (nblocks fn) s b l in (
          ltb-true (start fn b) (stop fn b) (and_left (ltb (start fn b) (stop fn b)) (ltb (start fn b) (nitems fn)) h),
          ltb-true (start fn b) (nitems fn) (and_right (ltb (start fn b) (stop fn b)) (ltb (start fn b) (nitems fn)) h),
        )

    stop_next : (b : ℕ) → suc b < nblocks fn → stop fn b ≡ start fn (suc b)
    unfolding stop
    stop_next b l = rw (lt-ltb (suc b) (nblocks fn) l) refl

    stop_last : (b : ℕ) → nblocks fn ≤ suc b → stop fn b ≡ nitems fn
    unfolding stop
    stop_last b l = rw (le-ltb (suc b) (nblocks fn) l) refl

    -- what a block's items are, and their number
    leads : (b : ℕ) → b < nblocks fn → Leads (nblocks fn) 2 (items_of fn (start fn b) (stop fn b - start fn b)) 8
    leads b l =
        let M = made b l in
        subst (λ (x : List Entry). Leads (nblocks fn) 2 x 8) (sym M.all) (leads_append (items_lead (nblocks fn) M.list M.room M.given) (ender_leads (nblocks fn) M.ends))

    -- the block, and all behind it
    through : (b n before : ℕ) → b < nblocks fn → eqb before 0 || eqb before 8 ≡ true
        → items_from fn (stop fn b - start fn b + n) (start fn b) b before ≡ items_from fn n (stop fn b) (suc b) 8
    through b n before l e =
        let (r, t) = starts b l in
        let m = stop fn b - start fn b - 1 in
        let y : stop fn b - start fn b ≡ suc m = omega arith in
        let z : start fn b + suc m ≡ stop fn b = omega arith in
        let L = subst (λ (x : ℕ). Leads (nblocks fn) 2 (items_of fn (start fn b) x) 8) y (leads b l) in
        ap (λ (x : ℕ). items_from fn (x + n) (start fn b) b before) y ∙ block m n b before l e L (λ k. omega (arith, stop_next b k))
        ∙ ap (λ (x : ℕ). items_from fn n x (suc b) 8) z

    from : (k b before : ℕ) → b + suc k ≡ nblocks fn → eqb before 0 || eqb before 8 ≡ true → items_from fn (nitems fn - start fn b) (start fn b) b before ≡ true
    unfolding items_from
    from zero b before e d =
        let l : b < nblocks fn = omega arith in
        let z : stop fn b ≡ nitems fn = stop_last b (omega arith) in
        let y : nitems fn - start fn b ≡ stop fn b - start fn b + 0 = omega (arith, (starts b l).0) in
        rw y (through b 0 before l d)
    from (suc k) b before e d =
        let l : b < nblocks fn = omega arith in
        let z : stop fn b ≡ start fn (suc b) = stop_next b (omega arith) in
        let n = nitems fn - start fn (suc b) in
        let y : nitems fn - start fn b ≡ stop fn b - start fn b + n = omega (arith, (starts b l).0, (starts (suc b) (omega arith)).1) in
        rw y (through b n before l d ∙ rw z (from k (suc b) 8 (omega arith) refl))

    pub made_ordered : 1 ≤ nblocks fn → Entered fn → items_ok fn ≡ true
    unfolding items_ok
    made_ordered l E =
        let i = start fn 0 in
        let n = nitems fn - i in
        let k = nblocks fn - 1 in
        let y : nitems fn ≡ i + n = omega (arith, (starts 0 (omega arith)).1) in
        let z : 0 + i ≡ i = omega arith in
        let L = subst (λ (x : List Entry). Leads (nblocks fn) 0 x 0) (sym E.all) (entry_leads (nblocks fn) E.places E.ok) in
        let r : items_from fn (i + n) 0 0 0 ≡ items_from fn n (0 + i) 0 0 = run i n 0 0 0 0 L (λ h. omega arith) in
        let f : items_from fn n i 0 0 ≡ true = from k 0 0 (omega arith) refl in
        ap (λ (x : ℕ). items_from fn x 0 0 0) y ∙ r ∙ ap (λ (x : ℕ). items_from fn n x 0 0) z ∙ f

-- a record that is sized has a block
sized : (fn : List ℕ) → function_sizes fn ≡ true → 1 ≤ nblocks fn
unfolding function_sizes
sized fn h =
    let a = leb 1 (nlocals fn) && leb (nlocals fn) 256 && ltb (nargs fn) (nlocals fn) in
    let b = leb 1 (nblocks fn) in
    let c = leb (nblocks fn) 256 in
    let i = leb (nitems fn) 16384 in
    let e = eqb (length fn) (4 + nlocals fn + nblocks fn + nblocks fn + nitems fn + nitems fn) in
    leb-true 1 (nblocks fn) (and_right a b (and_left (a && b) c (and_left (a && b && c) i (and_left (a && b && c && i) e h))))

-- "is never refused with 2 for its item order": it passes if its sizes, local types, starts and ranks do
pub made_passes : (Γ fn : List ℕ) → ((b : ℕ) → b < nblocks fn → Made fn b) → Entered fn
    → function_ok Γ fn ≡ (function_sizes fn && locals_ok Γ (local_types fn) && starts_ok fn && ranks_ok fn)
unfolding function_ok
made_passes Γ fn made E =
    let z = function_sizes fn in
    let t = locals_ok Γ (local_types fn) in
    let s = starts_ok fn in
    let r = ranks_ok fn in
    split (z && t && s && r)
    (λ e.
    let b = and_left (z && t && s) r e in
    let l = sized fn (and_left z t (and_left (z && t) s b)) in
    rw (e, made_ordered fn (and_right (z && t) s b) made l E) refl)
    (λ e. rw e refl)
