-- The items of a path in its two arrays: one more is set, and those before stay. Assumes nothing.
use mathlib.Core.Path.{◌≡◌, refl, sym, ◌∙◌, ap, ap₂}
use mathlib.Core.Bool.{true, false, ◌&&◌}
use mathlib.Core.List.{List, [], ◌∷◌, ◌++◌, append_assoc}
use Prim.Native.Nat.{ℕ, suc, ◌+◌, ◌≤◌, ◌<◌}
use native.Mathlib.Numerals.{add-one}
use native.Mathlib.Nat.{suc_inj, add-zero}
use native.Mathlib.Omega.{arith}
use denote.Enum.Bare.{sameb}
use lib.Dec.{eqb}
use lib.ListN.{length, take, set}
use lib.Seq.{take_at, take-take, take-suc-set, length-take-le}
use Rattle.model.specs.Types.{pointer}
use Rattle.model.specs.State.{pairs}
use Rattle.model.specs.Collect.{hop}
use Rattle.model.specs.Record.{Entry, elem_entry}
use Rattle.records.specs.Pairs.{take_pairs}
use Rattle.type_record.specs.Kinds.{kind_code}
use Rattle.type_record.specs.contracts.kinds.Kind.{the_type}
use Rattle.type_record.specs.declared.kinds.Kind.{Kind}
use Rattle.type_record.specs.declared.kinds.Kind.TheVariants.{Opaque, Pointer, Reference, Box, Array, Tuple, Struct, Enum, Variant, Closure, Coroutine, Other}
use Rattle.collectors.specs.declared.path.Way.{Way}
use Rattle.collectors.specs.declared.got.Children.{Children}
use Rattle.collectors.specs.Trail.{trail, elems, Long, Added, Keeps, Hopped, way}
use Rattle.collectors.specs.Gets.{ways, left}

-- a pair behind pairs
pairs_more : (a b : List ℕ) (x y : ℕ) → length a ≡ length b → pairs (a ++ (x ∷ [])) (b ++ (y ∷ [])) ≡ pairs a b ++ ((x, y) ∷ [])
unfolding pairs
pairs_more [] [] x y e = refl
pairs_more [] (d ∷ b) x y e = absurd (omega arith)
pairs_more (c ∷ a) [] x y e = absurd (omega arith)
pairs_more (c ∷ a) (d ∷ b) x y e = ap (λ (l : List Entry). (c, d) ∷ l) (pairs_more a b x y (suc_inj e))

-- as many pairs as numbers
pairs_length : (a b : List ℕ) → length a ≡ length b → length (pairs a b) ≡ length a
unfolding pairs
pairs_length [] [] e = refl
pairs_length [] (d ∷ b) e = absurd (omega arith)
pairs_length (c ∷ a) [] e = absurd (omega arith)
pairs_length (c ∷ a) (d ∷ b) e = ap suc (pairs_length a b (suc_inj e))

module _ {ops args : List ℕ} (L : Long ops args) {n : ℕ} where
  -- the item behind the first n is set
  pub trail_set : (op arg : ℕ) → n < 130 → Added ops args (set ops n op) (set args n arg) n op arg
  trail_set op arg h =
      record {
        items = ap₂ pairs (ap (λ (k : ℕ). take k (set ops n op)) (add-one n) ∙ take-suc-set ops n op (omega arith)) (ap (λ (k : ℕ). take k (set args n arg)) (add-one n) ∙ take-suc-set args n arg (omega arith))
            ∙ pairs_more (take n ops) (take n args) op arg (length-take-le n ops (omega arith) ∙ sym (length-take-le n args (omega arith)));
      }

  -- n items
  trail_length : n ≤ 130 → length (trail ops args n) ≡ n
  trail_length h = pairs_length (take n ops) (take n args) (length-take-le n ops (omega arith) ∙ sym (length-take-le n args (omega arith))) ∙ length-take-le n ops (omega arith)

  -- items behind the first n keep those
  behind_keeps : {ops' args' : List ℕ} (m : ℕ) (es : List Entry) → n ≤ m → n ≤ 130 → trail ops' args' m ≡ trail ops args n ++ es → Keeps ops args ops' args' n
  behind_keeps {ops'} {args'} m es l h e =
      record {
        items =
            ap₂ pairs (sym (take-take n m ops' l)) (sym (take-take n m args' l))
            ∙ sym (take_pairs n (take m ops') (take m args'))
            ∙ ap (take n) e
            ∙ take_at (trail ops args n) es n (trail_length h);
      }

  -- as one item does
  pub added_keeps : {ops' args' : List ℕ} {op arg : ℕ} → n ≤ 130 → Added ops args ops' args' n op arg → Keeps ops args ops' args' n
  added_keeps {op} {arg} h A = behind_keeps (n + 1) ((op, arg) ∷ []) (omega arith) h A.items

  -- and a hop, with what is kept behind it
  pub hop_keeps : {ops₁ args₁ ops₂ args₂ : List ℕ} {w : Way} {m : ℕ} → n ≤ 130 → Hopped ops args ops₁ args₁ n w m
      → Keeps ops₁ args₁ ops₂ args₂ m → Keeps ops args ops₂ args₂ n
  hop_keeps {w} {m} h H K = behind_keeps m (elems w w.child) H.low h (K.items ∙ H.items)

-- where the path leads from, it leads on
pub keeps_then : {a b a₁ b₁ a₂ b₂ : List ℕ} {n : ℕ} → Keeps a b a₁ b₁ n → Keeps a₁ b₁ a₂ b₂ n → Keeps a b a₂ b₂ n
keeps_then K J = record { items = J.items ∙ K.items }

-- nothing was set
pub keeps_none : {a b : List ℕ} {n : ℕ} → Keeps a b a b n
keeps_none = record { items = refl }

-- a kind that is an enum's, as the code tests it
pub enum_code : (k : Kind) → eqb (kind_code k) 7 ≡ sameb the_type k Enum
enum_code Opaque = refl
enum_code Pointer = refl
enum_code Reference = refl
enum_code Box = refl
enum_code Array = refl
enum_code Tuple = refl
enum_code Struct = refl
enum_code Enum = refl
enum_code Variant = refl
enum_code Closure = refl
enum_code Coroutine = refl
enum_code Other = refl

-- the three ways of a hop
module _ {ops args ops' args' : List ℕ} {n : ℕ} {w : Way} {r : ℕ} where
  -- through a pointer
  pub hop_deref : pointer (kind_code w.kind) ≡ true → Added ops args ops' args' n 1 0 → r ≡ n + 1 → Hopped ops args ops' args' n w r
  unfolding hop elem_entry
  hop_deref p e d = record { low = omega arith; high = omega arith; items = rw (d, p) e.items }

  -- to a field
  pub hop_field : pointer (kind_code w.kind) ≡ false → w.full && eqb (kind_code w.kind) 7 ≡ false → Added ops args ops' args' n 2 w.child → r ≡ n + 1
      → Hopped ops args ops' args' n w r
  unfolding hop elem_entry
  hop_field p f e d = record { low = omega arith; high = omega arith; items = rw (d, p, f) e.items }

  -- to a variant's field
  pub hop_cast : {ops₁ args₁ : List ℕ} → pointer (kind_code w.kind) ≡ false → w.full && eqb (kind_code w.kind) 7 ≡ true → Added ops args ops₁ args₁ n 3 w.variant
      → Added ops₁ args₁ ops' args' (n + 1) 2 w.child → r ≡ n + 2 → Hopped ops args ops' args' n w r
  unfolding hop elem_entry
  hop_cast p f e g d =
      let two : r ≡ n + 1 + 1 = omega arith in
      let add : List Entry → List Entry = λ l. l ++ ((2, w.child) ∷ []) in
      record {
        low = omega arith;
        high = omega arith;
        items = rw (two, p, f) (g.items ∙ ap add e.items ∙ append_assoc (trail ops args n) ((3, w.variant) ∷ []) ((2, w.child) ∷ []));
      }

-- the way to the child
pub way_first : {ops args ops' args' : List ℕ} {n : ℕ} {w : Way} {m : ℕ} → Hopped ops args ops' args' n w m → way (trail ops args n) w 0 ≡ trail ops' args' m
unfolding way
way_first {ops} {args} {n} {w} H = ap (λ (i : ℕ). trail ops args n ++ elems w i) (add-zero w.child) ∙ sym H.items

-- and to those behind it
pub way_next : {ops args ops' args' : List ℕ} (k : Children) (a b : ℕ) → Keeps ops args ops' args' k.depth
    → (i : ℕ) → ways ops args k (suc i) ≡ ways ops' args' (left k a b) i
unfolding way
way_next k a b K i =
    let same : k.way.child + suc i ≡ k.way.child + 1 + i = omega arith in
    ap₂ (λ (q : List Entry) (j : ℕ). q ++ elems k.way j) (sym K.items) same
