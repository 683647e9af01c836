-- The entries of statements: lifted to a node from its children, put together of several trees, and as model writes them. Assumes nothing.
use mathlib.Core.Path.{◌≡◌, refl, sym, ◌∙◌, ap, ap₂}
use mathlib.Core.Bool.{Bool}
use mathlib.Core.List.{List, [], ◌∷◌, ◌++◌, map, append_assoc, append-nil}
use Prim.Native.Nat.{ℕ, suc, ◌+◌, ◌≤◌}
use native.Mathlib.Nat.{zero-add}
use native.Mathlib.Omega.{arith}
use lib.ListN.{length, length-append, length-map}
use Rattle.model.specs.Place.{Place, Verb, Statement, At, here, under, first, later}
use Rattle.model.specs.Collect.{hop, lift, both}
use Rattle.model.specs.Frame.{mark}
use Rattle.model.specs.Record.{Entry, elem_entry, verb_entry, point_entry, line_entries, entries}
use Rattle.type_record.specs.Kinds.{kind_code}
use Rattle.type_record.specs.declared.kinds.Kind.{Kind}
use Rattle.collectors.specs.declared.path.Way.{Way}
use Rattle.collectors.specs.Trail.{line, lines, lines_of, way, root}

-- the way to the first child of a node of kind k, open at v
abbrev pub way_in : Bool → Kind → ℕ → Way
way_in full k v = record { full = full; kind = k; variant = v; child = 0 }

-- the verb of a statement seen from further up
under_verb : (h : Place) (c : Statement) → (under h c).verb ≡ c.verb
under_verb [] c = refl
under_verb (e ∷ h) c = under_verb h c

-- and its place, as entries
under_place : (h : Place) (c : Statement) → map elem_entry (under h c).place ≡ map elem_entry h ++ map elem_entry c.place
under_place [] c = refl
under_place (e ∷ h) c = ap (λ (l : List Entry). elem_entry e ∷ l) (under_place h c)

module _ (p : Entry) where
  -- a statement seen from further up
  line_under : (q : List Entry) (h : Place) (c : Statement) → line p q (under h c) ≡ line p (q ++ map elem_entry h) c
  unfolding line
  line_under q h c =
      ap₂ (λ (v : Verb) (l : List Entry). p ∷ verb_entry v ∷ (q ++ l)) (under_verb h c) (under_place h c)
      ∙ ap (λ (l : List Entry). p ∷ verb_entry c.verb ∷ l) (sym (append_assoc q (map elem_entry h) (map elem_entry c.place)))

  -- statements of the children, seen from the node
  pub lines_lift : (q : List Entry) (full : Bool) (k : Kind) (v : ℕ) (a : List At) → lines p q (map (lift full (kind_code k) v) a) ≡ lines_of p (way q (way_in full k v)) a
  unfolding lines lines_of lift way
  lines_lift q full k v [] = refl
  lines_lift q full k v (c ∷ a) =
      ap₂ ◌++◌
      (line_under q (hop full (kind_code k) v c.number) c.what ∙ ap (λ (i : ℕ). line p (q ++ map elem_entry (hop full (kind_code k) v i)) c.what) (sym (zero-add c.number)))
      (lines_lift q full k v a)

  -- statements of the later trees
  pub lines_later : (q q₁ : ℕ → List Entry) → ((i : ℕ) → q (suc i) ≡ q₁ i) → (b : List At) → lines_of p q (map later b) ≡ lines_of p q₁ b
  unfolding lines_of
  lines_later q q₁ d [] = refl
  lines_later q q₁ d (c ∷ b) = ap₂ ◌++◌ (ap (λ (l : List Entry). line p l c.what) (d c.number)) (lines_later q q₁ d b)

  -- statements of the first tree, then those of the others
  pub lines_both : (q : ℕ → List Entry) (q₀ : List Entry) (q₁ : ℕ → List Entry) → q 0 ≡ q₀ → ((i : ℕ) → q (suc i) ≡ q₁ i)
      → (a : List Statement) (b : List At) → lines_of p q (both a b) ≡ lines p q₀ a ++ lines_of p q₁ b
  unfolding lines lines_of
  lines_both q q₀ q₁ e d [] b = lines_later q q₁ d b
  lines_both q q₀ q₁ e d (c ∷ a) b =
      ap₂ (λ (l m : List Entry). line p l c ++ m) e (lines_both q q₀ q₁ e d a b) ∙ sym (append_assoc (line p q₀ c) (lines p q₀ a) (lines_of p q₁ b))

  -- a statement has entries
  pub lines_many : (q : ℕ → List Entry) (a : List At) → length a ≤ length (lines_of p q a)
  unfolding lines_of line
  lines_many q [] = omega arith
  lines_many q (c ∷ a) = omega (arith, lines_many q a, length-append (line p (q c.number) c.what) (lines_of p q a))

-- as many statements
pub both_length : (a : List Statement) (b : List At) → length (both a b) ≡ length a + length b
both_length a b = length-append (map first a) (map later b) ∙ ap₂ ◌+◌ (length-map a first) (length-map b later)

-- the entries of statements at one point
pub lines_mark : (e i : ℕ) (a : List At) → entries e (mark i a) ≡ lines_of (point_entry e i) (root 0) a
unfolding entries mark line_entries lines_of line root
lines_mark e i [] = refl
lines_mark e i (c ∷ a) =
    ap₂ (λ (n : ℕ) (l : List Entry). point_entry e i ∷ verb_entry c.what.verb ∷ (0, n) ∷ (map elem_entry c.what.place ++ l)) (sym (zero-add c.number)) (lines_mark e i a)

-- one statement on the tree itself
pub lines_one : (p : Entry) (q : List Entry) (w : Verb) → lines p q (here w ∷ []) ≡ p ∷ verb_entry w ∷ q
unfolding lines line
lines_one p q w = ap (λ (l : List Entry). p ∷ verb_entry w ∷ l) (append-nil (q ++ []) ∙ append-nil q)
