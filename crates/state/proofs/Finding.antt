-- What the check of a state record finds, step by step: trees found one by one, and what is left to find behind them.
use mathlib.Core.Path.{◌≡◌, refl, sym, ◌∙◌, ap, subst}
use mathlib.Core.List.{List, [], ◌∷◌}
use Prim.Native.Nat.{ℕ, ◌+◌, ◌-◌, ◌<◌, ◌≤◌}
use native.Mathlib.Numerals.{add-one}
use native.Mathlib.Omega.{arith}
use lib.ListN.{length, get_or, drop, drop_of_length-le}
use lib.Seq.{drop-cons}
use Rattle.model.specs.Types.{kind, kids, form}
use Rattle.model.specs.Tree.{leaf, node, nil, more, size, sizes}
use Rattle.model.specs.Typing.{Openable, depth, depths}
use Rattle.records.specs.Here.{CodedAll}
use Rattle.base.specs.Kinds.{Known}
use Rattle.records.specs.Coded.{coded_split, coded_none, coded_unique}
use Rattle.records.specs.Built.{leaf_coded, node_coded, none_coded, more_coded}
use Rattle.records.specs.Absent.{Absent, AbsentAll, absent_first, absent_rest}
use Rattle.state.specs.Found.{Found, FoundAll}

module _ {Γ fs ws : List ℕ} {n d i : ℕ} where
  -- two zeros are a folded tree
  pub found_leaf : (t : ℕ) → i < n → n ≤ length fs → n ≤ length ws → get_or fs i 0 ≡ 0 → get_or ws i 0 ≡ 0 → Found Γ fs ws n d i t (i + 1)
  unfolding size depth
  found_leaf t h lf lw e g =
      record { tree = leaf t; coded = leaf_coded t (omega arith) (omega arith) e g; end = refl; deep = omega arith; within = omega arith }

  -- no tree
  pub found_none : i ≤ n → FoundAll Γ fs ws n d i [] i
  unfolding size depth
  found_none h = record { trees = nil; coded = none_coded; end = omega arith; deep = omega arith; within = h }

  -- no more than none
  pub found_end : {e : ℕ} → FoundAll Γ fs ws n d i [] e → e ≡ i
  unfolding size
  found_end f = omega (arith, f.end, ap sizes (coded_none f.coded))

  module _ {t : ℕ} {ts : List ℕ} where
    -- a tree, then others
    pub found_more : {e k : ℕ} → Found Γ fs ws n d i t e → FoundAll Γ fs ws n d e ts k → FoundAll Γ fs ws n d i (t ∷ ts) k
    unfolding size depth
    found_more {e} {k} f g =
        record {
          trees = more f.tree g.trees;
          coded = more_coded f.coded (subst (λ (j : ℕ). CodedAll Γ fs ws j ts g.trees) f.end g.coded);
          end = omega (arith, f.end, g.end);
          deep = omega (arith, f.deep, g.deep);
          within = g.within;
        }

    -- the first of several trees
    pub found_first : {k : ℕ} → FoundAll Γ fs ws n d i (t ∷ ts) k → Absent Γ fs ws n d i t → ⊥
    unfolding depth
    found_first g a =
        let s = coded_split g.coded in
        a s.head s.here (omega (arith, g.deep, ap depths s.is)) (omega (arith, g.end, g.within, s.long))

    -- those behind the first
    pub found_rest : {e k : ℕ} → Known Γ → Found Γ fs ws n d i t e → FoundAll Γ fs ws n d i (t ∷ ts) k → FoundAll Γ fs ws n d e ts k
    unfolding depth
    found_rest {e} {k} known f g =
        let s = coded_split g.coded in
        let same : size s.head ≡ size f.tree = ap size (coded_unique known s.here f.coded) in
        record {
          trees = s.tail;
          coded = subst (λ (j : ℕ). CodedAll Γ fs ws j ts s.tail) (omega (arith, f.end)) s.rest;
          end = omega (arith, f.end, g.end, s.long);
          deep = omega (arith, g.deep, ap depths s.is);
          within = g.within;
        }

-- a form and a what that open the type, and the children behind them
pub found_node : {Γ fs ws : List ℕ} {n d i t v e : ℕ} → i < n → n ≤ length fs → n ≤ length ws → Openable Γ t v → get_or fs i 0 ≡ form (kind Γ t)
    → get_or ws i 0 ≡ v → 0 < d → FoundAll Γ fs ws n (d - 1) (i + 1) (kids Γ t v) e → Found Γ fs ws n d i t e
unfolding size depth
found_node {t} {v} h lf lw o e g p f =
    record {
      tree = node t v f.trees;
      coded = node_coded (omega arith) (omega arith) o e g f.coded;
      end = omega (arith, f.end);
      deep = omega (arith, f.deep);
      within = f.within;
    }

-- trees of the types us
module _ {Γ fs ws us : List ℕ} {n d i : ℕ} where
  -- none of them
  pub found_nothing : us ≡ [] → i ≤ n → FoundAll Γ fs ws n d i us i
  found_nothing e h = rw e (found_none h)

  module _ {t : ℕ} {ts : List ℕ} (p : us ≡ t ∷ ts) where
    -- a tree of the first type, and trees of the others
    pub found_both : {e k : ℕ} → Found Γ fs ws n d i t e → FoundAll Γ fs ws n d e ts k → FoundAll Γ fs ws n d i us k
    found_both f g = rw p (found_more f g)

    -- no tree of the first
    pub absent_one : Absent Γ fs ws n d i t → AbsentAll Γ fs ws n d i us
    absent_one a = rw p (absent_first a)

    -- no trees of the others
    pub absent_others : {e : ℕ} → Known Γ → Found Γ fs ws n d i t e → AbsentAll Γ fs ws n d e ts → AbsentAll Γ fs ws n d i us
    absent_others known f a = rw p (absent_rest known f.coded (subst (λ (k : ℕ). AbsentAll Γ fs ws n d k ts) f.end a))

-- THE LOCALS

-- the first l types stand from 0 up to i: what is left to find is the others, from i on
pub record Passed (Γ fs ws : List ℕ) (n d : ℕ) (ts : List ℕ) (l i : ℕ) : Type 0 where
  pub within : i ≤ n
  pub whole : {e : ℕ} → FoundAll Γ fs ws n d i (drop l ts) e → FoundAll Γ fs ws n d 0 ts e
  pub left : {e : ℕ} → FoundAll Γ fs ws n d 0 ts e → FoundAll Γ fs ws n d i (drop l ts) e

module _ {Γ fs ws : List ℕ} {n d : ℕ} {ts : List ℕ} where
  -- none has passed
  pub passed_none : Passed Γ fs ws n d ts 0 0
  passed_none = record { within = omega arith; whole = λ f. f; left = λ f. f }

  module _ {l i : ℕ} (p : Passed Γ fs ws n d ts l i) where
    -- all have passed
    pub passed_all : l ≡ length ts → i ≡ n → FoundAll Γ fs ws n d 0 ts n
    passed_all e z = p.whole (rw (drop_of_length-le ts {i = l} (omega arith), z) (found_none (omega arith)))

    -- they have, so the words end where they do
    pub passed_short : l ≡ length ts → FoundAll Γ fs ws n d 0 ts n → n ≡ i
    passed_short e f = found_end (subst (λ (us : List ℕ). FoundAll Γ fs ws n d i us n) (drop_of_length-le ts {i = l} (omega arith)) (p.left f))

    module _ (h : l < length ts) where
      here : drop l ts ≡ get_or ts l 0 ∷ drop (l + 1) ts
      here = drop-cons ts l 0 h ∙ ap (λ (k : ℕ). get_or ts l 0 ∷ drop k ts) (sym (add-one l))

      -- one more has
      pub passed_more : {e : ℕ} → Known Γ → Found Γ fs ws n d i (get_or ts l 0) e → Passed Γ fs ws n d ts (l + 1) e
      passed_more known f =
          record {
            within = f.within;
            whole = λ {e = k} g. p.whole (subst (λ (us : List ℕ). FoundAll Γ fs ws n d i us k) (sym here) (found_more f g));
            left = λ {e = k} g. found_rest known f (subst (λ (us : List ℕ). FoundAll Γ fs ws n d i us k) here (p.left g));
          }

      -- one more does not stand there
      pub passed_absent : Absent Γ fs ws n d i (get_or ts l 0) → FoundAll Γ fs ws n d 0 ts n → ⊥
      passed_absent a f = found_first (subst (λ (us : List ℕ). FoundAll Γ fs ws n d i us n) here (p.left f)) a
