-- A tree whose codes stand in two arrays, taken apart: one law for each step of code that reads it.
--     coded_in_forms, coded_in_whats    the place is in the arrays
--     coded_folded, coded_opened        the form there is 0, or is not
--     coded_none, coded_split           no tree is left, or one stands first
--     coded_moved                       the same words at another place
--     coded_unique                      one place holds one tree
use Rattle.std.specs.Prelude.{◌≡◌, refl, ℕ, suc, ◌+◌, ◌≤◌, max, length, get_or, drop}
use Rattle.std.proofs.Common.{sym, ◌∙◌, ap₂, arith, take-append-drop}
use Rattle.std.proofs.Math.Path.{ap}
use mathlib.Core.List.{List, [], ◌∷◌, ◌++◌}
use Rattle.std.proofs.Math.Option.{some}
use Rattle.model.specs.Types.{kind, kids, form}
use Rattle.model.specs.Tree.{Tree, leaf, node, Forest, nil, more, size, sizes}
use Rattle.model.specs.Typing.{Openable, Fit, Fits, fit_leaf, fit_node, fit_none, fit_more, depth, depths}
use Rattle.model.specs.State.{Code, Read, codes, codess, pairs, read_tree, read_each}
use Rattle.base.specs.Kinds.{Known, openable_form}
use Rattle.records.specs.Here.{firsts, seconds, Coded, CodedAll}
use Rattle.records.specs.Pairs.{pairs_halves, take_pairs, firsts_append, seconds_append}
use Rattle.records.specs.Window.{window, window_in, window_consed, window_joined}
use Rattle.records.specs.Codes.{size_pos, tree_forms, tree_whats}
use Rattle.records.specs.Decode.{read_back, reads_back}

-- an open node at i, with its children
pub record Opened (Γ fs ws : List ℕ) (i t : ℕ) (x : Tree) : Type 0 where
  pub children : Forest
  pub is : x ≡ node t (get_or ws i 0) children
  pub formed : get_or fs i 0 ≡ form (kind Γ t)
  pub openable : Openable Γ t (get_or ws i 0)
  pub below : CodedAll Γ fs ws (i + 1) (kids Γ t (get_or ws i 0)) children
  pub long : size x ≡ suc (sizes children)

-- a first tree at i, and the others behind it
pub record Split (Γ fs ws : List ℕ) (i t : ℕ) (ts : List ℕ) (xs : Forest) : Type 0 where
  pub head : Tree
  pub tail : Forest
  pub is : xs ≡ more head tail
  pub here : Coded Γ fs ws i t head
  pub rest : CodedAll Γ fs ws (i + size head) ts tail
  pub long : sizes xs ≡ size head + sizes tail

-- the codes from i on
abbrev pub cells : List ℕ → List ℕ → ℕ → List Code
cells fs ws i = pairs (drop i fs) (drop i ws)

-- x, read from n of the codes from i on
abbrev pub found : {A : Type 0} → List ℕ → List ℕ → ℕ → ℕ → A → Read A
found fs ws i n x = record { value = x; rest = drop n (cells fs ws i) }

-- trees of no types are none
none_by : {Γ : List ℕ} {xs : Forest} → Fits Γ [] xs → xs ≡ nil
none_by fit_none = refl

module _ {Γ fs ws : List ℕ} {i : ℕ} where
  -- the place is in the array of forms
  pub coded_in_forms : {t : ℕ} {x : Tree} → Coded Γ fs ws i t x → i + size x ≤ length fs
  coded_in_forms {x} h = window_in fs i (size x) _ h.formed (tree_forms Γ x) (size_pos x)

  -- and in the array of whats
  pub coded_in_whats : {t : ℕ} {x : Tree} → Coded Γ fs ws i t x → i + size x ≤ length ws
  coded_in_whats {x} h = window_in ws i (size x) _ h.said (tree_whats Γ x) (size_pos x)

  -- a folded tree's form and what are 0
  pub coded_leaf : {t u : ℕ} → Coded Γ fs ws i t (leaf u) → (get_or fs i 0 ≡ 0) × (get_or ws i 0 ≡ 0)
  unfolding size codes
  coded_leaf h = ((window_consed fs i 0 0 0 [] h.formed).head, (window_consed ws i 0 0 0 [] h.said).head)

  -- an open tree that fits, by its windows
  node_by : {t u v : ℕ} {ns : Forest} → Fit Γ t (node u v ns) → window fs i (size (node u v ns)) ≡ firsts (codes Γ (node u v ns))
      → window ws i (size (node u v ns)) ≡ seconds (codes Γ (node u v ns)) → Opened Γ fs ws i t (node u v ns)
  unfolding size codes
  node_by (fit_node {t = u} {v} {ns} o gs) e d =
      let a = window_consed fs i 0 (sizes ns) (form (kind Γ u)) (firsts (codess Γ ns)) e in
      let w = window_consed ws i 0 (sizes ns) v (seconds (codess Γ ns)) d in
      record {
        children = ns;
        is = ap (λ (k : ℕ). node u k ns) (sym w.head);
        formed = a.head;
        openable = rw w.head o;
        below = record { fits = rw w.head gs; formed = a.tail; said = w.tail };
        long = refl;
      }

  -- an open tree, by its words
  pub coded_node : {t u v : ℕ} {ns : Forest} → Coded Γ fs ws i t (node u v ns) → Opened Γ fs ws i t (node u v ns)
  coded_node h = node_by h.fits h.formed h.said

  -- what fits and begins with 0 is folded
  folded_by : {t : ℕ} {x : Tree} → Known Γ → Coded Γ fs ws i t x → Fit Γ t x → get_or fs i 0 ≡ 0 → x ≡ leaf t
  folded_by known h fit_leaf z = refl
  folded_by known h (fit_node o gs) z = absurd (omega (arith, (coded_node h).formed, openable_form known o))

  -- the form is 0: the tree is folded
  pub coded_folded : {t : ℕ} {x : Tree} → Known Γ → Coded Γ fs ws i t x → get_or fs i 0 ≡ 0 → x ≡ leaf t
  coded_folded known h z = folded_by known h h.fits z

  -- it is not: the tree is open
  pub coded_opened : {t : ℕ} {x : Tree} → Coded Γ fs ws i t x → (get_or fs i 0 ≡ 0 → ⊥) → Opened Γ fs ws i t x
  coded_opened {x = leaf u} h f = absurd (f (coded_leaf h).0)
  coded_opened {x = node u v ns} h f = coded_node h

  -- trees that fit, by their windows
  split_by : {t : ℕ} {ts : List ℕ} {xs : Forest} → Fits Γ (t ∷ ts) xs → window fs i (sizes xs) ≡ firsts (codess Γ xs)
      → window ws i (sizes xs) ≡ seconds (codess Γ xs) → Split Γ fs ws i t ts xs
  unfolding size codes
  split_by (fit_more {s = x} {ss = xs} f gs) e d =
      let a = window_joined fs i (size x) (sizes xs) (firsts (codes Γ x)) (firsts (codess Γ xs)) (e ∙ firsts_append (codes Γ x) (codess Γ xs)) (tree_forms Γ x) in
      let w = window_joined ws i (size x) (sizes xs) (seconds (codes Γ x)) (seconds (codess Γ xs)) (d ∙ seconds_append (codes Γ x) (codess Γ xs)) (tree_whats Γ x) in
      record {
        head = x;
        tail = xs;
        is = refl;
        here = record { fits = f; formed = a.left; said = w.left };
        rest = record { fits = gs; formed = a.right; said = w.right };
        long = refl;
      }

  -- no type left: no tree
  pub coded_none : {xs : Forest} → CodedAll Γ fs ws i [] xs → xs ≡ nil
  coded_none h = none_by h.fits

  -- a type left: a tree stands first
  pub coded_split : {t : ℕ} {ts : List ℕ} {xs : Forest} → CodedAll Γ fs ws i (t ∷ ts) xs → Split Γ fs ws i t ts xs
  coded_split h = split_by h.fits h.formed h.said

  -- the same words at another place
  pub coded_moved : {fs' ws' : List ℕ} {j t : ℕ} {x : Tree} → Coded Γ fs ws i t x
      → window fs i (size x) ≡ window fs' j (size x) → window ws i (size x) ≡ window ws' j (size x) → Coded Γ fs' ws' j t x
  coded_moved h e d = record { fits = h.fits; formed = sym e ∙ h.formed; said = sym d ∙ h.said }

  -- trees, the same words at another place
  pub codes_moved : {fs' ws' ts : List ℕ} {j : ℕ} {xs : Forest} → CodedAll Γ fs ws i ts xs
      → window fs i (sizes xs) ≡ window fs' j (sizes xs) → window ws i (sizes xs) ≡ window ws' j (sizes xs) → CodedAll Γ fs' ws' j ts xs
  codes_moved h e d = record { fits = h.fits; formed = sym e ∙ h.formed; said = sym d ∙ h.said }

  -- the codes from i on begin with the tree's, so a reader finds it
  pub coded_read : {t : ℕ} {x : Tree} → Coded Γ fs ws i t x → Known Γ → (d : ℕ) → depth x ≤ d
      → read_tree Γ d t (cells fs ws i) ≡ some (found fs ws i (size x) x)
  coded_read {t} {x} h known d l =
      let cs : List Code = cells fs ws i in
      let e : codes Γ x ++ drop (size x) cs ≡ cs =
      ap (λ (a : List Code). a ++ drop (size x) cs) (sym (take_pairs (size x) (drop i fs) (drop i ws) ∙ ap₂ pairs h.formed h.said ∙ pairs_halves (codes Γ x)))
      ∙ take-append-drop (size x) cs in
      rw e at (read_back Γ known d h.fits l (drop (size x) cs))

  -- and trees likewise
  pub codes_read : {ts : List ℕ} {xs : Forest} → CodedAll Γ fs ws i ts xs → Known Γ → (d : ℕ) → depths xs ≤ d
      → read_each (λ u q. read_tree Γ d u q) ts (cells fs ws i) ≡ some (found fs ws i (sizes xs) xs)
  codes_read {ts} {xs} h known d l =
      let cs : List Code = cells fs ws i in
      let e : codess Γ xs ++ drop (sizes xs) cs ≡ cs =
      ap (λ (a : List Code). a ++ drop (sizes xs) cs) (sym (take_pairs (sizes xs) (drop i fs) (drop i ws) ∙ ap₂ pairs h.formed h.said ∙ pairs_halves (codess Γ xs)))
      ∙ take-append-drop (sizes xs) cs in
      rw e at (reads_back Γ known d h.fits l (drop (sizes xs) cs))

  -- one place holds one tree
  pub coded_unique : {t : ℕ} {x y : Tree} → Known Γ → Coded Γ fs ws i t x → Coded Γ fs ws i t y → x ≡ y
  coded_unique {t} {x} {y} known h k =
      let d : ℕ = max (depth x) (depth y) in
      let e : found fs ws i (size x) x ≡ found fs ws i (size y) y = cc (coded_read h known d (omega arith), coded_read k known d (omega arith)) in
      ap (λ (r : Read Tree). r.value) e

  -- one place holds one list of trees
  pub codes_unique : {ts : List ℕ} {xs ys : Forest} → Known Γ → CodedAll Γ fs ws i ts xs → CodedAll Γ fs ws i ts ys → xs ≡ ys
  codes_unique {ts} {xs} {ys} known h k =
      let d : ℕ = max (depths xs) (depths ys) in
      let e : found fs ws i (sizes xs) xs ≡ found fs ws i (sizes ys) ys = cc (codes_read h known d (omega arith), codes_read k known d (omega arith)) in
      ap (λ (r : Read Forest). r.value) e
