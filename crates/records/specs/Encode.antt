-- What is read from a state record is held there, `decode_holds`, and has that record, `encode_decode`.
use Rattle.std.specs.Prelude.{◌≡◌, true, ◌&&◌, length, take}
use Rattle.std.proofs.Math.Path.{refl, ap, subst}
use Rattle.std.proofs.Common.{sym, ◌∙◌, true≢false, length-take-le}
use mathlib.Core.List.{List, [], ◌∷◌, ◌++◌, append-nil, append_assoc}
use Rattle.std.proofs.Math.Option.{Option, none, some}
use Prim.Native.Nat.{ℕ, zero, suc, ◌≤◌, ◌<◌}
use native.Mathlib.Omega.{arith}
use Rattle.std.proofs.Math.Dec.{eqb}
use borrow.Author.Tests.{eqb-true}
use Rattle.model.specs.Types.{kids}
use Rattle.model.specs.Tree.{Tree, leaf, node, Forest, sizes}
use Rattle.model.specs.Typing.{Fit, Fits, fit_leaf, fit_node, fit_none, fit_more, depth, depths}
use Rattle.model.specs.State.{State, Code, Read, most, levels, codes, codess, encode, pairs, shaped, entire, opens, read_each, read_node, read_tree, decode}
use Rattle.base.specs.Tests.{split, split_option, and_left, and_right}
use Rattle.records.specs.Here.{firsts, seconds, Shaped, Holds}
use Rattle.records.specs.Pairs.{firsts_pairs, seconds_pairs}
use Rattle.records.specs.Codes.{forest_forms}
use Rattle.records.specs.Shape.{shaped_is}
use Rattle.records.specs.Holds.{holds_few, holds_encode}
use Rattle.records.specs.Opens.{opens_form, opens_openable}

-- a tree read: it fits, its codes are those in front of the rest, it is open at d levels at the most
record TreeRead (Γ : List ℕ) (d t : ℕ) (cs : List Code) (r : Read Tree) : Type 0 where
  fits : Fit Γ t r.value
  coded : codes Γ r.value ++ r.rest ≡ cs
  deep : depth r.value ≤ d

-- trees read, below a node open at d levels at the most
record TreesRead (Γ : List ℕ) (d : ℕ) (ts : List ℕ) (cs : List Code) (r : Read Forest) : Type 0 where
  fits : Fits Γ ts r.value
  coded : codess Γ r.value ++ r.rest ≡ cs
  deep : depths r.value < d

-- a code by its two halves
code_is : {a b : ℕ} (c : Code) → c.0 ≡ a → c.1 ≡ b → c ≡ (a, b)
code_is c p q = λ i. (p i, q i)

module _ (Γ : List ℕ) where
  -- trees are read well if each is
  each_read : (f : ℕ → List Code → Option (Read Tree)) (d : ℕ)
      → ((t : ℕ) (cs : List Code) (r : Read Tree) → f t cs ≡ some r → TreeRead Γ d t cs r)
      → (ts : List ℕ) (cs : List Code) (r : Read Forest) → read_each f ts cs ≡ some r → TreesRead Γ (suc d) ts cs r
  unfolding read_each codes depth
  each_read f d h [] cs r e = subst (TreesRead Γ (suc d) [] cs) (cc) (record { fits = fit_none; coded = refl; deep = omega arith })
  each_read f d h (t ∷ ts) cs r e =
      split_option (f t cs) (λ p. absurd (true≢false (cc))) (λ a p.
      split_option (read_each f ts a.rest) (λ q. absurd (true≢false (cc))) (λ b q.
      let x : TreeRead Γ d t cs a = h t cs a p in
      let y : TreesRead Γ (suc d) ts a.rest b = each_read f d h ts a.rest b q in
      subst (TreesRead Γ (suc d) (t ∷ ts) cs) (cc) (record {
        fits = fit_more x.fits y.fits;
        coded = append_assoc (codes Γ a.value) (codess Γ b.value) b.rest ∙ ap (λ (l : List Code). codes Γ a.value ++ l) y.coded ∙ x.coded;
        deep = omega arith;
      })))

  -- a tree is read well if its children are
  node_read : (f : List ℕ → List Code → Option (Read Forest)) (d : ℕ)
      → ((ts : List ℕ) (cs : List Code) (r : Read Forest) → f ts cs ≡ some r → TreesRead Γ d ts cs r)
      → (t : ℕ) (cs : List Code) (r : Read Tree) → read_node Γ f t cs ≡ some r → TreeRead Γ d t cs r
  unfolding read_node codes depth
  node_read f d h t [] r e = absurd (true≢false (cc))
  node_read f d h t (c ∷ cs) r e =
      split (eqb c.0 0 && eqb c.1 0)
      (λ p.
      let z : c.0 ≡ 0 = eqb-true c.0 0 (and_left (eqb c.0 0) (eqb c.1 0) p) in
      let w : c.1 ≡ 0 = eqb-true c.1 0 (and_right (eqb c.0 0) (eqb c.1 0) p) in
      subst (TreeRead Γ d t (c ∷ cs)) {x = record { value = leaf t; rest = cs }} (cc) (record { fits = fit_leaf; coded = ap (λ (x : Code). x ∷ cs) (sym (code_is c z w)); deep = omega arith }))
      (λ p. split (opens Γ t c)
      (λ o. split_option (f (kids Γ t c.1) cs) (λ q. absurd (true≢false (cc))) (λ b q.
      let y : TreesRead Γ d (kids Γ t c.1) cs b = h (kids Γ t c.1) cs b q in
      subst (TreeRead Γ d t (c ∷ cs)) {x = record { value = node t c.1 b.value; rest = b.rest }} (cc) (record {
        fits = fit_node (opens_openable Γ t c o) y.fits;
        coded = cc (code_is c (opens_form Γ t c o) refl, y.coded);
        deep = omega arith;
      })))
      (λ o. absurd (true≢false (cc))))

  -- what a tree's reader reads
  tree_read : (d t : ℕ) (cs : List Code) (r : Read Tree) → read_tree Γ d t cs ≡ some r → TreeRead Γ d t cs r
  unfolding read_tree
  tree_read zero t cs r e = node_read (λ ts q. none) zero (λ ts q s p. absurd (true≢false (cc))) t cs r e
  tree_read (suc d) t cs r e = node_read (read_each (λ u q. read_tree Γ d u q)) (suc d) (each_read (λ u q. read_tree Γ d u q) d (tree_read d)) t cs r e

  -- what a reader of trees reads
  trees_read : (d : ℕ) (ts : List ℕ) (cs : List Code) (r : Read Forest) → read_each (λ u q. read_tree Γ d u q) ts cs ≡ some r → TreesRead Γ (suc d) ts cs r
  trees_read d = each_read (λ u q. read_tree Γ d u q) d (tree_read d)

-- what is read as a whole has nothing behind it
entire_empty : {A : Type 0} (v a : A) (l : List Code) → entire (some (record { value = v; rest = l })) ≡ some a
    → ◌≡◌ {A = Read A} (record { value = v; rest = l }) (record { value = a; rest = [] })
entire_empty v a [] e = cc
entire_empty v a (x ∷ l) e = absurd (true≢false (cc))

-- the same of what may be read
entire_is : {A : Type 0} (o : Option (Read A)) (a : A) → entire o ≡ some a → o ≡ some (record { value = a; rest = [] })
entire_is none a e = absurd (true≢false (cc))
entire_is (some r) a e = ap some (entire_empty r.value a r.rest e)

module _ (Γ locals : List ℕ) (s : State) (E : Forest) where
  -- what is read as a whole: the record has its shape, and its codes are the state's
  whole_read : decode Γ locals s ≡ some E
      → (shaped s ≡ true) × TreesRead Γ (suc levels) locals (pairs (take s.nodes s.forms) (take s.nodes s.whats)) (record { value = E; rest = [] })
  unfolding decode
  whole_read e =
      split (shaped s)
      (λ p. (p, trees_read Γ levels locals (pairs (take s.nodes s.forms) (take s.nodes s.whats)) _ (entire_is _ E (cc))))
      (λ p. absurd (true≢false (cc)))

  -- what is read is held
  pub decode_holds : decode Γ locals s ≡ some E → Holds Γ locals s E
  decode_holds e =
      let (p, r) = whole_read e in
      let h : Shaped s = shaped_is s p in
      let c : pairs (take s.nodes s.forms) (take s.nodes s.whats) ≡ codess Γ E = sym r.coded ∙ append-nil (codess Γ E) in
      let lf : length (take s.nodes s.forms) ≡ s.nodes = length-take-le s.nodes s.forms (omega arith) in
      let lw : length (take s.nodes s.whats) ≡ s.nodes = length-take-le s.nodes s.whats (omega arith) in
      let ff : take s.nodes s.forms ≡ firsts (codess Γ E) = sym (firsts_pairs _ _ (lf ∙ sym lw)) ∙ ap firsts c in
      let fw : take s.nodes s.whats ≡ seconds (codess Γ E) = sym (seconds_pairs _ _ (lf ∙ sym lw)) ∙ ap seconds c in
      let n : s.nodes ≡ sizes E = sym lf ∙ ap length ff ∙ forest_forms Γ E in
      record {
        shape = h;
        trees = record { fits = r.fits; formed = rw (← n) ff; said = rw (← n) fw };
        count = n;
        deep = omega arith;
      }

  -- it fits
  pub decode_fits : decode Γ locals s ≡ some E → Fits Γ locals E
  decode_fits e = (decode_holds e).trees.fits

  -- it is open at 64 levels at the most
  pub decode_deep : decode Γ locals s ≡ some E → depths E ≤ levels
  decode_deep e = (decode_holds e).deep

  -- it has 512 nodes at the most
  pub decode_few : decode Γ locals s ≡ some E → sizes E ≤ most
  decode_few e = holds_few (decode_holds e)

  -- its record is the record read
  pub encode_decode : decode Γ locals s ≡ some E → encode Γ E ≡ s
  encode_decode e = holds_encode (decode_holds e)
