-- The codes of a tree are as many as its nodes.
use Rattle.std.specs.Prelude.{◌≡◌, refl, List, ℕ, suc, ◌+◌, ◌<◌, length}
use Rattle.std.proofs.Common.{ap, ap₂, ◌∙◌, arith, length-append}
use Rattle.std.proofs.lemmas.List.{length-map}
use Rattle.model.specs.Tree.{Tree, leaf, node, Forest, nil, more, size, sizes}
use Rattle.model.specs.State.{codes, codess}
use Rattle.records.specs.Here.{firsts, seconds}

module _ (Γ : List ℕ) where
  mutual
    unfolding size codes

    -- a code for each node of a tree
    pub length_codes : (x : Tree) → length (codes Γ x) ≡ size x
    length_codes (leaf t) = refl
    length_codes (node t v ns) = ap suc (length_codess ns)

    -- and of trees
    pub length_codess : (xs : Forest) → length (codess Γ xs) ≡ sizes xs
    length_codess nil = refl
    length_codess (more x xs) = length-append (codes Γ x) (codess Γ xs) ∙ ap₂ ◌+◌ (length_codes x) (length_codess xs)

  -- a form for each node of a tree
  pub tree_forms : (x : Tree) → length (firsts (codes Γ x)) ≡ size x
  tree_forms x = length-map (codes Γ x) (λ c. c.0) ∙ length_codes x

  -- and a what
  pub tree_whats : (x : Tree) → length (seconds (codes Γ x)) ≡ size x
  tree_whats x = length-map (codes Γ x) (λ c. c.1) ∙ length_codes x

  -- a form for each node of trees
  pub forest_forms : (xs : Forest) → length (firsts (codess Γ xs)) ≡ sizes xs
  forest_forms xs = length-map (codess Γ xs) (λ c. c.0) ∙ length_codess xs

  -- and a what
  pub forest_whats : (xs : Forest) → length (seconds (codess Γ xs)) ≡ sizes xs
  forest_whats xs = length-map (codess Γ xs) (λ c. c.1) ∙ length_codess xs

-- a tree has a node
pub size_pos : (x : Tree) → 0 < size x
unfolding size
size_pos (leaf t) = omega arith
size_pos (node t v ns) = omega arith
