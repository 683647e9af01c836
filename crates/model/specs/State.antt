-- State records: form[n], what[n], nodes in preorder, local after local. Forms: 0 folded, else `form` of the kind; what is the
-- variant for an open enum, else 0. By value a state is its two arrays of 512, zero past the node count, and that count.
use Rattle.std.specs.Prelude.{Bool, true, false, cond, not, ◌&&◌, List, [], ◌∷◌, ◌++◌, map, ℕ, zero, suc, ◌-◌, length, take, drop, replicate, eqb, ltb, leb}
use Rattle.std.proofs.Math.Option.{Option, none, some}
use Rattle.model.specs.Words.{word, all}
use Rattle.model.specs.Types.{ntypes, kind, count, kids, shut, form}
use Rattle.model.specs.Tree.{Tree, leaf, node, Forest, nil, more, sizes}

-- the most nodes that a state has, and the levels at which a node may be open (a local's depth is 0, the deepest open node's 63)
abbrev pub most : ℕ
most = 512

abbrev pub levels : ℕ
levels = 64

-- a state by value
pub record State : Type 0 where
  pub forms : List ℕ
  pub whats : List ℕ
  pub nodes : ℕ

-- form and what of a node
abbrev pub Code : Type 0
Code = ℕ × ℕ

-- WRITING

-- zeros behind a list, up to 512 in all
unfoldable pub padded : List ℕ → List ℕ
padded l = l ++ replicate (most - length l) 0

module _ (Γ : List ℕ) where
  unfoldable mutual
    pub codes : Tree → List Code
    codes (leaf t) = (0, 0) ∷ []
    codes (node t v ns) = (form (kind Γ t), v) ∷ codess ns

    pub codess : Forest → List Code
    codess nil = []
    codess (more s ss) = codes s ++ codess ss

  unfoldable pub encode : Forest → State
  encode E = record {
    forms = padded (map (λ c. c.0) (codess E));
    whats = padded (map (λ c. c.1) (codess E));
    nodes = sizes E;
  }

-- READING

-- a value read, and the codes behind it
pub record Read (A : Type 0) : Type 0 where
  pub value : A
  pub rest : List Code

abbrev pub and_then : {A B : Type 0} → Option (Read A) → (A → List Code → Option (Read B)) → Option (Read B)
and_then none f = none
and_then (some r) f = f r.value r.rest

-- trees of these types, each read by f
unfoldable pub read_each : (ℕ → List Code → Option (Read Tree)) → List ℕ → List Code → Option (Read Forest)
read_each f [] cs = some (record { value = nil; rest = cs })
read_each f (t ∷ ts) cs = and_then (f t cs) (λ s r. and_then (read_each f ts r) (λ ss q. some (record { value = more s ss; rest = q })))

-- may a node of type t be open with this form at variant v?
unfoldable pub opens : List ℕ → ℕ → Code → Bool
opens Γ t c = not (shut (kind Γ t)) && eqb c.0 (form (kind Γ t)) && cond (eqb (kind Γ t) 7) (ltb c.1 (count Γ t)) (eqb c.1 0)

-- a tree of type t, whose children, if it is open, are read by f
unfoldable pub read_node : List ℕ → (List ℕ → List Code → Option (Read Forest)) → ℕ → List Code → Option (Read Tree)
read_node Γ f t [] = none
read_node Γ f t (c ∷ cs) = elim (eqb c.0 0 && eqb c.1 0) [
  | true ↦ some (record { value = leaf t; rest = cs })
  | false ↦ elim (opens Γ t c) [
    | true ↦ and_then (f (kids Γ t c.1) cs) (λ ns r. some (record { value = node t c.1 ns; rest = r }))
    | false ↦ none
  ]
]

-- a tree of type t, open at d levels at the most
unfoldable pub read_tree : List ℕ → ℕ → ℕ → List Code → Option (Read Tree)
read_tree Γ zero t cs = read_node Γ (λ ts r. none) t cs
read_tree Γ (suc d) t cs = read_node Γ (read_each (λ u r. read_tree Γ d u r)) t cs

unfoldable pub pairs : List ℕ → List ℕ → List Code
pairs [] ws = []
pairs (f ∷ fs) [] = []
pairs (f ∷ fs) (w ∷ ws) = (f, w) ∷ pairs fs ws

abbrev pub zeros : List ℕ → Bool
zeros [] = true
zeros (x ∷ l) = eqb x 0 && zeros l

-- the whole of the codes, and nothing behind
abbrev pub entire : {A : Type 0} → Option (Read A) → Option A
entire none = none
entire (some r) = elim r.rest [ [] ↦ some r.value | x ∷ (l → q) ↦ none ]

-- both arrays have 512 entries, zero past the node count
unfoldable pub shaped : State → Bool
shaped s = leb s.nodes most && eqb (length s.forms) most && eqb (length s.whats) most
    && zeros (drop s.nodes s.forms) && zeros (drop s.nodes s.whats)

unfoldable pub decode : List ℕ → List ℕ → State → Option Forest
decode Γ locals s = elim (shaped s) [
  | true ↦ entire (read_each (λ t r. read_tree Γ levels t r) locals (pairs (take s.nodes s.forms) (take s.nodes s.whats)))
  | false ↦ none
]

-- local types that are none: a count not 1 to 256, a type not below T or of kind 8
unfoldable pub local_ok : List ℕ → List ℕ → ℕ → Bool
local_ok Γ locals l = ltb (word locals l) (ntypes Γ) && not (eqb (kind Γ (word locals l)) 8)

unfoldable pub locals_ok : List ℕ → List ℕ → Bool
locals_ok Γ locals = leb 1 (length locals) && leb (length locals) 256 && all (local_ok Γ locals) (length locals)
