-- Join points by number, and the read that a block's switch matches on.
use Rattle.std.specs.Prelude.{◌≡◌, true, false, not, cond, List, [], ◌∷◌, ℕ, suc, ◌-◌, ◌<◌, length, drop, get_or, eqb}
use Rattle.std.specs.List.{count_by, take_while}
use Rattle.std.proofs.Math.Option.{Option, none, some}
use Rattle.model.specs.Words.{count_below, collect_from}
use Rattle.model.specs.Function.{start, stop, op, nblocks, nitems}
use Rattle.model.specs.Block.{spot_before, root_before, uses_place, is_join_point, latest_note}

-- how many codes of elements stand before an index's and are no downcast's: `steps` of model, by the items of a place, the root first
abbrev pub steps_in : List ℕ → ℕ
steps_in ops = count_by (λ o. not (eqb o 3)) (take_while (λ o. not (eqb o 4)) (drop 1 ops))

-- all are 0
abbrev pub Zeros : List ℕ → Type 0
Zeros a = (i : ℕ) → get_or a i 0 ≡ 0

-- a becomes a', as long, with f of each block
abbrev pub OfEachBlock : List ℕ → (ℕ → ℕ) → (a a' : List ℕ) → Type 0
OfEachBlock fn f a a' = (length a' ≡ length a) × ((b : ℕ) → b < nblocks fn → get_or a' b 0 ≡ f b)

-- the number of a join point's share, from 1 on, in block order; 0 for any other block
unfoldable pub share_number : List ℕ → ℕ → ℕ
share_number fn b = cond (is_join_point fn b) (suc (count_below (is_join_point fn) b)) 0

-- the read before the note j
unfoldable pub read_before : List ℕ → ℕ → ℕ
read_before fn j = root_before fn j - 1

-- the read whose place the block's switch matches on: `matched` of model is its place
unfoldable pub matched_read : List ℕ → ℕ → Option ℕ
matched_read fn b = elim (collect_from (λ i. eqb (op fn i) 8) (λ i. i) (stop fn b - start fn b) (start fn b)) [
  | [] ↦ none
  | s ∷ (l → m) ↦ elim (uses_place fn s) [
    | true ↦ elim (latest_note fn (spot_before fn s) (start fn b) (s - start fn b)) [ none ↦ none | some j ↦ some (read_before fn j) ]
    | false ↦ none
  ]
]

-- the first switch of the block
unfoldable pub switch_item : List ℕ → ℕ → Option ℕ
switch_item fn b = elim (collect_from (λ i. eqb (op fn i) 8) (λ i. i) (stop fn b - start fn b) (start fn b)) [
  | [] ↦ none
  | s ∷ (l → m) ↦ some s
]

-- i is an item that uses a place
abbrev pub UsedAt : List ℕ → ℕ → Type 0
UsedAt fn i = (i < nitems fn) × (uses_place fn i ≡ true)
