-- The read that a block's switch matches on: its cases, its place, and where it stands.
use mathlib.Core.Path.{◌≡◌, refl}
use mathlib.Core.Bool.{true, false, true≢false}
use mathlib.Core.List.{List, [], ◌∷◌, Memᴰ}
use mathlib.Core.Option.{Option, none, some, map}
use Prim.Native.Nat.{ℕ, ◌-◌, ◌≤◌, ◌<◌}
use native.Mathlib.Omega.{arith}
use borrow.Author.Tests.{eqb-true}
use lib.Dec.{eqb}
use Rattle.model.specs.Words.{collect_from}
use Rattle.model.specs.Function.{nblocks, start, stop, op}
use Rattle.model.specs.Block.{root_before, spot_before, uses_place, latest_note, place_read, match_at, matched}
use Rattle.base.specs.Tests.{split, split_option}
use Rattle.base.specs.Collected.{collect_mem}
use Rattle.graph.specs.Ranges.{Holds}
use Rattle.graph.specs.Places.{Placed}
use Rattle.graph.proofs.Places.{action_uses, note_reads}
use Rattle.graph.specs.Used.{latest_noted}
use Rattle.mir.specs.Sizes.{Formed}
use Rattle.blocks.specs.Points.{read_before, matched_read, switch_item}
use Rattle.blocks.proofs.Spots.{formed_accepted}

-- the first of a list
abbrev pub first : List ℕ → Option ℕ
first [] = none
first (s ∷ l) = some s

first_in : (l : List ℕ) {s : ℕ} → first l ≡ some s → Memᴰ s l
first_in [] e = absurd (true≢false (cc))
first_in (x ∷ l) {s} e = let z : s ≡ x = cc in Memᴰ.head z

-- THE CASES

module _ (fn : List ℕ) (b : ℕ) where
  -- the switches of the block
  abbrev switches : List ℕ
  switches = collect_from (λ i. eqb (op fn i) 8) (λ i. i) (stop fn b - start fn b) (start fn b)

  -- the read, where s is the switch
  abbrev read_at : ℕ → Option ℕ
  read_at s = elim (uses_place fn s) [
    | true ↦ elim (latest_note fn (spot_before fn s) (start fn b) (s - start fn b)) [ none ↦ none | some j ↦ some (read_before fn j) ]
    | false ↦ none
  ]

  abbrev read_of : List ℕ → Option ℕ
  read_of [] = none
  read_of (s ∷ l) = read_at s

  read_first : (l : List ℕ) → read_of l ≡ elim (first l) [ none ↦ none | some s ↦ read_at s ]
  read_first [] = refl
  read_first (s ∷ l) = refl

  matched_first : matched_read fn b ≡ elim (switch_item fn b) [ none ↦ none | some s ↦ read_at s ]
  unfolding matched_read switch_item
  matched_first = read_first switches

  -- without a switch there is none
  pub matched_none : switch_item fn b ≡ none → matched_read fn b ≡ none
  matched_none e = cc matched_first

  module _ {s : ℕ} (e : switch_item fn b ≡ some s) where
    -- nor with a switch on a constant
    pub matched_bare : uses_place fn s ≡ false → matched_read fn b ≡ none
    matched_bare u = cc matched_first

    module _ (u : uses_place fn s ≡ true) where
      -- nor without a note of the switch's place
      pub matched_plain : latest_note fn (spot_before fn s) (start fn b) (s - start fn b) ≡ none → matched_read fn b ≡ none
      matched_plain n = cc matched_first

      -- it stands before the root of the latest note's place
      pub matched_note : {j : ℕ} → latest_note fn (spot_before fn s) (start fn b) (s - start fn b) ≡ some j → matched_read fn b ≡ some (root_before fn j - 1)
      unfolding read_before
      matched_note n = cc matched_first

  -- ITS PLACE is what the block matches on
  pub matched_place : matched fn b ≡ map (spot_before fn) (matched_read fn b)
  unfolding matched matched_read match_at place_read read_before
  matched_place = go switches
    where
      go : (l : List ℕ) → elim l [ [] ↦ none | s ∷ (k → m) ↦ match_at fn b s ] ≡ map (spot_before fn) (read_of l)
      go [] = refl
      go (s ∷ l) = split (uses_place fn s)
          (λ u. split_option (latest_note fn (spot_before fn s) (start fn b) (s - start fn b)) (λ n. cc) (λ j n. cc))
          (λ u. cc)

-- WHERE IT STANDS

-- a read of the block, with its place
pub record Matched (fn : List ℕ) (b r : ℕ) : Type 0 where
  pub code : op fn r ≡ 6
  pub uses : uses_place fn r ≡ true
  pub placed : Placed fn (start fn b) r
  pub high : r < stop fn b

module _ {fn : List ℕ} (F : Formed fn) {b : ℕ} (l : b < nblocks fn) where
  -- the switch lies in the block
  pub switch_holds : {s : ℕ} → switch_item fn b ≡ some s → Holds fn b s × (op fn s ≡ 8)
  unfolding switch_item
  switch_holds {s} e =
      let m = collect_mem (λ i. eqb (op fn i) 8) (λ i. i) (stop fn b - start fn b) (start fn b) (first_in (switches fn b) e) in
      let z = m.is in
      (record { block = l; low = omega (arith, m.low); high = omega (arith, m.high, (formed_accepted F).starts b l) }, rw z (eqb-true (op fn m.number) 8 m.pass))

  -- so does the latest note of its place, with the read before it
  pub note_holds : {s j : ℕ} → Holds fn b s → latest_note fn (spot_before fn s) (start fn b) (s - start fn b) ≡ some j → Holds fn b j × (op fn j ≡ 7)
  note_holds {s} {j} h n =
      let k = latest_noted fn (spot_before fn s) (start fn b) (s - start fn b) n in
      (record { block = l; low = k.low; high = omega (arith, h.low, h.high, k.high) }, k.code)

  pub read_matched : {j : ℕ} → Holds fn b j → op fn j ≡ 7 → (1 ≤ root_before fn j) × Matched fn b (root_before fn j - 1)
  read_matched {j} h c =
      let R = note_reads (formed_accepted F) h c in (
        omega (arith, R.next),
        record { code = R.code; uses = action_uses (formed_accepted F) R.holds (omega (arith, R.code)) (omega (arith, R.code)); placed = R.placed; high = R.holds.high },
      )

  -- the read that the block matches on
  pub matched_holds : {r : ℕ} → matched_read fn b ≡ some r → Matched fn b r
  matched_holds {r} e = split_option (switch_item fn b)
      (λ n. absurd (true≢false (cc (matched_none fn b n))))
      (λ s h. split (uses_place fn s)
      (λ u. split_option (latest_note fn (spot_before fn s) (start fn b) (s - start fn b))
      (λ n. absurd (true≢false (cc (matched_plain fn b h u n))))
      (λ j n.
      let (H, c) = note_holds (switch_holds h).0 n in
      let z : root_before fn j - 1 ≡ r = cc (matched_note fn b h u n) in
      rw z at (read_matched H c).1))
      (λ u. absurd (true≢false (cc (matched_bare fn b h u)))))
