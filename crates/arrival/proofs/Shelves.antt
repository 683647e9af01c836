-- The shares of the store: their numbers, and what a share that is written leaves of the others.
use mathlib.Core.Path.{◌≡◌, refl, sym, ap, ◌∙◌}
use mathlib.Core.Bool.{true, false}
use mathlib.Core.List.{List, [], ◌∷◌}
use mathlib.Core.Logic.{◌≢◌}
use Prim.Native.Nat.{ℕ, zero, suc, ◌+◌, ◌*◌, ◌-◌, ◌≤◌, ◌<◌}
use native.Mathlib.Omega.{arith}
use native.Mathlib.Decide.{dec_lt}
use lib.ListN.{length, take, drop}
use lib.Seq.{take-nil, take-take, drop-drop, take_at, drop_at, length-take-le}
use borrow.Rule.Slice.PartMut.{put_mid, same_len_mid, take_put, drop_put, mid_len}
use Rattle.model.specs.Words.{count_below}
use Rattle.model.specs.Function.{nblocks}
use Rattle.model.specs.Block.{is_join_point, join_points}
use Rattle.base.specs.Tests.{split}
use Rattle.base.specs.Below.{count_most, count_room}
use Rattle.blocks.specs.Points.{share_number}
use Rattle.arrival.specs.Shares.{share_of}

-- NUMBERS

module _ (fn : List ℕ) where
  -- a join point's share has a number
  pub share_point : (b : ℕ) → is_join_point fn b ≡ true → share_number fn b ≡ suc (count_below (is_join_point fn) b)
  unfolding share_number
  share_point b e = rw e

  -- any other block's is 0
  pub share_none : (b : ℕ) → is_join_point fn b ≡ false → share_number fn b ≡ 0
  unfolding share_number
  share_none b e = rw e

  -- a block of a share is a join point
  pub share_joins : (b : ℕ) → share_number fn b ≢ 0 → is_join_point fn b ≡ true
  share_joins b d = split (is_join_point fn b) (λ e. e) (λ e. absurd (d (share_none b e)))

  -- and one of none is no join point
  pub none_joins : (b : ℕ) → share_number fn b ≡ 0 → is_join_point fn b ≡ false
  none_joins b d = split (is_join_point fn b) (λ e. absurd (omega (arith, share_point b e))) (λ e. e)

  -- there are as many shares as join points
  pub share_most : (b : ℕ) → b < nblocks fn → is_join_point fn b ≡ true → (1 ≤ share_number fn b) × (share_number fn b ≤ join_points fn)
  unfolding join_points
  share_most b l e = rw (share_point b e) (omega arith, count_room (is_join_point fn) b (nblocks fn) l e)

  -- and no more than blocks
  pub points_few : join_points fn ≤ nblocks fn
  unfolding join_points
  points_few = count_most (is_join_point fn) (nblocks fn)

  -- the numbers rise
  share_rises : (b c : ℕ) → is_join_point fn b ≡ true → is_join_point fn c ≡ true → b < c → share_number fn b < share_number fn c
  share_rises b c d e l = rw (share_point b d, share_point c e) (omega (arith, count_room (is_join_point fn) b c l d))

  -- so they differ
  pub share_apart : (b c : ℕ) → is_join_point fn b ≡ true → is_join_point fn c ≡ true → b ≢ c → share_number fn b ≢ share_number fn c
  share_apart b c d e n s = elim (dec_lt b c) [
    | yes l ↦ omega (arith, share_rises b c d e l)
    | no l ↦ elim (dec_lt c b) [ yes m ↦ omega (arith, share_rises c b e d m) | no m ↦ n (omega arith) ]
  ]

-- A SHARE THAT IS LENT

-- where it begins
abbrev pub base : ℕ → ℕ
base p = 512 * (p - 1)

-- its entries
abbrev pub lent_of : List ℕ → ℕ → List ℕ
lent_of xs p = take (base p + 512 - base p) (drop (base p) xs)

-- the store with other entries there
abbrev pub shelved : List ℕ → ℕ → List ℕ → List ℕ
shelved xs p ys = put_mid (base p) (base p + 512 - base p) xs ys

-- it is the share
pub lent_share : (xs : List ℕ) (p : ℕ) → lent_of xs p ≡ share_of xs p
unfolding share_of
lent_share xs p = let e : base p + 512 - base p ≡ 512 = omega arith in rw e refl

-- a window is read off the list before its end
window_front : (n j a : ℕ) (xs : List ℕ) → j + n ≤ a → take n (drop j xs) ≡ take n (drop j (take a xs))
window_front n zero a xs h = sym (take-take n a xs (omega arith))
window_front n (suc j) a [] h = simp take-nil
window_front n (suc j) zero (x ∷ xs) h = absurd (omega arith)
window_front n (suc j) (suc a) (x ∷ xs) h = window_front n j a xs (omega arith)

-- and off the list from an element before it on
window_back : (n j e : ℕ) (xs : List ℕ) → e ≤ j → take n (drop j xs) ≡ take n (drop (j - e) (drop e xs))
window_back n j e xs h = let q : e + (j - e) ≡ j = omega arith in rw (drop-drop, q) refl

module _ (xs ys : List ℕ) (p : ℕ) (few : base p + 512 ≤ length xs) (long : length ys ≡ length (lent_of xs p)) where
  -- 512 entries are written
  full : length ys ≡ base p + 512 - base p
  full = long ∙ mid_len (base p) (base p + 512) xs few

  -- the store is as long as it was
  pub shelved_length : length (shelved xs p ys) ≡ length xs
  shelved_length = same_len_mid (base p) (base p + 512 - base p) xs ys long

  -- the share is what was written
  pub shelved_same : share_of (shelved xs p ys) p ≡ ys
  unfolding share_of
  shelved_same =
      ap (take 512) (drop_at (take (base p) xs) _ (base p) (length-take-le (base p) xs (omega arith)))
      ∙ take_at ys _ 512 (omega (arith, full))

  -- every other share is as it was
  pub shelved_other : (q : ℕ) → 1 ≤ p → 1 ≤ q → q ≢ p → share_of (shelved xs p ys) q ≡ share_of xs q
  unfolding share_of
  shelved_other q l m n = elim (dec_lt q p) [
    | yes k ↦
        window_front 512 (base q) (base p) (shelved xs p ys) (omega arith)
        ∙ ap (λ (z : List ℕ). take 512 (drop (base q) z)) (take_put (base p) (base p + 512 - base p) xs ys (omega arith))
        ∙ sym (window_front 512 (base q) (base p) xs (omega arith))
    | no k ↦
        window_back 512 (base q) (base p + 512) (shelved xs p ys) (omega arith)
        ∙ ap (λ (z : List ℕ). take 512 (drop (base q - (base p + 512)) z)) (drop_put (base p) (base p + 512) xs ys (omega arith) few full)
        ∙ sym (window_back 512 (base q) (base p + 512) xs (omega arith))
  ]

  -- and so is what stands behind n shares
  pub shelved_rest : (n : ℕ) → 1 ≤ p → p ≤ n → drop (512 * n) (shelved xs p ys) ≡ drop (512 * n) xs
  shelved_rest n l m =
      let q : base p + 512 + (512 * n - (base p + 512)) ≡ 512 * n = omega arith in
      sym (drop-drop (512 * n - (base p + 512)) (base p + 512) (shelved xs p ys) ∙ rw q refl)
      ∙ ap (drop (512 * n - (base p + 512))) (drop_put (base p) (base p + 512) xs ys (omega arith) few full)
      ∙ drop-drop (512 * n - (base p + 512)) (base p + 512) xs ∙ rw q refl
