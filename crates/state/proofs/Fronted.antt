-- An array that is zero past its first n words, or cleared from there on. Assumes nothing.
use mathlib.Core.Path.{◌≡◌, sym, ap, ap₂, ◌∙◌}
use mathlib.Core.Bool.{true}
use mathlib.Core.List.{List, ◌++◌, append-nil}
use Prim.Native.Nat.{ℕ, ◌-◌, ◌≤◌}
use native.Mathlib.Omega.{arith}
use lib.ListN.{length, drop, take, replicate, drop_of_length-le}
use lib.Seq.{length-take-le}
use Rattle.model.specs.State.{most, zeros, padded}
use Rattle.records.specs.Pairs.{padded_take}
use Rattle.state.specs.Spliced.{fronted, cleared}

-- the first n words of what is zero past them
pub fronted_is : (l : List ℕ) (n : ℕ) → n ≤ most → length l ≡ most → zeros (drop n l) ≡ true → fronted l n ≡ l
unfolding fronted padded
fronted_is l n h e z =
    let long : length (take n l) ≡ n = length-take-le n l (omega arith) in
    rw long at (padded_take l n h e z)

-- k words in front of zeros are those words, padded
pub padded_fronted : (a l : List ℕ) (k : ℕ) → take k a ≡ l → length l ≡ k → fronted a k ≡ padded l
unfolding fronted padded
padded_fronted a l k e d = ap₂ (λ (x : List ℕ) (n : ℕ). x ++ replicate (512 - n) 0) e (sym d)

-- cleared from n on
pub cleared_fronted : (l : List ℕ) (n : ℕ) → length l ≡ most → cleared l n 512 ≡ fronted l n
unfolding fronted cleared
cleared_fronted l n e =
    ap (λ (r : List ℕ). take n l ++ (replicate (512 - n) 0 ++ r)) (drop_of_length-le l {i = 512} (omega arith)) ∙ ap (λ (r : List ℕ). take n l ++ r) (append-nil (replicate (512 - n) 0))
