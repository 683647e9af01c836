-- Arrays changed where they stand: words are copied within them, and others cleared.
use mathlib.Core.Path.{◌≡◌, refl, sym, ◌∙◌, ap, ap₂}
use mathlib.Core.List.{List, ◌∷◌, ◌++◌, append_assoc}
use Prim.Native.Nat.{ℕ, ◌+◌, ◌-◌, ◌<◌, ◌≤◌}
use native.Mathlib.Numerals.{add-one}
use native.Mathlib.Omega.{arith}
use lib.ListN.{length, take, drop, get_or, set, replicate, length-drop, replicate-append-replicate}
use lib.Seq.{paste, set_at, take-suc, take-take, drop-drop, append_snoc, length-take-le, take-append-le, take-paste, drop-paste, drop_at, drop-append-add}
use Rattle.std.specs.List.{copy_within}
use Rattle.base.specs.Equal.{drop_replicate}
use Rattle.state.specs.Spliced.{fronted, cleared, splice}

-- the words of an array behind its front are zero
fronted_past : (a : List ℕ) (n m : ℕ) → length a ≡ 512 → a ≡ fronted a n → n ≤ m → n ≤ 512 → drop m a ≡ replicate (512 - m) 0
unfolding fronted
fronted_past a n m l e h hn =
    let same : m ≡ length (take n a) + (m - n) = omega (arith, length-take-le n a (omega arith)) in
    let left : 512 - n - (m - n) ≡ 512 - m = omega arith in
    ap₂ drop same e
    ∙ drop-append-add (take n a) (replicate (512 - n) 0) (m - n)
    ∙ drop_replicate (m - n) (512 - n) 0
    ∙ ap (λ (k : ℕ). replicate k 0) left

-- words move up, and the gap is cleared
pub room_made : (a : List ℕ) (n i gap : ℕ) → i < n → n + gap ≤ 513 → 0 < gap → length a ≡ 512 → a ≡ fronted a n
    → cleared (copy_within a (i + 1) n (i + gap)) i (i + gap) ≡ splice a i gap (i + 1) n
unfolding cleared splice
room_made a n i gap hi hn hg l e =
    let m : List ℕ = take (n - (i + 1)) (drop (i + 1) a) in
    let end : ℕ = i + gap + (n - (i + 1)) in
    let p : List ℕ = take (i + gap) a in
    let r : List ℕ = m ++ drop end a in
    let lp : length p ≡ i + gap = length-take-le (i + gap) a (omega arith) in
    let x : take i (p ++ r) ≡ take i a = take-append-le i p r (omega arith) ∙ take-take i (i + gap) a (omega arith) in
    let y : drop (i + gap) (p ++ r) ≡ m ++ replicate (512 - end) 0 =
    drop_at p r (i + gap) lp ∙ ap (λ (z : List ℕ). m ++ z) (fronted_past a n end l e (omega arith) (omega arith)) in
    let g : i + gap - i ≡ gap = omega arith in
    rw (append_assoc p m (drop end a), x, y, g) refl

-- words that move down leave the zeros behind the front
past_moved : (a : List ℕ) (n i j : ℕ) → i < j → j ≤ n → n ≤ 512 → length a ≡ 512 → a ≡ fronted a n
    → drop n (paste a (i + 1) (drop j a) (n - j)) ≡ replicate (512 - n) 0
past_moved a n i j hi hj hn l e =
    let end : ℕ = i + 1 + (n - j) in
    let b : List ℕ = paste a (i + 1) (drop j a) (n - j) in
    let hl : n - j ≤ length (drop j a) = rw length-drop (omega arith) in
    let there : n ≡ end + (n - end) = omega arith in
    ap (λ (k : ℕ). drop k b) there
    ∙ sym (drop-drop (n - end) end b)
    ∙ ap (drop (n - end)) (drop-paste a (i + 1) (drop j a) (n - j) (omega arith) hl)
    ∙ drop-drop (n - end) end a
    ∙ ap (λ (k : ℕ). drop k a) (sym there)
    ∙ fronted_past a n n l e (omega arith) hn

-- words move down, and what they leave is cleared, with the word before them
pub closed_up : (a : List ℕ) (n i j : ℕ) → i < j → j ≤ n → n ≤ 512 → length a ≡ 512 → a ≡ fronted a n
    → set (cleared (copy_within a j n (i + 1)) (i + 1 + (n - j)) n) i 0 ≡ splice a i 1 j n
unfolding cleared splice
closed_up a n i j hi hj hn l e =
    let m : List ℕ = take (n - j) (drop j a) in
    let end : ℕ = i + 1 + (n - j) in
    let z : List ℕ = replicate (512 - end) 0 in
    let hl : n - j ≤ length (drop j a) = rw length-drop (omega arith) in
    let sum : n - end + (512 - n) ≡ 512 - end = omega arith in
    let zeros : replicate (n - end) 0 ++ drop n (paste a (i + 1) (drop j a) (n - j)) ≡ z =
    rw (past_moved a n i j hi hj hn l e, replicate-append-replicate, sum) refl in
    let head : take end (paste a (i + 1) (drop j a) (n - j)) ≡ take i a ++ get_or a i 0 ∷ m =
    take-paste a (i + 1) (drop j a) (n - j) (omega arith) hl
    ∙ rw (add-one, take-suc a i 0 (omega arith), append_snoc) refl in
    rw (head, zeros, append_assoc)
    (set_at (take i a) (get_or a i 0) (m ++ z) 0 i (length-take-le i a (omega arith)))
