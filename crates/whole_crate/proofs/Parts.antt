-- An output whose words from some on are lent, and come back.
use mathlib.Core.Path.{◌≡◌, sym, ap, ◌∙◌, subst}
use mathlib.Core.List.{List, ◌++◌, append-nil}
use Prim.Native.Nat.{ℕ, ◌-◌, ◌≤◌}
use native.Mathlib.Omega.{arith}
use lib.ListN.{length, take, drop, replicate, length-drop, drop_of_length-le}
use lib.Seq.{length-take-le, take_all, take_at, drop_at}
use Rattle.fold_unfold.specs.Answers.{Whole}
use Rattle.std.specs.Prelude.{Result}
use Rattle.refusal.specs.declared.Refusal.{Refusal}
use Rattle.statements.specs.declared.Counts.{Counts}
use Rattle.whole_crate.specs.Called.{BlankFrom, Alone}

-- the words from word a on, as they are lent: zeros
pub part_blank : (l : List ℕ) (a : ℕ) → BlankFrom l a → let p = take (length l - a) (drop a l) in p ≡ replicate (length p) 0
part_blank l a B = rw (take_all (length l - a) (drop a l) (omega (arith, length-drop a l))) B.blank

-- the words from word a on are lent, and others come back
module _ (l : List ℕ) (a : ℕ) (h : a ≤ length l) (back : List ℕ) where
  to_end : take (length l - a) (drop a l) ≡ drop a l
  to_end = take_all (length l - a) (drop a l) (omega (arith, length-drop a l))

  -- what then stands there
  abbrev returned : List ℕ
  returned = take a l ++ (back ++ drop (length l - a) (drop a l))

  none_left : returned ≡ take a l ++ back
  none_left =
      ap (λ (x : List ℕ). take a l ++ x) (ap (λ (x : List ℕ). back ++ x) (drop_of_length-le (drop a l) {i = length l - a} (omega (arith, length-drop a l))) ∙ append-nil back)

  front : length (take a l) ≡ a
  front = length-take-le a l (omega arith)

  -- the call of one function, in those words
  pub call_alone : {Γ fn fs ws fs' ws' : List ℕ} {r : Result Counts Refusal} → Whole Γ fn fs ws (take (length l - a) (drop a l)) fs' ws' back r
      → Alone Γ fn fs ws l a fs' ws' returned r
  call_alone {Γ} {fn} {fs} {ws} {fs'} {ws'} {r} W = record {
    whole = subst (λ (x : List ℕ). Whole Γ fn fs ws (drop a l) fs' ws' x r) (sym (ap (drop a) none_left ∙ drop_at (take a l) back a front))
        (subst (λ (x : List ℕ). Whole Γ fn fs ws x fs' ws' back r) to_end W);
    kept = ap (take a) none_left ∙ take_at (take a l) back a front;
  }
