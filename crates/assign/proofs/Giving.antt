-- What the operands of a statement give, one by one.
use mathlib.Core.Path.{◌≡◌, refl, sym, ap, ◌∙◌, subst}
use mathlib.Core.Bool.{Bool, true, false, cond, ◌&&◌}
use mathlib.Core.List.{List, [], ◌∷◌, ◌++◌, append_assoc, append-nil}
use Prim.Native.Nat.{ℕ, suc, ◌+◌, ◌-◌, ◌≤◌, ◌<◌}
use native.Mathlib.Omega.{arith}
use lib.Dec.{eqb}
use lib.ListN.{length, length-append}
use borrow.Author.Tests.{ne_eqb}
use Rattle.model.specs.Words.{word}
use Rattle.model.specs.Record.{Entry}
use Rattle.model.specs.Assign.{Operand, operand_gives, operands_give, gives}
use Rattle.assign.specs.Words.{operand_at, operand_end, operands_at, operands_end, destination_at, assign_at, assign_end}
use Rattle.assign.specs.Puts.{moved, Room, Puts, acting}
use Rattle.assign.specs.Kinds.{kind_code, kind_named}
use Rattle.assign.specs.declared.give.Pen.{Pen}
use Rattle.assign.proofs.KindLaws.{operands_named, seven_named}
use Rattle.assign.proofs.Putting.{puts_none, puts_then, pen_from, room_less, room_then}
use Rattle.assign.proofs.Placing.{puts_moved, room_moved}
use Rattle.assign.proofs.Reading.{operands_up, split_end, split_at}

module _ (k f : ℕ) (p : Operand) {b : Bool} (e : b ≡ eqb k 2 && eqb f 1) where
  -- a fake borrow
  pub gives_fake : b ≡ true → operand_gives k f p ≡ []
  unfolding operand_gives
  gives_fake t = let z : eqb k 2 && eqb f 1 ≡ true = sym e ∙ t in rw z refl

  module _ (n : b ≡ false) where
    -- a discriminant
    pub gives_read : k ≡ 7 → operand_gives k f p ≡ acting false 6 p
    unfolding operand_gives
    gives_read s = rw s refl

    -- any other, or its deref
    pub gives_use : (k ≡ 7 → ⊥) → {m : Bool} → m ≡ eqb k 6 && eqb f 1 → operand_gives k f p ≡ acting m 5 p
    unfolding operand_gives
    gives_use d g = let z : eqb k 2 && eqb f 1 ≡ false = sym e ∙ n in rw (z, ne_eqb k 7 d, g) refl

-- what is given, said otherwise
module _ {out : List ℕ} {p : Pen} {es fs : List Entry} (e : es ≡ fs) where
  pub room_as : Room out p (length es) → Room out p (length fs)
  room_as R = subst (λ (x : List Entry). Room out p (length x)) e R

  pub puts_as : {out' : List ℕ} {r : Pen} {g : ℕ} → Puts out p out' r g es → Puts out p out' r g fs
  puts_as {out'} {r} {g} P = subst (λ (x : List Entry). Puts out p out' r g x) e P

-- one operand is passed
pub one_end : (ws : List ℕ) (at : ℕ) → operands_end ws 1 at ≡ operand_end ws at
unfolding operands_end
one_end ws at = refl

pub given_fake : (ws : List ℕ) {out : List ℕ} {p q : Pen} {end : ℕ} {es : List Entry} → end ≡ operands_end ws 1 p.from → q ≡ moved p end p.at → es ≡ []
    → Puts out p out q (operand_end ws p.from) es
given_fake ws {out} {p} {q} {end} {es} d e z = rw (z, ← one_end ws p.from, ← d, e) (puts_none end)

-- OPERANDS IN A ROW

give_append : (k f : ℕ) (ps qs : List Operand) → operands_give k f (ps ++ qs) ≡ operands_give k f ps ++ operands_give k f qs
unfolding operands_give
give_append k f [] qs = refl
give_append k f (p ∷ ps) qs = rw (give_append k f ps qs) (sym (append_assoc (operand_gives k f p) (operands_give k f ps) (operands_give k f qs)))

give_one : (k f : ℕ) (p : Operand) → operands_give k f (p ∷ []) ≡ operand_gives k f p
unfolding operands_give
give_one k f p = append-nil (operand_gives k f p)

-- a turn of the loop over k operands from `at` on, at the i-th
module _ (ws : List ℕ) (kind flag k at i : ℕ) (l : i < k) where
  abbrev given_of : ℕ → List Entry
  given_of n = operands_give kind flag (operands_at ws n at)

  abbrev here : ℕ
  here = operands_end ws i at

  -- the one behind i
  next_given : given_of (i + 1) ≡ given_of i ++ operand_gives kind flag (operand_at ws here)
  unfolding operands_at
  next_given = rw (split_at ws i 1 at, give_append kind flag (operands_at ws i at) (operands_at ws 1 here)) (ap (λ (x : List Entry). given_of i ++ x) (give_one kind flag (operand_at ws here)))

  next_end : operands_end ws (i + 1) at ≡ operand_end ws here
  unfolding operands_end
  next_end = split_end ws i 1 at

  -- it lies inside, and there is room for it
  pub next_inside : operands_end ws k at ≤ length ws → operand_end ws here ≤ length ws
  next_inside h =
      let z : i + 1 + (k - (i + 1)) ≡ k = omega arith in
      let s = split_end ws (i + 1) (k - (i + 1)) at in
      omega (arith, ap (λ (n : ℕ). operands_end ws n at) z, s, operands_up ws (k - (i + 1)) (operands_end ws (i + 1) at), next_end)

  next_room : length (given_of i) + length (operand_gives kind flag (operand_at ws here)) ≤ length (given_of k)
  next_room =
      let z : i + 1 + (k - (i + 1)) ≡ k = omega arith in
      let rest = operands_at ws (k - (i + 1)) (operands_end ws (i + 1) at) in
      let s : given_of k ≡ given_of (i + 1) ++ operands_give kind flag rest = ap (λ (n : ℕ). given_of n) (sym z) ∙ rw (split_at ws (i + 1) (k - (i + 1)) at) (give_append kind flag (operands_at ws (i + 1) at) rest) in
      omega (
        arith,
        ap (λ (x : List Entry). length x) s,
        length-append (given_of (i + 1)) (operands_give kind flag rest),
        ap (λ (x : List Entry). length x) next_given,
        length-append (given_of i) (operand_gives kind flag (operand_at ws here)),
      )

  module _ {out out₁ : List ℕ} {p q : Pen} (P : Puts out p out₁ q here (given_of i)) where
    -- the pen stands there
    pub pen_here : q.from ≡ here
    pen_here = pen_from P

    pub operand_room : Room out p (length (given_of k)) → Room out₁ q (length (operand_gives kind flag (operand_at ws q.from)))
    operand_room R =
        let z : length (operand_gives kind flag (operand_at ws here)) ≡ length (operand_gives kind flag (operand_at ws q.from)) =
        ap (λ (n : ℕ). length (operand_gives kind flag (operand_at ws n))) (sym pen_here) in
        subst (λ (n : ℕ). Room out₁ q n) z (room_then (length (operand_gives kind flag (operand_at ws here))) P R next_room)

    pub operand_put : {out₂ : List ℕ} {r : Pen} → Puts out₁ q out₂ r (operand_end ws q.from) (operand_gives kind flag (operand_at ws q.from))
        → Puts out p out₂ r (operands_end ws (i + 1) at) (given_of (i + 1))
    operand_put {out₂} {r} Q =
        let R : Puts out₁ q out₂ r (operand_end ws here) (operand_gives kind flag (operand_at ws here)) =
        subst (λ (n : ℕ). Puts out₁ q out₂ r (operand_end ws n) (operand_gives kind flag (operand_at ws n))) pen_here Q in
        rw (next_given, next_end) (puts_then P R)

-- A STATEMENT

module _ (ws : List ℕ) (p : Pen) {q : Pen} {kind flag k : ℕ} (t : kind ≡ kind_code (kind_named (word ws p.from))) (u : flag ≡ word ws (p.from + 1)) (v : k ≡ word ws (p.from + 2))
    (e : q ≡ moved p (p.from + 3) p.at) where
  -- where its operands are read
  read_from : q.from ≡ p.from + 3
  read_from = ap (λ (x : Pen). x.from) e

  -- its destination
  dest_at : operands_end ws k q.from ≡ destination_at ws p.from
  dest_at =
      let y : suc (suc p.from) ≡ p.from + 2 = omega arith in
      let z : suc (suc (suc p.from)) ≡ p.from + 3 = omega arith in
      rw (z, y, read_from, v) refl

  all_given : gives (assign_at ws p.from) ≡ operands_give kind flag (operands_at ws k q.from) ++ acting false (cond (eqb kind 7) 7 5) (operand_at ws (operands_end ws k q.from))
  unfolding gives
  all_given =
      let x : suc p.from ≡ p.from + 1 = omega arith in
      let y : suc (suc p.from) ≡ p.from + 2 = omega arith in
      let z : suc (suc (suc p.from)) ≡ p.from + 3 = omega arith in
      rw (dest_at, read_from, t, operands_named (word ws p.from), seven_named (word ws p.from), u, v, z, y, x) refl

  abbrev first_given : List Entry
  first_given = operands_give kind flag (operands_at ws k q.from)

  abbrev last_given : ℕ → ℕ → List Entry
  last_given action at = acting false action (operand_at ws at)

  -- there is room for its operands
  pub statement_room : {out : List ℕ} → Room out p (length (gives (assign_at ws p.from))) → Room out q (length first_given)
  statement_room {out} R = room_moved e (room_less (length first_given) R
      (omega (arith, ap (λ (x : List Entry). length x) all_given, length-append first_given (last_given (cond (eqb kind 7) 7 5) (operands_end ws k q.from)))))

  module _ {out out₁ : List ℕ} {r : Pen} {action : ℕ} (a : action ≡ cond (eqb kind 7) 7 5) (P : Puts out q out₁ r (operands_end ws k q.from) first_given) where
    at_dest : r.from ≡ operands_end ws k q.from
    at_dest = pen_from P

    whole : gives (assign_at ws p.from) ≡ first_given ++ last_given action r.from
    whole =
        let z : last_given (cond (eqb kind 7) 7 5) (operands_end ws k q.from) ≡ last_given action r.from = rw (at_dest, a) refl in
        all_given ∙ ap (λ (x : List Entry). first_given ++ x) z

    pub dest_room : Room out p (length (gives (assign_at ws p.from))) → Room out₁ r (length (last_given action r.from))
    dest_room R = room_then (length (last_given action r.from)) P (room_moved e R)
        (omega (arith, ap (λ (x : List Entry). length x) whole, length-append first_given (last_given action r.from)))

    pub statement_put : {out₂ : List ℕ} {s : Pen} → Puts out₁ r out₂ s (operand_end ws r.from) (last_given action r.from) → Puts out p out₂ s (assign_end ws p.from) (gives (assign_at ws p.from))
    statement_put {out₂} {s} Q =
        let z : operand_end ws r.from ≡ assign_end ws p.from = ap (operand_end ws) (at_dest ∙ dest_at) in
        rw (whole, ← z) (puts_moved e (puts_then P Q))
