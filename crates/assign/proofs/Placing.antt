-- An operand put whole: its items, and what is done with it; of a constant nothing.
use mathlib.Core.Path.{◌≡◌, refl, sym, ap, ◌∙◌, subst}
use mathlib.Core.Bool.{Bool, true, false}
use mathlib.Core.List.{List, [], ◌∷◌, ◌++◌, append_assoc}
use Prim.Native.Nat.{ℕ, zero, suc, ◌+◌, ◌*◌}
use native.Mathlib.Omega.{arith}
use lib.ListN.{length, length-append}
use Rattle.model.specs.Words.{word}
use Rattle.model.specs.Record.{Entry}
use Rattle.model.specs.Assign.{Operand, acted, dereffed}
use Rattle.assign.specs.Words.{items_at, operand_at, operand_end}
use Rattle.assign.specs.Puts.{moved, puttings, Room, Puts, ending, acting}
use Rattle.assign.specs.declared.give.Pen.{Pen}
use Rattle.assign.proofs.Elements.{items_length}
use Rattle.assign.proofs.Putting.{puts_none, puts_more, room_less, room_then}

-- of a place
acting_place : (d : Bool) (a : ℕ) (e : Entry) (es : Operand) → acting d a (e ∷ es) ≡ (e ∷ es) ++ ending d a
unfolding acted dereffed
acting_place true a e es = append_assoc (e ∷ es) ((1, 0) ∷ []) ((a, 0) ∷ [])
acting_place false a e es = refl

-- by the number of items
acting_items : (ws : List ℕ) (d : Bool) (a at n : ℕ) → (n ≡ 0 → ⊥) → acting d a (items_at ws at n) ≡ items_at ws at n ++ ending d a
unfolding items_at
acting_items ws d a at zero h = absurd (h refl)
acting_items ws d a at (suc n) h = acting_place d a (word ws at, word ws (suc at)) (items_at ws (suc (suc at)) n)

acting_none : (ws : List ℕ) (d : Bool) (a at n : ℕ) → n ≡ 0 → acting d a (items_at ws at n) ≡ []
unfolding items_at acted dereffed
acting_none ws true a at n e = rw e refl
acting_none ws false a at n e = rw e refl

-- the pen at another word
module _ {out : List ℕ} {p q : Pen} {f : ℕ} (e : q ≡ moved p f p.at) where
  pub puts_moved : {out' : List ℕ} {r : Pen} {g : ℕ} {es : List Entry} → Puts out q out' r g es → Puts out p out' r g es
  puts_moved {out'} {r} {g} {es} P = record {
    written = P.written ∙ ap (λ (x : Pen). puttings x.total x.at es out) e;
    pen = P.pen ∙ ap (λ (x : Pen). moved x g (x.at + length es)) e;
  }

  pub room_moved : {n : ℕ} → Room out p n → Room out q n
  room_moved {n} R = subst (λ (x : Pen). Room out x n) (sym e) (record { few = R.few; fits = R.fits; long = R.long })

module _ (ws : List ℕ) (p : Pen) {q : Pen} {n end : ℕ} (d : Bool) (a : ℕ) (s : n ≡ word ws p.from) (t : end ≡ p.from + 1 + 2 * n) (e : q ≡ moved p end p.at) where
  ends : end ≡ operand_end ws p.from
  ends = omega (arith, s, t)

  -- a constant
  pub placed_none : {out : List ℕ} → n ≡ 0 → Puts out p out q (operand_end ws p.from) (acting d a (operand_at ws p.from))
  placed_none z =
      let w : word ws p.from ≡ 0 = sym s ∙ z in
      rw (acting_none ws d a (suc p.from) (word ws p.from) w, ← ends, e) (puts_none end)

  module _ (z : n ≡ 0 → ⊥) where
    whole : acting d a (operand_at ws p.from) ≡ items_at ws (p.from + 1) n ++ ending d a
    whole =
        let o : suc p.from ≡ p.from + 1 = omega arith in
        acting_items ws d a (suc p.from) (word ws p.from) (λ w. z (s ∙ w)) ∙ rw (o, ← s) refl

    -- room for its items, then for what is done
    pub placed_room : {out : List ℕ} → Room out p (length (acting d a (operand_at ws p.from))) → Room out q n
    placed_room R = room_moved e (room_less n R (omega (arith, ap (λ (x : List Entry). length x) whole, length-append (items_at ws (p.from + 1) n) (ending d a), items_length ws n (p.from + 1))))

    module _ {out out₁ : List ℕ} {r : Pen} (P : Puts out q out₁ r q.from (items_at ws (p.from + 1) n)) where
      pub placed_more : Room out p (length (acting d a (operand_at ws p.from))) → Room out₁ r (length (ending d a))
      placed_more R = room_then (length (ending d a)) P (room_moved e R)
          (omega (arith, ap (λ (x : List Entry). length x) whole, length-append (items_at ws (p.from + 1) n) (ending d a)))

      pub placed_some : {out₂ : List ℕ} {u : Pen} → Puts out₁ r out₂ u r.from (ending d a) → Puts out p out₂ u (operand_end ws p.from) (acting d a (operand_at ws p.from))
      placed_some {out₂} {u} Q =
          let f : q.from ≡ operand_end ws p.from = ap (λ (x : Pen). x.from) e ∙ ends in
          rw (whole, ← f) (puts_moved e (puts_more P Q))
