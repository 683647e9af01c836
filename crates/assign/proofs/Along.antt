-- All statements of a list, put one after the other.
use mathlib.Core.Path.{◌≡◌, refl, sym, ap, ◌∙◌, subst}
use mathlib.Core.Bool.{true}
use mathlib.Core.List.{List, [], ◌∷◌, ◌++◌, append_assoc, append-nil}
use Prim.Native.Nat.{ℕ, ◌+◌, ◌≤◌, ◌<◌}
use native.Mathlib.Omega.{arith}
use lib.ListN.{length, length-append}
use Rattle.model.specs.Answer.{done}
use Rattle.model.specs.Record.{Entry}
use Rattle.model.specs.Assign.{Assign, gives, given, statements_of}
use Rattle.assign.specs.Words.{assign_at, assign_end, Ahead}
use Rattle.assign.specs.Checked.{list_ok}
use Rattle.assign.specs.Puts.{Room, Puts, RoomAll, PutsAll}
use Rattle.assign.specs.declared.give.Pen.{Pen}
use Rattle.assign.proofs.Reading.{First, ahead_first, ahead_last, ahead_at, assign_long}
use Rattle.assign.proofs.Knowing.{list_read}
use Rattle.assign.proofs.Putting.{puts_begun, puts_then, room_then}

given_append : (ss ts : List Assign) → given (ss ++ ts) ≡ given ss ++ given ts
unfolding given
given_append [] ts = refl
given_append (s ∷ ss) ts = rw (given_append ss ts) (sym (append_assoc (gives s) (given ss) (given ts)))

given_cons : (s : Assign) (ss : List Assign) → given (s ∷ ss) ≡ gives s ++ given ss
unfolding given
given_cons s ss = refl

-- some statements are put, and the others are ahead
pub record Along (ws out : List ℕ) (p : Pen) (out' : List ℕ) (q : Pen) : Type 0 where
  pub before : List Assign
  pub left : List Assign
  pub is : statements_of ws ≡ done (before ++ left)
  pub ahead : Ahead ws q.from left
  pub puts : Puts out p out' q q.from (given before)

pub along_start : {ws out : List ℕ} {p : Pen} → list_ok ws ≡ true → p.from ≡ 0 → Along ws out p out p
unfolding given
along_start {ws} {out} {p} e z =
    let R = list_read ws e in
    record { before = []; left = R.all; is = R.is; ahead = subst (λ (n : ℕ). Ahead ws n R.all) (sym z) R.ahead; puts = puts_begun }

module _ {ws out : List ℕ} {p : Pen} {out' : List ℕ} {q : Pen} (A : Along ws out p out' q) where
  pub along_end : length ws ≤ q.from → PutsAll ws out p out' q
  along_end l ss e =
      let n = ahead_last ws A.ahead l in
      let z : A.before ++ A.left ≡ ss = cc A.is in
      let y : A.before ≡ ss = sym (append-nil A.before) ∙ ap (λ (x : List Assign). A.before ++ x) (sym n) ∙ z in
      let f : q.from ≡ length ws = ahead_at ws A.ahead l in
      subst (λ (x : ℕ). Puts out p out' q x (given ss)) f (subst (λ (x : List Assign). Puts out p out' q q.from (given x)) y A.puts)

  module _ (l : q.from < length ws) where
    first : First ws q.from A.left
    first = ahead_first ws A.ahead l

    abbrev here : Assign
    here = assign_at ws q.from

    pub along_inside : assign_end ws q.from ≤ length ws
    along_inside = first.inside

    pub along_far : 4 + q.from ≤ assign_end ws q.from
    along_far = assign_long ws q.from

    all : given (A.before ++ A.left) ≡ given A.before ++ (gives here ++ given first.rest)
    all = given_append A.before A.left ∙ ap (λ (x : List Assign). given A.before ++ given x) first.all
        ∙ ap (λ (x : List Entry). given A.before ++ x) (given_cons here first.rest)

    pub along_room : RoomAll ws out p → Room out' q (length (gives here))
    along_room R = room_then (length (gives here)) A.puts (R (A.before ++ A.left) A.is)
        (omega (arith, ap (λ (x : List Entry). length x) all, length-append (given A.before) (gives here ++ given first.rest), length-append (gives here) (given first.rest)))

    pub along_on : {out'' : List ℕ} {r : Pen} → Puts out' q out'' r (assign_end ws q.from) (gives here) → Along ws out p out'' r
    unfolding given
    along_on {out''} {r} Q =
        let f : assign_end ws q.from ≡ r.from = sym (ap (λ (x : Pen). x.from) Q.pen) in
        let g : given A.before ++ gives here ≡ given (A.before ++ (here ∷ [])) = sym (given_append A.before (here ∷ []) ∙ ap (λ (x : List Entry). given A.before ++ x) (append-nil (gives here))) in
        let P : Puts out p out'' r (assign_end ws q.from) (given (A.before ++ (here ∷ []))) = subst (λ (x : List Entry). Puts out p out'' r (assign_end ws q.from) x) g (puts_then A.puts Q) in
        record {
          before = A.before ++ (here ∷ []);
          left = first.rest;
          is = A.is ∙ ap done (ap (λ (x : List Assign). A.before ++ x) first.all ∙ sym (append_assoc A.before (here ∷ []) first.rest));
          ahead = subst (λ (x : ℕ). Ahead ws x first.rest) f first.ahead;
          puts = subst (λ (x : ℕ). Puts out p out'' r x (given (A.before ++ (here ∷ [])))) f P;
        }
