-- What the call answers at each of its returns.
use mathlib.Core.Path.{◌≡◌, refl, sym, ap, ◌∙◌}
use mathlib.Core.Bool.{true, false, ◌&&◌}
use mathlib.Core.List.{List, [], ◌∷◌}
use Prim.Native.Nat.{ℕ, ◌+◌, ◌*◌, ◌%◌, ◌≤◌, ◌<◌}
use native.Mathlib.Omega.{arith}
use lib.ListN.{length, set, replicate, length-replicate}
use lib.Dec.{eqb, leb}
use borrow.Author.Tests.{eqb-true, leb-true, le-leb, lt-leb}
use Rattle.std.specs.Prelude.{Result, Ok, Err, Some, None}
use Rattle.model.specs.Answer.{Answer, refused, done, ◌>>=◌}
use Rattle.model.specs.Record.{Entry}
use Rattle.model.specs.Rounds.{elem}
use Rattle.model.specs.Promised.{OneOf}
use Rattle.model.specs.Assign.{Assign, read_list, places, items_in, operands_ok, given, statements_of, statement_items, items_lent}
use Rattle.base.specs.Tests.{split, clash, and_left}
use Rattle.base.specs.Answer.{split_answer}
use Rattle.base.specs.Only.{only_at}
use Rattle.refusal.specs.declared.Refusal.{Refusal}
use Rattle.refusal.specs.declared.Refusal.TheVariants.{BadFunction, ShortStore, UnknownStatement}
use Rattle.refusal.specs.Refusal.{answered}
use Rattle.assign.specs.Checked.{list_ok, known_in}
use Rattle.assign.specs.Puts.{RoomAll, PutsAll}
use Rattle.assign.specs.Answers.{Gives, Numbered}
use Rattle.assign.specs.declared.give.Pen.{Pen}
use Rattle.assign.proofs.Knowing.{list_read}
use Rattle.assign.proofs.Numbers.{reading_refusals, statement_refusals}
use Rattle.assign.proofs.Written.{puttings_dry, given_few, written_whole}

-- a list that passes gives no more than 49,152 items
statements_few : (ws : List ℕ) {ss : List Assign} → statements_of ws ≡ done ss → length (given ss) ≤ 49152
unfolding statements_of
statements_few ws {ss} e = split_answer (read_list (length ws) ws)
    (λ r d. clash (cc))
    (λ ts d. split (leb (items_in (places ts)) 16384 && operands_ok (places ts))
    (λ b.
    let z : ts ≡ ss = cc in
    omega (arith, given_few ts, leb-true (items_in (places ts)) 16384 (and_left (leb (items_in (places ts)) 16384) (operands_ok (places ts)) b), ap (λ (x : List Assign). length (given x)) z))
    (λ b. clash (cc)))

-- so all can be counted
pub room_dry : (ws out : List ℕ) {p : Pen} → p.at ≡ 0 → p.total ≡ None → RoomAll ws out p
room_dry ws out a w ss e = record {
  few = omega (arith, statements_few ws e);
  fits = λ t e. clash (cc);
  long = λ t e. clash (cc);
}

-- the number of model's items, or its refusal
abbrev counted : Answer (List Entry) → Answer ℕ
counted a = a >>= λ es. done (length es)

-- what is refused, is with one of its numbers
refused_as : (a : Answer (List Entry)) {n : ℕ} → refused n ≡ counted a → a ≡ refused n
refused_as (refused m) e = cc
refused_as (done es) e = clash (cc)

pub promised : {ws : List ℕ} {n : ℕ} {out : List ℕ} {r : Result ℕ Refusal} → Gives ws n out r → record { gives : Gives ws n out r; numbered : Numbered r }
promised {ws} {n} G = record {
  gives = G;
  numbered = λ x e. only_at (statement_refusals ws n) (refused_as (statement_items ws n) (ap answered (sym e) ∙ G.answer));
}

-- from what model answers
gives_as : {ws : List ℕ} {n : ℕ} {out : List ℕ} {r : Result ℕ Refusal} (a : Answer (List Entry)) → statement_items ws n ≡ a → answered r ≡ counted a → out ≡ items_lent n a
    → Gives ws n out r
gives_as {n} a e f g = record { answer = f ∙ ap counted (sym e); left = g ∙ ap (items_lent n) (sym e) }

-- THE RETURNS

-- the one number of a list
one_two : (r : ℕ) → OneOf (2 ∷ []) r → r ≡ 2
unfolding elem
one_two r o = split (eqb r 2) (λ e. eqb-true r 2 e) (λ e. clash (cc))

module _ (ws : List ℕ) (n : ℕ) where
  pub gives_cut : {out : List ℕ} → out ≡ replicate n 0 → list_ok ws ≡ false → Gives ws n out (Err BadFunction)
  unfolding statement_items items_lent
  gives_cut z e = split_answer (statements_of ws)
      (λ r d.
      let y = one_two r (only_at (reading_refusals ws) d) in
      let a : statement_items ws n ≡ refused 2 = cc in
      gives_as (refused 2) a refl z)
      (λ ss d. clash (cc))

  module _ (e : list_ok ws ≡ true) where
    pub gives_unknown : {out : List ℕ} → out ≡ replicate n 0 → known_in (statements_of ws) ≡ false → Gives ws n out (Err UnknownStatement)
    unfolding statement_items items_lent
    gives_unknown z k =
        let d = (list_read ws e).is in
        let a : statement_items ws n ≡ refused 11 = cc in
        gives_as (refused 11) a refl z

    -- all are counted, in zeros
    module _ (k : known_in (statements_of ws) ≡ true) {out out' : List ℕ} {p r : Pen} (a : p.at ≡ 0) (w : p.total ≡ None) (P : PutsAll ws out p out' r)
        (z : out ≡ replicate n 0) where
      abbrev all : List Assign
      all = (list_read ws e).all

      is : statements_of ws ≡ done all
      is = (list_read ws e).is

      count : r.at ≡ length (given all)
      count = omega (arith, ap (λ (x : Pen). x.at) (P all is).pen)

      zeros : out' ≡ replicate n 0
      zeros = (P all is).written ∙ rw w (puttings_dry p.at (given all) out) ∙ z

      pub counted_length : length out' ≡ n
      counted_length = ap (λ (x : List ℕ). length x) zeros ∙ length-replicate n 0

      pub gives_short : n < 1 + 2 * r.at → Gives ws n out' (Err ShortStore)
      unfolding statement_items items_lent
      gives_short l =
          let d = is in
          let f : leb (1 + 2 * length (given all)) n ≡ false = lt-leb (1 + 2 * length (given all)) n (omega (arith, count)) in
          let b : statement_items ws n ≡ refused 10 = cc in
          gives_as (refused 10) b refl zeros

      -- the number fits in a word
      pub counted_word : r.at % 4294967296 ≡ r.at
      counted_word = omega (arith, count, statements_few ws is)

      module _ {q : Pen} (v : ℕ) (b : q.at ≡ 0) (t : q.total ≡ Some r.at) (l : 1 + 2 * r.at ≤ n) where
        pub gives_all : {o : Pen} {out'' : List ℕ} → v ≡ r.at → PutsAll ws (set out' 0 v) q out'' o → Gives ws n out'' (Ok r.at)
        unfolding statement_items items_lent
        gives_all u Q =
            let d = is in
            let f : leb (1 + 2 * length (given all)) n ≡ true = le-leb (1 + 2 * length (given all)) n (omega (arith, count)) in
            let s : statement_items ws n ≡ done (given all) = cc in
            let m = count in
            gives_as (done (given all)) s (ap done m) ((Q all is).written ∙ rw (b, t, u, zeros, m) (written_whole n (given all) (omega arith)))
