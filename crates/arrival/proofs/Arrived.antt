-- An arrival in the first pass: what `arrive` leaves, by what is stored where the state arrives. Assumes nothing.
use mathlib.Core.Path.{◌≡◌, refl, sym, ap, ◌∙◌}
use mathlib.Core.Bool.{Bool, true, false}
use mathlib.Core.List.{List}
use mathlib.Core.Option.{none, some}
use Prim.Native.Nat.{ℕ, suc, ◌+◌, ◌≤◌, ◌<◌}
use Rattle.std.specs.Prelude.{Option, Some, None}
use native.Mathlib.Numerals.{add-one}
use native.Mathlib.Omega.{arith}
use lib.Dec.{leb}
use lib.ListN.{length, set}
use lib.Seq.{get_or-set_same}
use borrow.Author.Tests.{leb-true, le-leb}
use Rattle.model.specs.Words.{word}
use Rattle.model.specs.Answer.{Answer, refused, done}
use Rattle.model.specs.Tree.{Forest, sizes, joins, flagss}
use Rattle.model.specs.Rounds.{put}
use Rattle.base.specs.Tests.{split, clash}
use Rattle.records.specs.Here.{Holds}
use Rattle.laws.specs.Valid.{Valid, joins_valid}
use Rattle.laws.specs.Join.{joins_self}
use Rattle.laws.specs.Flags.{flags1_law}
use Rattle.state.specs.Value.{value}
use Rattle.state.specs.declared.nodes.State.{State}
use Rattle.join.specs.declared.trees.Joined.{Joined}
use Rattle.join.specs.Answers.{joined_to, joined, JoinedIn}
use Rattle.arrival.specs.Shares.{Full}
use Rattle.arrival.specs.Arrivals.{takes, Took, Arrives}
use Rattle.arrival.proofs.Stored.{held_full}

module _ {Γ locals : List ℕ} {c : ℕ} {kept fs ws kept' : List ℕ} {waits waits' : ℕ → Bool} where
  -- a refusal
  arrives_refused : {a : Answer (Forest × Bool)} {n : ℕ} → a ≡ refused n → Arrives Γ locals c kept waits a fs ws kept' waits' n
  arrives_refused e = record { denied = λ m d. cc; took = λ w d. clash (cc) }

  -- a state that is taken
  arrives_taken : {a : Answer (Forest × Bool)} {w : Forest × Bool} → a ≡ done w → Took Γ locals c kept waits w fs ws kept' waits'
      → Arrives Γ locals c kept waits a fs ws kept' waits' 0
  arrives_taken {w} e t = record {
    denied = λ m d. clash (cc);
    took = λ v d. let same : w ≡ v = cc in (refl, rw same at t);
  }

  -- one that is new there: the block waits
  arrives_new : {a : Answer (Forest × Bool)} {D : Forest} {n : ℕ} → a ≡ done (D, true) → Full Γ locals fs ws (suc (sizes D)) D → c < length kept
      → n ≡ suc (sizes D) → kept' ≡ set kept c n → waits' ≡ put waits c true → Arrives Γ locals c kept waits a fs ws kept' waits' 0
  arrives_new {D} {n} e f l k p q =
      let it : word kept' c ≡ suc (sizes D) = ap (λ (x : List ℕ). word x c) p ∙ get_or-set_same kept c n 0 l ∙ k in
      arrives_taken e (record {
        full = record { valid = f.valid; count = it; forms = f.forms; whats = f.whats };
        count = p ∙ ap (set kept c) k;
        waiting = q;
      })

  -- where nothing is stored
  pub arrives_first : {s : State} {E : Forest} {n : ℕ} → Holds Γ locals (value s) E → c < length kept → n ≡ s.nodes + 1
      → fs ≡ s.forms → ws ≡ s.whats → kept' ≡ set kept c n → waits' ≡ put waits c true → Arrives Γ locals c kept waits (takes Γ none E) fs ws kept' waits' 0
  unfolding takes
  arrives_first h l k p q u v = arrives_new refl (rw (p, q) (held_full h)) l (k ∙ ap (λ (m : ℕ). m + 1) h.count ∙ add-one _) u v

-- where S is stored, by the join with it
module _ {Γ locals fs ws : List ℕ} {S E : Forest} {r : Option Joined} (j : JoinedIn Γ S E r fs ws) (f : Valid Γ locals S) (g : Valid Γ locals E) where
  -- the share that it is written to
  joined_stored : {k : ℕ} → sizes (joins Γ false S E) ≤ 512 → k ≡ suc (sizes (joins Γ false S E)) → Full Γ locals fs ws k (joins Γ false S E)
  joined_stored h e = record { valid = joins_valid f g h; count = e; forms = j.forms h; whats = j.whats h }

  -- it has room, if it has an answer
  joined_room : {w : Joined} → r ≡ Some w
      → (takes Γ (some S) E ≡ done (joins Γ false S E, w.changed)) × (sizes (joins Γ false S E) ≤ 512) × (w.nodes ≡ sizes (joins Γ false S E)) × (w.changed ≡ (flagss Γ false S E).0)
  unfolding takes joined
  joined_room {w} e =
      let a = j.answer in
      split (leb (sizes (joins Γ false S E)) 512)
      (λ l.
      let same : joined_to (sizes (joins Γ false S E)) (flagss Γ false S E).0 ≡ w = cc in
      rw (← same) (rw l, leb-true (sizes (joins Γ false S E)) 512 l, refl, refl))
      (λ l. clash (cc))

  -- so its nodes are few
  pub joined_few : {w : Joined} → r ≡ Some w → w.nodes ≤ 512
  joined_few e = let t = joined_room e in omega arith

  module _ {c : ℕ} {kept : List ℕ} {waits : ℕ → Bool} where
    -- no room
    pub arrives_over : r ≡ None → Arrives Γ locals c kept waits (takes Γ (some S) E) fs ws kept waits 9
    unfolding takes joined
    arrives_over e =
        let a = j.answer in
        arrives_refused (split (leb (sizes (joins Γ false S E)) 512) (λ l. clash (cc)) (λ l. rw l))

    -- a change
    pub arrives_changed : {kept' : List ℕ} {waits' : ℕ → Bool} {m : ℕ} {w : Joined} → r ≡ Some w → w.changed ≡ true → c < length kept → m ≡ w.nodes + 1 → kept' ≡ set kept c m → waits' ≡ put waits c true
        → Arrives Γ locals c kept waits (takes Γ (some S) E) fs ws kept' waits' 0
    arrives_changed e d l k p q =
        let t = joined_room e in
        arrives_new (t.0 ∙ ap (λ (x : Bool). done (joins Γ false S E, x)) d) (joined_stored t.1 refl) l (k ∙ ap (λ (x : ℕ). x + 1) t.2 ∙ add-one _) p q

    -- none
    pub arrives_unchanged : {w : Joined} → r ≡ Some w → w.changed ≡ false → word kept c ≡ suc (sizes S) → Arrives Γ locals c kept waits (takes Γ (some S) E) fs ws kept waits 0
    arrives_unchanged e d k =
        let t = joined_room e in
        let same : joins Γ false S E ≡ S = (flags1_law false f.fits g.fits).0 (sym t.3 ∙ d) in
        arrives_taken (t.0 ∙ ap (λ (x : Bool). done (joins Γ false S E, x)) d) (record { full = joined_stored t.1 (k ∙ ap (λ (D : Forest). suc (sizes D)) (sym same)); count = refl; waiting = refl })

-- where S is stored and the same arrives
pub arrives_same : {Γ locals fs ws kept : List ℕ} {waits : ℕ → Bool} {c : ℕ} {S : Forest} → Full Γ locals fs ws (word kept c) S
    → Arrives Γ locals c kept waits (takes Γ (some S) S) fs ws kept waits 0
unfolding takes
arrives_same {Γ} {S = S} f =
    let same : joins Γ false S S ≡ S = joins_self Γ false S in
    let still : (flagss Γ false S S).0 ≡ false = (flags1_law false f.valid.fits f.valid.fits).1 same in
    arrives_taken {w = (S, false)} (rw (same, still, le-leb (sizes S) 512 f.valid.small) refl) (record { full = f; count = refl; waiting = refl })
