-- A loop by fuel, and its rules: with a number that falls at each turn, the fuel never runs out.
use Rattle.std.specs.Prelude.{◌≡◌, refl}
use Rattle.std.proofs.Math.Path.{subst}
use Prim.Native.Nat.{ℕ, zero, suc, ◌<◌}
use Rattle.std.proofs.Common.{arith}
use Rattle.model.specs.Answer.{Answer, refused, done}
use Rattle.model.specs.Rounds.{Round, idle, broke, turned, loop, run_rounds}
use Rattle.base.specs.Tests.{clash}

-- by cases on a round, with the equation in reach of `cc`
pub rounds : {P S : Type 0} (r : Round S) → (r ≡ idle → P) → ((k : ℕ) → r ≡ broke k → P) → ((t : S) → r ≡ turned t → P) → P
rounds idle f g h = f refl
rounds (broke k) f g h = g k refl
rounds (turned t) f g h = h t refl

-- a round with what is done after it
unfoldable pub after : {S : Type 0} → S → Round S → (S → Answer S) → Answer S
after s idle k = done s
after s (broke r) k = refused r
after s (turned t) k = k t

module _ {S : Type 0} (round : S → Round S) where
  -- load falls at each turn, as long as Inv holds
  pub record Falls (Inv : S → Type 0) (load : S → ℕ) : Type 0 where
    pub keeps : {s t : S} → Inv s → round s ≡ turned t → Inv t
    pub less : {s t : S} → Inv s → round s ≡ turned t → load t < load s

  -- how a loop ends
  pub record Ends (Inv : S → Type 0) (t : S) : Type 0 where
    pub holds : Inv t
    pub rests : round t ≡ idle

  module _ {Inv : S → Type 0} {load : S → ℕ} (H : Falls Inv load) where
    -- any two fuels that are enough give the same
    loop_same : (n m : ℕ) (s : S) → Inv s → load s < n → load s < m → loop round n s ≡ loop round m s
    unfolding loop
    loop_same zero m s i p q = absurd (omega arith)
    loop_same (suc n) zero s i p q = absurd (omega arith)
    loop_same (suc n) (suc m) s i p q = rounds (round s) (λ e. cc) (λ k e. cc) (λ t e.
        let l = H.less i e in
        let h = loop_same n m t (H.keeps i e) (omega arith) (omega arith) in
        cc)

    -- one round: the law that defines the loop
    pub run_round : (s : S) → Inv s → run_rounds round load s ≡ after s (round s) (run_rounds round load)
    unfolding run_rounds loop after
    run_round s i = rounds (round s) (λ e. cc) (λ k e. cc) (λ t e.
        let l = H.less i e in
        let h = loop_same (load s) (suc (load t)) t (H.keeps i e) (omega arith) (omega arith) in
        cc)

    -- with enough fuel an accepted loop ends at rest, with the invariant
    loop_ends : (n : ℕ) (s t : S) → Inv s → load s < n → loop round n s ≡ done t → Ends Inv t
    unfolding loop
    loop_ends zero s t i p e = absurd (omega arith)
    loop_ends (suc n) s t i p e = rounds (round s)
        (λ d. let q : s ≡ t = cc in rw (← q) (record { holds = i; rests = d }))
        (λ k d. clash (cc))
        (λ u d. let l = H.less i d in loop_ends n u t (H.keeps i d) (omega arith) (cc))

    -- an accepted run ends at rest, with the invariant
    pub run_ends : {s t : S} → Inv s → run_rounds round load s ≡ done t → Ends Inv t
    unfolding run_rounds
    run_ends {s} {t} i e = loop_ends (suc (load s)) s t i (omega arith) e

    -- a loop is refused as one of its rounds is
    loop_refused : {Q : ℕ → Type 0} → ((s : S) (k : ℕ) → Inv s → round s ≡ broke k → Q k)
        → (n : ℕ) (s : S) (r : ℕ) → Inv s → loop round n s ≡ refused r → Q r
    unfolding loop
    loop_refused f zero s r i e = clash (cc)
    loop_refused {Q} f (suc n) s r i e = rounds (round s)
        (λ d. clash (cc))
        (λ k d. let q : k ≡ r = cc in subst Q q (f s k i d))
        (λ t d. loop_refused f n t r (H.keeps i d) (cc))

    -- a run is refused as one of its rounds is
    pub run_refused : {Q : ℕ → Type 0} → ((s : S) (k : ℕ) → Inv s → round s ≡ broke k → Q k) → (s : S) (r : ℕ) → Inv s → run_rounds round load s ≡ refused r → Q r
    unfolding run_rounds
    run_refused f s r i e = loop_refused f (suc (load s)) s r i e

    -- a run whose rounds are never refused is accepted
    module _ (calm : (s : S) (k : ℕ) → Inv s → round s ≡ broke k → ⊥) where
      -- a loop whose rounds are never refused is accepted
      loop_gives : (n : ℕ) (s : S) → Inv s → (t : S) × (loop round n s ≡ done t)
      unfolding loop
      loop_gives zero s i = (s, refl)
      loop_gives (suc n) s i = rounds (round s)
          (λ e. (s, cc))
          (λ k e. absurd (calm s k i e))
          (λ t e. let h = loop_gives n t (H.keeps i e) in (h.0, cc h.1))

      -- so is the run
      pub run_gives : (s : S) → Inv s → (t : S) × (run_rounds round load s ≡ done t)
      unfolding run_rounds
      run_gives s i = loop_gives (suc (load s)) s i
