-- A block's match, target by target: what model's exits come to, from what is left to try at item i.
use mathlib.Core.Path.{◌≡◌, refl, ap, ◌∙◌, subst}
use mathlib.Core.Logic.{◌≢◌}
use mathlib.Core.Bool.{Bool, true, false}
use mathlib.Core.List.{List, [], ◌∷◌}
use mathlib.Core.Option.{none, some, map}
use Prim.Native.Nat.{ℕ, suc, ◌+◌, ◌-◌, ◌≤◌, ◌<◌}
use Rattle.std.specs.Prelude.{Option, Some, None, Result, Ok, Err}
use native.Mathlib.Numerals.{add-one}
use native.Mathlib.Omega.{arith}
use borrow.Author.Tests.{eq-eqb, ne_eqb, lt-ltb}
use lib.Dec.{eqb}
use Rattle.model.specs.Words.{word, collect_from}
use Rattle.model.specs.Answer.{Answer, refused, done, ◌>>=◌}
use Rattle.model.specs.Types.{count}
use Rattle.model.specs.Tree.{Forest}
use Rattle.model.specs.Walk.{subject_at}
use Rattle.model.specs.Function.{nblocks, start, stop, op, arg}
use Rattle.model.specs.Block.{spot_before, matched, targets, is_arm, arm_value}
use Rattle.model.specs.Frame.{Exit}
use Rattle.model.specs.Body.{variant_of, without, only, Choice, choice, open_variant, match_targets, unopened, match_exits, exits_of}
use Rattle.base.specs.Tests.{clash, split_option}
use Rattle.base.specs.Each.{each_none, each_more}
use Rattle.base.specs.Answer.{split_answer}
use Rattle.base.specs.Collected.{collect_zero, collect_pass, collect_fail}
use Rattle.graph.specs.Elements.{unopened_each}
use Rattle.refusal.specs.Refusal.{number}
use Rattle.refusal.specs.declared.Refusal.{Refusal}
use Rattle.blocks.specs.Points.{matched_read}
use Rattle.blocks.proofs.Points.{matched_place}
use Rattle.body.specs.declared.arms.Subject.{Subject}
use Rattle.body.specs.declared.arms.Rest.{Rest}
use Rattle.body.specs.declared.arms.Match.{Match}
use Rattle.body.specs.Arms.{rest, opens, Sought, Sound, Chosen, Planned}
use Rattle.body.specs.Tries.{with_rest, match_on, free, arm, Taken, last_open, Ended}
use Rattle.body.proofs.Answered.{answered_refused}
use Rattle.body.proofs.Variants.{free_all}

-- THE TARGETS from item i on, before t

module _ (fn : List ℕ) where
  abbrev is_target : ℕ → Bool
  is_target j = eqb (op fn j) 10

  abbrev aimed : ℕ → ℕ × ℕ
  aimed j = (j, arg fn j)

  pub aims : ℕ → ℕ → List (ℕ × ℕ)
  aims t i = collect_from is_target aimed (t - i) i

  -- none
  pub aims_over : (t i : ℕ) → t ≤ i → aims t i ≡ []
  unfolding aims
  aims_over t i l = let z : t - i ≡ 0 = omega arith in ap (λ (n : ℕ). collect_from is_target aimed n i) z ∙ collect_zero is_target aimed i

  module _ (t i : ℕ) (l : i < t) where
    further : t - i ≡ suc (t - suc i)
    further = omega arith

    -- one more
    pub aims_target : op fn i ≡ 10 → aims t i ≡ (i, arg fn i) ∷ aims t (suc i)
    unfolding aims
    aims_target e = ap (λ (n : ℕ). collect_from is_target aimed n i) further ∙ collect_pass is_target aimed (t - suc i) i (eq-eqb (op fn i) 10 e)

    -- an item that is none
    pub aims_skip : op fn i ≢ 10 → aims t i ≡ aims t (suc i)
    unfolding aims
    aims_skip d = ap (λ (n : ℕ). collect_from is_target aimed n i) further ∙ collect_fail is_target aimed (t - suc i) i (ne_eqb (op fn i) 10 d)

-- WHAT IS LEFT TO TRY

-- a is refused as b is, and has exits that leave as a match says if b has
pub record Leads (Γ fn : List ℕ) (m : Subject) (E : Forest) (a b : Answer (List (Exit Forest))) : Type 0 where
  pub refuses : (n : ℕ) → b ≡ refused n → a ≡ refused n
  pub leads : (w : Rest) (ys : List (Exit Forest)) → b ≡ done ys → Chosen Γ fn (Some (with_rest m w)) E ys
      → (xs : List (Exit Forest)) × (a ≡ done xs) × Chosen Γ fn (Some (with_rest m w)) E xs

module _ {Γ fn : List ℕ} {m : Subject} {E : Forest} where
  -- what is the same
  pub leads_same : {a b : Answer (List (Exit Forest))} → a ≡ b → Leads Γ fn m E a b
  leads_same e = record { refuses = λ n d. e ∙ d; leads = λ w ys d c. (ys, e ∙ d, c) }

  -- one after the other
  pub leads_on : {a b c : Answer (List (Exit Forest))} → Leads Γ fn m E a b → Leads Γ fn m E b c → Leads Γ fn m E a c
  leads_on f g = record {
    refuses = λ n d. f.refuses n (g.refuses n d);
    leads = λ w ys d c. let (xs, e, k) = g.leads w ys d c in f.leads w xs e k;
  }

-- a block that matches on a read has a match
has_match : (fn : List ℕ) (b : ℕ) {read : ℕ} → matched_read fn b ≡ some read → matched fn b ≡ some (spot_before fn read)
has_match fn b m = matched_place fn b ∙ ap (map (spot_before fn)) m

module _ (Γ fn : List ℕ) (m : Subject) (E : Forest) where
  -- the targets from item i on, before e, with the variants that are not taken
  pub trying : ℕ → ℕ → List ℕ → Answer (List (Exit Forest))
  trying e i taken = match_targets Γ fn (spot_before fn m.read) E (aims fn e i) (free Γ m.typ taken)

  -- the exit by the target item i
  abbrev exit : ℕ → Forest → Exit Forest
  exit i D = record { item = i; block = arg fn i; state = D }

  -- THE FIRST

  pub trying_first : (b : ℕ) (taken : List ℕ) → b < nblocks fn → matched_read fn b ≡ some m.read → subject_at Γ (spot_before fn m.read) E ≡ done (some m.typ)
      → ((v : ℕ) → v < count Γ m.typ → word taken v ≡ 0) → exits_of Γ fn (matched fn b) (targets fn b) E ≡ trying (stop fn b) (start fn b) taken
  unfolding exits_of match_exits targets trying aims
  trying_first b taken l k e z =
      let q = has_match fn b k in
      let f = free_all Γ m.typ taken z in
      let w = lt-ltb b (nblocks fn) l in
      cc

  -- STEP BY STEP

  module _ (e i : ℕ) (taken : List ℕ) (l : i < e) where
    -- an item that is no target
    pub trying_skip : op fn i ≢ 10 → trying e i taken ≡ trying e (i + 1) taken
    unfolding trying
    trying_skip d = rw (add-one, aims_skip fn e i l d)

    module _ (k : op fn i ≡ 10) where
      -- a target that opens a variant, or none
      trying_choice : (c : Choice) (D : Forest) → choice fn i (free Γ m.typ taken) ≡ done c → open_variant Γ fn (spot_before fn m.read) c.opens E ≡ done D
          → trying e i taken ≡ (match_targets Γ fn (spot_before fn m.read) E (aims fn e (suc i)) c.remain >>= λ xs. done (exit i D ∷ xs))
      unfolding trying match_targets
      trying_choice c D f g = rw (aims_target fn e i l k, f, g)

      -- one that is refused
      trying_refused : (c : Choice) (n : ℕ) → choice fn i (free Γ m.typ taken) ≡ done c → open_variant Γ fn (spot_before fn m.read) c.opens E ≡ refused n → trying e i taken ≡ refused n
      unfolding trying match_targets
      trying_refused c n f g = rw (aims_target fn e i l k, f, g)

      trying_unknown : (n : ℕ) → choice fn i (free Γ m.typ taken) ≡ refused n → trying e i taken ≡ refused n
      unfolding trying match_targets
      trying_unknown n f = rw (aims_target fn e i l k, f)

      module _ (a : op fn (i - 1) ≡ 9) where
        armed : is_arm fn i ≡ true
        unfolding is_arm
        armed = eq-eqb (op fn (i - 1)) 9 a

        -- an arm that is refused
        pub trying_denied : (n : ℕ) → arm Γ fn m.read (arm_value fn i) (free Γ m.typ taken) E ≡ refused n → trying e i taken ≡ refused n
        unfolding arm choice open_variant
        trying_denied n d = split_option (variant_of (arm_value fn i) (free Γ m.typ taken))
            (λ u. trying_unknown n (cc armed))
            (λ v u. trying_refused (record { opens = some v; remain = without (arm_value fn i) (free Γ m.typ taken) }) n (cc armed) (cc))

        -- an arm that opens its variant
        pub trying_taken : {taken' : List ℕ} → Taken Γ fn m i E taken taken' → Leads Γ fn m E (trying e i taken) (trying e (i + 1) taken')
        unfolding trying choice open_variant opens
        trying_taken {taken'} T =
            let ds = without (arm_value fn i) (free Γ m.typ taken) in
            let z = trying_choice (record { opens = some T.variant; remain = ds }) T.state (cc (armed, T.left)) T.opens in
            let y : match_targets Γ fn (spot_before fn m.read) E (aims fn e (suc i)) ds ≡ trying e (i + 1) taken' = rw (add-one, T.remain) in
            record {
              refuses = λ n d. cc;
              leads = λ w ys d c. (exit i T.state ∷ ys, cc, each_more {a = exit i T.state} (cc (armed, T.known, T.opens)) c);
            }

      -- THE OTHERWISE TARGET

      module _ (a : op fn (i - 1) ≢ 9) (s : suc i ≡ e) where
        unarmed : is_arm fn i ≡ false
        unfolding is_arm
        unarmed = ne_eqb (op fn (i - 1)) 9 a

        -- it is refused
        pub trying_shut : (n : ℕ) → last_open Γ fn m taken E ≡ refused n → trying e i taken ≡ refused n
        unfolding choice
        trying_shut n d = trying_refused (record { opens = only (free Γ m.typ taken); remain = free Γ m.typ taken }) n (cc unarmed) d

        -- it is the last
        pub trying_last : (D : Forest) → last_open Γ fn m taken E ≡ done D → trying e i taken ≡ done (exit i D ∷ [])
        unfolding choice match_targets
        trying_last D d = trying_choice (record { opens = only (free Γ m.typ taken); remain = free Γ m.typ taken }) D (cc unarmed) d ∙ rw (aims_over fn e (suc i) (omega arith))

        -- and leaves as a match says
        pub last_chosen : (w : Rest) (D : Forest) → rest w ≡ only (free Γ m.typ taken) → last_open Γ fn m taken E ≡ done D
            → Chosen Γ fn (Some (with_rest m w)) E (exit i D ∷ [])
        unfolding opens
        last_chosen w D r d = each_more {a = exit i D} (cc unarmed) each_none

  -- past the last item
  pub trying_over : (e i : ℕ) (taken : List ℕ) → e ≤ i → trying e i taken ≡ done []
  unfolding trying match_targets
  trying_over e i taken l = rw (aims_over fn e i l)

-- THE PLAN

module _ {Γ fn : List ℕ} {m : Subject} {b : ℕ} {E : Forest} (k : matched_read fn b ≡ some m.read) where
  -- what is left is refused
  pub planned_refused : {a : Answer (List (Exit Forest))} {f : Refusal} → Leads Γ fn m E (exits_of Γ fn (matched fn b) (targets fn b) E) a → a ≡ refused (number f) → Planned Γ fn b E (Err f)
  planned_refused {f} L e =
      let z = L.refuses (number f) e in
      let w = has_match fn b k in
      record { denied = λ j d. cc; refuses = λ j d. cc; plain = λ q. clash (cc); sound = λ p d. clash (cc); chosen = λ p xs d. clash (cc) }

  -- what is left leaves as the match says
  pub planned_match : {a : Answer (List (Exit Forest))} {v : Rest} {ys : List (Exit Forest)} → Leads Γ fn m E (exits_of Γ fn (matched fn b) (targets fn b) E) a
      → Sought Γ fn m → a ≡ done ys → Chosen Γ fn (Some (with_rest m v)) E ys → Planned Γ fn b E (Ok (Some (with_rest m v)))
  planned_match {v} {ys} L S e c =
      let (xs, z, h) = L.leads v ys e c in
      let w = has_match fn b k in
      record {
        denied = λ n d. clash (cc);
        refuses = λ n d. clash (cc);
        plain = λ q. clash (cc);
        sound = λ p d. let y : Some (with_rest m v) ≡ p = cc in subst (Sound Γ fn) y S;
        chosen = λ p ws d c. let y : Some (with_rest m v) ≡ p = cc in let u : xs ≡ ws = cc in subst (λ (q : Option Match). Chosen Γ fn q E ws) y (rw u at h);
      }

  -- the otherwise target is tried
  pub planned_ended : {e i : ℕ} {taken : List ℕ} {r : Result Rest Refusal} → Leads Γ fn m E (exits_of Γ fn (matched fn b) (targets fn b) E) (trying Γ fn m E e i taken)
      → Sought Γ fn m → i < e → op fn i ≡ 10 → op fn (i - 1) ≢ 9 → suc i ≡ e → Ended Γ fn m E taken r → Planned Γ fn b E (match_on m r)
  planned_ended {e} {i} {taken} {r} L S l t a s X = split_answer (last_open Γ fn m taken E)
      (λ n d.
      let (f, z, y) = answered_refused r (X.denied n d) in
      rw z (planned_refused L (rw y (trying_shut Γ fn m E e i taken l t a s n d))))
      (λ D d.
      let (w, z, y) = X.fine D d in
      rw z (planned_match L S (trying_last Γ fn m E e i taken l t a s D d) (last_chosen Γ fn m E e i taken l t a s w D y d)))

-- where each target leaves with the state as it is the plan is plain
planned_unopened : (Γ fn : List ℕ) (b : ℕ) (E : Forest) → exits_of Γ fn (matched fn b) (targets fn b) E ≡ done (unopened (targets fn b) E) → Planned Γ fn b E (Ok None)
planned_unopened Γ fn b E e =
    let h = unopened_each (λ x. ◌≡◌ {A = Answer Forest} (done E) (done x.state)) E (λ t. refl) (targets fn b) in
    record {
      denied = λ n d. clash (cc);
      refuses = λ n d. clash (cc);
      plain = λ d. refl;
      sound = λ p d. let y : None ≡ p = cc in subst (Sound Γ fn) y tt;
      chosen = λ p xs d c. let y : None ≡ p = cc in let z : unopened (targets fn b) E ≡ xs = cc in subst (λ (q : Option Match). Chosen Γ fn q E xs) y (rw z at h);
    }

-- so it is without a match
pub planned_plain : (Γ fn : List ℕ) (b : ℕ) (E : Forest) → matched_read fn b ≡ none → Planned Γ fn b E (Ok None)
unfolding exits_of
planned_plain Γ fn b E m =
    let q : matched fn b ≡ none = matched_place fn b ∙ ap (map (spot_before fn)) m in
    planned_unopened Γ fn b E (rw q refl)

-- and by a match on an array's element
pub planned_element : (Γ fn : List ℕ) (b read : ℕ) (E : Forest) → matched_read fn b ≡ some read → subject_at Γ (spot_before fn read) E ≡ done none → Planned Γ fn b E (Ok None)
unfolding exits_of match_exits
planned_element Γ fn b read E m e = planned_unopened Γ fn b E (rw (has_match fn b m, e) refl)

-- a match on neither
pub planned_walk : (Γ fn : List ℕ) (b read : ℕ) (E : Forest) {f : Refusal} → matched_read fn b ≡ some read → subject_at Γ (spot_before fn read) E ≡ refused (number f) → Planned Γ fn b E (Err f)
unfolding exits_of
planned_walk Γ fn b read E {f} m e =
    let w = has_match fn b m in
    record { denied = λ k d. cc; refuses = λ k d. cc; plain = λ q. clash (cc); sound = λ p d. clash (cc); chosen = λ p xs d. clash (cc) }
