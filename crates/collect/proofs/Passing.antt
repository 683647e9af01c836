-- The collectors over states, local by local: what is told of the locals that are left tells the whole. Assumes nothing.
use mathlib.Core.Path.{◌≡◌, refl, sym, ◌∙◌, ap, ap₂}
use mathlib.Core.List.{List, [], ◌∷◌}
use Prim.Native.Nat.{ℕ, suc, ◌+◌, ◌≤◌, ◌<◌}
use native.Mathlib.Nat.{add-zero}
use native.Mathlib.Numerals.{add-one}
use native.Mathlib.Omega.{arith}
use lib.ListN.{length, get_or, drop, drop_of_length-le}
use lib.Seq.{drop-cons}
use Rattle.std.specs.Prelude.{Result, Ok, Err}
use Rattle.model.specs.Tree.{Tree, size}
use Rattle.model.specs.State.{pairs}
use Rattle.model.specs.Record.{Entry}
use Rattle.records.specs.Here.{Coded}
use Rattle.refusal.specs.declared.Refusal.{Refusal}
use Rattle.statements.specs.declared.Out.{Out}
use Rattle.statements.specs.Kept.{Counted}
use Rattle.collectors.specs.declared.got.Got.{Got}
use Rattle.collectors.specs.Trail.{trail, Added, root}
use Rattle.collectors.specs.Gets.{read_to, Stands, StandAll, Opening, OpeningAll, Leading, LeadingAll, Owing, OwingAll}
use Rattle.collectors.proofs.Telling.{told, told_done}
use Rattle.collectors.proofs.Standing.{stands_first, stands_rest}
use Rattle.collectors.proofs.Opens.{unfolds_none, unfolds_refused, unfolds_next, unfolds_more}
use Rattle.collectors.proofs.Leads.{leads_none, leads_refused, leads_next, leads_more}
use Rattle.collectors.proofs.Owes.{folds_none, folds_next, folds_more}

-- the way to local l
pub root_first : {ops args ops' args' : List ℕ} {l : ℕ} → Added ops args ops' args' 0 0 l → root l 0 ≡ trail ops' args' 1
unfolding root pairs
root_first {l} A = ap (λ (k : ℕ). (0, k) ∷ []) (add-zero l) ∙ sym A.items

-- and to those behind it
pub root_next : (l i : ℕ) → root l (suc i) ≡ root (l + 1) i
unfolding root
root_next l i =
    let same : l + suc i ≡ l + 1 + i = omega arith in
    ap (λ (k : ℕ). (0, k) ∷ []) same

-- a local is left, of type t
one_left : {t : ℕ} (ts : List ℕ) (l : ℕ) → t ≡ get_or ts l 0 → l < length ts → drop l ts ≡ t ∷ drop (l + 1) ts
one_left ts l e h = drop-cons ts l 0 h ∙ ap₂ (λ (x k : ℕ). x ∷ drop k ts) (sym e) (sym (add-one l))

-- its tree stands there
pub local_stands : {Γ fs ws : List ℕ} {i t : ℕ} (locals : List ℕ) (l : ℕ) → t ≡ get_or locals l 0 → l < length locals → StandAll Γ fs ws i (drop l locals) 1
    → Stands Γ fs ws i t 1
local_stands locals l e k h = stands_first h (one_left locals l e k) (omega arith)

-- and the others behind the first
pub rest_stands : {Γ fs ws : List ℕ} {i t : ℕ} (locals : List ℕ) → t ≡ get_or locals 0 0 → 0 < length locals → StandAll Γ fs ws 0 locals 1
    → ((x : Tree) → Coded Γ fs ws 0 t x → i ≡ 0 + size x) → StandAll Γ fs ws i (drop 1 locals) 1
rest_stands locals e k h g = (stands_rest h (one_left locals 0 e k) g).0

module _ (Γ fs ws locals : List ℕ) (out₀ : List ℕ) (o : Out) (out : List ℕ) (l : ℕ) (g : Got) where
  -- what opens l locals is told
  pub record Opened : Type 0 where
    pub same : g.first ≡ 0
    pub counted : Counted out g.out
    pub stands : StandAll Γ fs ws g.second (drop l locals) 1
    pub whole : (out' : List ℕ) (s : Result Got Refusal) → OpeningAll Γ out g.out out' s (root l) fs ws g.second (drop l locals) → OpeningAll Γ out₀ o out' s (root 0) fs ws 0 locals

module _ {Γ fs ws locals : List ℕ} {out₀ : List ℕ} {o : Out} where
  module _ {out : List ℕ} {l : ℕ} {g : Got} (P : Opened Γ fs ws locals out₀ o out l g) where
    -- of all
    pub opened_all : length locals ≤ l → OpeningAll Γ out₀ o out (Ok g) (root 0) fs ws 0 locals
    opened_all h = P.whole out (Ok g) (unfolds_none (drop_of_length-le locals h) P.counted (ap (λ (k : ℕ). read_to k g.second g.out) P.same))

    -- of one more
    module _ {out₁ : List ℕ} {q : List Entry} {t : ℕ} (e : t ≡ get_or locals l 0) (h : l < length locals) where
      -- it is refused
      pub opened_refused : {x : Refusal} → Opening Γ out g.out out₁ (Err x) q fs ws g.second t → OpeningAll Γ out₀ o out₁ (Err x) (root 0) fs ws 0 locals
      opened_refused {x} A = P.whole out₁ (Err x) (unfolds_refused (one_left locals l e h) A)

      -- it is recorded
      pub opened_more : {r : Got} → Opening Γ out g.out out₁ (Ok r) q fs ws g.second t → root l 0 ≡ q → Opened Γ fs ws locals out₀ o out₁ (l + 1) r
      opened_more A d =
          let N = unfolds_next (one_left locals l e h) A P.stands in
          let S = local_stands locals l e h P.stands in
          record {
            same = (told (A.tree S.tree S.coded)).2.first;
            counted = N.3;
            stands = N.0;
            whole = λ out' s B. P.whole out' s (unfolds_more (one_left locals l e h) A d (root_next l) B);
          }

module _ (Γ fs ws gs vs locals : List ℕ) (out₀ : List ℕ) (o : Out) (out : List ℕ) (l : ℕ) (g : Got) where
  -- what leads from l locals to others is told
  pub record Led : Type 0 where
    pub counted : Counted out g.out
    pub first : StandAll Γ fs ws g.first (drop l locals) 1
    pub second : StandAll Γ gs vs g.second (drop l locals) 1
    pub whole : (out' : List ℕ) (s : Result Got Refusal) → LeadingAll Γ out g.out out' s (root l) fs ws g.first gs vs g.second (drop l locals)
        → LeadingAll Γ out₀ o out' s (root 0) fs ws 0 gs vs 0 locals

module _ {Γ fs ws gs vs locals : List ℕ} {out₀ : List ℕ} {o : Out} where
  module _ {out : List ℕ} {l : ℕ} {g : Got} (P : Led Γ fs ws gs vs locals out₀ o out l g) where
    -- of all
    pub led_all : length locals ≤ l → LeadingAll Γ out₀ o out (Ok g) (root 0) fs ws 0 gs vs 0 locals
    led_all h = P.whole out (Ok g) (leads_none (drop_of_length-le locals h) P.counted refl)

    -- of one more
    module _ {out₁ : List ℕ} {q : List Entry} {t : ℕ} (e : t ≡ get_or locals l 0) (h : l < length locals) where
      -- it is refused
      pub led_refused : {x : Refusal} → Leading Γ out g.out out₁ (Err x) q fs ws g.first gs vs g.second t
          → LeadingAll Γ out₀ o out₁ (Err x) (root 0) fs ws 0 gs vs 0 locals
      led_refused {x} A = P.whole out₁ (Err x) (leads_refused (one_left locals l e h) A)

      -- it is recorded
      pub led_more : {r : Got} → Leading Γ out g.out out₁ (Ok r) q fs ws g.first gs vs g.second t → root l 0 ≡ q
          → Led Γ fs ws gs vs locals out₀ o out₁ (l + 1) r
      led_more A d =
          let N = leads_next (one_left locals l e h) A P.first P.second in
          record {
            counted = N.4;
            first = N.0;
            second = N.1;
            whole = λ out' s B. P.whole out' s (leads_more (one_left locals l e h) A d (root_next l) B);
          }

module _ (Γ fs ws locals ts : List ℕ) (out₀ : List ℕ) (o : Out) (i : ℕ) (out : List ℕ) (l : ℕ) (g : Got) where
  -- what a return owes of the locals from 1 up to l is told; ts: the first of the locals
  pub record OwedTo : Type 0 where
    pub same : g.second ≡ 0
    pub counted : Counted out g.out
    pub stands : StandAll Γ fs ws g.first (drop l locals) 1
    pub whole : (out' : List ℕ) (s : Got) → OwingAll Γ out g.out out' s (root l) fs ws g.first (drop l ts) → OwingAll Γ out₀ o out' s (root 1) fs ws i (drop 1 ts)

module _ {Γ fs ws locals ts : List ℕ} {out₀ : List ℕ} {o : Out} {i : ℕ} where
  -- of none
  pub owed_none : {g : Got} → g ≡ read_to i 0 o → Counted out₀ o → StandAll Γ fs ws i (drop 1 locals) 1 → OwedTo Γ fs ws locals ts out₀ o i out₀ 1 g
  owed_none e h s = rw e (record { same = refl; counted = h; stands = s; whole = λ out' s A. A })

  module _ {out : List ℕ} {l : ℕ} {g : Got} (P : OwedTo Γ fs ws locals ts out₀ o i out l g) where
    -- of all
    pub owed_all : length ts ≤ l → OwingAll Γ out₀ o out g (root 1) fs ws i (drop 1 ts)
    owed_all h = P.whole out g (folds_none (drop_of_length-le ts h) P.counted (ap (λ (k : ℕ). read_to g.first k g.out) P.same))

    -- of one more
    pub owed_more : {out₁ : List ℕ} {q : List Entry} {r : Got} {t : ℕ} → t ≡ get_or locals l 0 → l < length locals → l < length ts → get_or ts l 0 ≡ get_or locals l 0
        → Owing Γ out g.out out₁ r q fs ws g.first t → root l 0 ≡ q → OwedTo Γ fs ws locals ts out₀ o i out₁ (l + 1) r
    owed_more {out₁} {q} {r} e h k d A w =
        let N = folds_next (one_left locals l e h) A P.stands in
        let S = local_stands locals l e h P.stands in
        record {
          same = (told_done (A.tree S.tree S.coded)).second;
          counted = N.3;
          stands = N.0;
          whole = λ out' s B. P.whole out' s (folds_more (one_left ts l (e ∙ sym d) k) A w (root_next l) B);
        }
