-- The opening of a pass: all locals folded, the entry's uses, and the jump to the start block.
use mathlib.Core.Path.{◌≡◌, refl, sym, ap, ◌∙◌}
use mathlib.Core.Bool.{Bool, true, false}
use mathlib.Core.List.{List, [], ◌∷◌, ◌++◌, map}
use Prim.Native.Nat.{ℕ, ◌+◌, ◌-◌, ◌≤◌}
use Rattle.std.specs.Prelude.{Ok, Err}
use native.Mathlib.Nat.{zero-add}
use native.Mathlib.Omega.{arith}
use lib.ListN.{length, replicate, length-replicate, replicate-append-replicate}
use Rattle.model.specs.Answer.{done}
use Rattle.model.specs.Tree.{Forest, leaves}
use Rattle.model.specs.State.{Code, most, padded, codes, codess, encode}
use Rattle.model.specs.Place.{At}
use Rattle.model.specs.Function.{nlocals, nblocks, start, local_types}
use Rattle.model.specs.Block.{entry_uses, entry_point}
use Rattle.model.specs.Frame.{mark}
use Rattle.model.specs.Body.{enter_uses, frame}
use Rattle.base.specs.Tests.{clash}
use Rattle.base.specs.Answer.{split_answer}
use Rattle.base.specs.Function.{FunctionFacts, length_local_types}
use Rattle.records.specs.Here.{Holds}
use Rattle.records.specs.Holds.{encode_holds}
use Rattle.laws.specs.Sizes.{sizes_leaves}
use Rattle.laws.specs.Valid.{leaves_valid}
use Rattle.state.specs.Value.{value}
use Rattle.state.specs.declared.nodes.State.{State}
use Rattle.statements.specs.Marked.{marked}
use Rattle.statements.specs.Kept.{begun, Kept}
use Rattle.statements.specs.declared.Out.{Out}
use Rattle.statements.specs.declared.Point.{Point}
use Rattle.refusal.specs.declared.Refusal.{Refusal}
use Rattle.statements.proofs.Puts.{counted_begun, kept_begun, counted_alike}
use Rattle.statements.specs.Points.{point, Tells}
use Rattle.body.specs.Uses.{uses, Passes}
use Rattle.body.proofs.Stations.{entry_uses_uses}
use Rattle.arrival.specs.Memory.{Memory, jumps}
use Rattle.arrival.specs.Shares.{Arrays}
use Rattle.arrival.specs.Visits.{Spoken, exit, Visits}
use Rattle.visit.proofs.Entering.{passes_gone}
use Rattle.fold_unfold.specs.Runs.{entered, opens}

-- ALL FOLDED

module _ (Γ : List ℕ) where
  -- the forms of folded locals
  leaves_forms : (ts : List ℕ) → map (λ (c : Code). c.0) (codess Γ (leaves ts)) ≡ replicate (length ts) 0
  unfolding codes leaves
  leaves_forms [] = refl
  leaves_forms (t ∷ ts) = ap (λ (l : List ℕ). 0 ∷ l) (leaves_forms ts)

  -- and their whats
  leaves_whats : (ts : List ℕ) → map (λ (c : Code). c.1) (codess Γ (leaves ts)) ≡ replicate (length ts) 0
  unfolding codes leaves
  leaves_whats [] = refl
  leaves_whats (t ∷ ts) = ap (λ (l : List ℕ). 0 ∷ l) (leaves_whats ts)

-- zeros behind zeros
padded_zeros : (k : ℕ) → k ≤ most → padded (replicate k 0) ≡ replicate most 0
unfolding padded
padded_zeros k h =
    let e : k + (most - k) ≡ most = omega arith in
    ap (λ (n : ℕ). replicate k 0 ++ replicate (most - n) 0) (length-replicate {A = ℕ} k 0)
    ∙ replicate-append-replicate k (most - k) 0
    ∙ ap (λ (n : ℕ). replicate n 0) e

-- the state with which a pass opens
pub folded_holds : (Γ : List ℕ) {fn : List ℕ} → FunctionFacts fn → (s : State) {n : ℕ} → n ≡ nlocals fn
    → (s.forms ≡ replicate 512 0) × (s.whats ≡ replicate 512 0) × (s.nodes ≡ n) → Holds Γ (local_types fn) (value s) (leaves (local_types fn))
unfolding encode
folded_holds Γ {fn} F s {n} e z =
    let ts = local_types fn in
    let l = length_local_types F in
    let h : length ts ≤ most = omega (arith, F.few_locals) in
    let w = leaves_valid {Γ = Γ} h in
    let f : s.forms ≡ (encode Γ (leaves ts)).forms = z.0 ∙ sym (ap padded (leaves_forms Γ ts) ∙ padded_zeros (length ts) h) in
    let g : s.whats ≡ (encode Γ (leaves ts)).whats = z.1 ∙ sym (ap padded (leaves_whats Γ ts) ∙ padded_zeros (length ts) h) in
    let k : s.nodes ≡ (encode Γ (leaves ts)).nodes = z.2 ∙ e ∙ sym l ∙ sym (sizes_leaves ts) in
    let same : value s ≡ encode Γ (leaves ts) = λ i. record { forms = f i; whats = g i; nodes = k i } in
    rw same (encode_holds w.fits w.shallow w.small)

-- THE ENTRY'S USES

-- they pass
pub record Entered (Γ fn : List ℕ) (recording : Bool) (out' : List ℕ) (q : Out) (s : State) : Type 0 where
  pub entry : Forest × List At
  pub enters : enter_uses Γ (entry_uses fn) (leaves (local_types fn)) ≡ done entry
  pub holds : Holds Γ (local_types fn) (value s) entry.0
  pub spoken : (m : Memory) → m.lines ≡ [] → Spoken fn recording (entered Γ fn recording entry.1 m).lines out' q

-- what is told of them
told_spoken : (Γ fn : List ℕ) (recording : Bool) {out out' : List ℕ} {p : Point} {q : Out} (ts : List At)
    → Tells fn out (begun recording p) out' q (mark (entry_point fn) ts)
    → (m : Memory) → m.lines ≡ [] → Spoken fn recording (entered Γ fn recording ts m).lines out' q
told_spoken Γ fn false {out} ts T m l =
    let (e, A) = T.silent refl in
    record { pen = A.recording; counted = rw e (counted_alike A (counted_begun out)); kept = λ z. clash (cc) }
told_spoken Γ fn true {out} {out'} {q} ts T m l =
    let U = T.told refl in
    let ls = mark (entry_point fn) ts in
    let k : Kept (length ls) (marked (entry_point fn) ls) out' q = rw zero-add at (U.kept 0 [] (kept_begun out)) in
    record { pen = U.recording; counted = U.counted; kept = λ z. rw l k }

module _ {Γ fn : List ℕ} {recording : Bool} {out out' : List ℕ} {p : Point} {s : State} where
  -- refused
  pub entry_refused : {k : Refusal} → Passes Γ fn out (begun recording p) out' (uses Γ fn true (start fn 0) 0 (leaves (local_types fn))) (Err k) s
      → (x : Arrays) (m : Memory) → Visits Γ fn recording x out (opens Γ fn recording m) x out' (Err k)
  unfolding opens
  entry_refused P x m = split_answer (enter_uses Γ (entry_uses fn) (leaves (local_types fn)))
      (λ k e.
      let u = entry_uses_uses Γ fn (leaves (local_types fn)) in
      let d = P.denied k (cc) in
      record {
        alike = record { kept = refl; visited = refl; waits = refl; forms = refl; whats = refl };
        same = P.same;
        denied = λ j i. cc;
        over = λ t i. clash (cc);
      })
      (λ w e.
      let u = entry_uses_uses Γ fn (leaves (local_types fn)) in
      let f = (P.gone (w.0, mark (entry_point fn) w.1) (cc)).fine in
      clash (cc))

  -- passed
  pub entry_passed : {q : Out} → Passes Γ fn out (begun recording p) out' (uses Γ fn true (start fn 0) 0 (leaves (local_types fn))) (Ok q) s
      → Entered Γ fn recording out' q s
  entry_passed {q} P =
      let (r, d, H, T) = passes_gone P in
      split_answer (enter_uses Γ (entry_uses fn) (leaves (local_types fn)))
      (λ k e. let u = entry_uses_uses Γ fn (leaves (local_types fn)) in clash (cc))
      (λ w e.
      let u = entry_uses_uses Γ fn (leaves (local_types fn)) in
      let z : (w.0, mark (entry_point fn) w.1) ≡ r = cc in
      record { entry = w; enters = e; holds = rw (← z) at H; spoken = told_spoken Γ fn recording w.1 (rw (← z) at T) })

-- and the jump to the start block
pub opens_jumps : {Γ fn : List ℕ} {recording : Bool} {out' : List ℕ} {q : Out} {s : State} (N : Entered Γ fn recording out' q s) (m : Memory)
    → opens Γ fn recording m ≡ jumps Γ fn recording (nblocks fn) (exit fn true 0 0 N.entry.0) (entered Γ fn recording N.entry.1 m)
unfolding opens frame point
opens_jumps N m = rw N.enters
