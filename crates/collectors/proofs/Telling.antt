-- A collector's answer is told: of no tree, of one tree more, and of a node by its children. Assumes nothing.
use mathlib.Core.Path.{◌≡◌, refl, ◌∙◌, ap}
use mathlib.Core.Bool.{Bool}
use mathlib.Core.List.{List, [], map}
use Prim.Native.Nat.{ℕ, suc}
use lib.ListN.{length, length-map}
use Rattle.std.specs.Prelude.{Result, Ok, Err}
use Rattle.model.specs.Answer.{Answer, refused, done, ◌>>=◌}
use Rattle.model.specs.Place.{Statement, At}
use Rattle.model.specs.Collect.{lift, both}
use Rattle.model.specs.Record.{Entry}
use Rattle.refusal.specs.declared.Refusal.{Refusal}
use Rattle.refusal.specs.Refusal.{number}
use Rattle.type_record.specs.Kinds.{kind_code}
use Rattle.type_record.specs.declared.kinds.Kind.{Kind}
use Rattle.statements.specs.declared.Out.{Out}
use Rattle.statements.specs.declared.Point.{Point}
use Rattle.statements.specs.Kept.{point_of, Counted, Puts}
use Rattle.statements.proofs.Puts.{puts_none, puts_then}
use Rattle.collectors.specs.declared.got.Got.{Got}
use Rattle.collectors.specs.Trail.{lines, lines_of, way}
use Rattle.collectors.specs.Gets.{Ended, Tells, tells_refused, tells_done, read_to}
use Rattle.collectors.proofs.Lines.{way_in, lines_lift, lines_both, both_length}

-- read up to i and j, and recorded
pub ended_at : {out out' : List ℕ} {o q : Out} {g : Got} {i j k : ℕ} {es : List Entry} → g ≡ read_to i j q → Puts k out o out' q es → q.point ≡ o.point
    → Ended out o out' g i j k es
ended_at e w h = rw e (record { first = refl; second = refl; puts = w; point = h })

-- nothing is recorded
pub ended_none : {out : List ℕ} {o : Out} {g : Got} {i j : ℕ} → Counted out o → g ≡ read_to i j o → Ended out o out g i j 0 []
ended_none h e = ended_at e (puts_none h) refl

module _ {out out' : List ℕ} {o : Out} {A : Type 0} {es : List A → List Entry} {i j : ℕ} where
  -- an answer that is not refused
  pub told : {g : Got} {a : Answer (List A)} → Tells out o out' es i j (Ok g) a → (cs : List A) × (a ≡ done cs) × Ended out o out' g i j (length cs) (es cs)
  told (tells_done {cs} E) = (cs, refl, E)

  -- one that cannot be
  pub told_done : {g : Got} {cs : List A} → Tells out o out' es i j (Ok g) (done cs) → Ended out o out' g i j (length cs) (es cs)
  told_done (tells_done E) = E

  -- one that is
  pub told_refused : {e : Refusal} {a : Answer (List A)} → Tells out o out' es i j (Err e) a → a ≡ refused (number e)
  told_refused tells_refused = refl

  -- told again, with other ends
  pub tells_again : {g s : Got} {n : ℕ} {a : Answer (List A)} → Tells out o out' es i j (Ok g) a → s ≡ read_to n g.second g.out → Tells out o out' es n j (Ok s) a
  tells_again (tells_done E) d = tells_done (rw E.second at (ended_at d E.puts E.point))

  -- a refusal, whatever the ends
  pub tells_still : {e : Refusal} {n m : ℕ} {a : Answer (List A)} → Tells out o out' es i j (Err e) a → Tells out o out' es n m (Err e) a
  tells_still tells_refused = tells_refused

module _ {out out' : List ℕ} {o : Out} {i j : ℕ} where
  -- a node by its children
  pub tells_lift : (p : Entry) (q : List Entry) (full : Bool) (k : Kind) (v : ℕ) {r : Result Got Refusal} {a : Answer (List At)}
      → Tells out o out' (lines_of p (way q (way_in full k v))) i j r a → Tells out o out' (lines p q) i j r (a >>= λ x. done (map (lift full (kind_code k) v) x))
  tells_lift p q full k v tells_refused = tells_refused
  tells_lift p q full k v (tells_done {cs} E) =
      tells_done {cs = map (lift full (kind_code k) v) cs} (rw (length-map cs (lift full (kind_code k) v), lines_lift p q full k v cs) E)

  -- the first of several trees is refused
  pub tells_first : {es : List Statement → List Entry} {fs : List At → List Entry} {n m : ℕ} {e : Refusal} {a : Answer (List Statement)} (b : Answer (List At))
      → Tells out o out' es i j (Err e) a → Tells out o out' fs n m (Err e) (a >>= λ x. b >>= λ y. done (both x y))
  tells_first b tells_refused = tells_refused

-- the first tree, that q₀ leads to, and the others, that q₁ leads to, all at one point
pub tells_both : (q : ℕ → List Entry) (q₀ : List Entry) (q₁ : ℕ → List Entry) → q 0 ≡ q₀ → ((n : ℕ) → q (suc n) ≡ q₁ n)
    → {out out₁ out₂ : List ℕ} {o : Out} {g : Got} {r : Result Got Refusal} {i j n m : ℕ} {a : Answer (List Statement)} {b : Answer (List At)}
    → Tells out o out₁ (lines (point_of o) q₀) i j (Ok g) a → Tells out₁ g.out out₂ (lines_of (point_of g.out) q₁) n m r b
    → Tells out o out₂ (lines_of (point_of o) q) n m r (a >>= λ x. b >>= λ y. done (both x y))
tells_both q q₀ q₁ e d (tells_done E) tells_refused = tells_refused
tells_both q q₀ q₁ e d {o} (tells_done {cs = xs} E) (tells_done {cs = ys} F) =
    let same = ap (λ (p : Point). lines_of (p.op, p.arg) q₁ ys) E.point in
    let puts = puts_then E.puts (rw same at F.puts) in
    tells_done {cs = both xs ys}
    (rw (both_length xs ys, lines_both (point_of o) q q₀ q₁ e d xs ys)
    (record { first = F.first; second = F.second; puts = puts; point = F.point ∙ E.point }))
