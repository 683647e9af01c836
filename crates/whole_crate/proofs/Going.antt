-- The functions one after another: where a loop over the records stands, one step, and its end.
use mathlib.Core.Path.{◌≡◌, refl, sym, ap, ap₂, ◌∙◌}
use mathlib.Core.List.{List, [], ◌∷◌, ◌++◌, append_assoc}
use Prim.Native.Nat.{ℕ, suc, ◌+◌, ◌-◌, ◌*◌, ◌≤◌}
use Rattle.std.specs.Prelude.{Result, Ok, Err}
use native.Mathlib.Omega.{arith}
use lib.ListN.{length, take, drop, replicate, length-append, length-replicate, length-drop, take-append-drop}
use lib.Seq.{take_at, drop_at}
use Rattle.model.specs.Answer.{Answer, refused, done}
use Rattle.model.specs.Tree.{Forest}
use Rattle.model.specs.Place.{At}
use Rattle.model.specs.Passes.{Found}
use Rattle.model.specs.Block.{entry_point}
use Rattle.model.specs.Record.{record_length, statement_record, lent}
use Rattle.model.specs.Whole.{Result as Called, accepted, denied, result, found, whole}
use Rattle.model.specs.Crate.{records, spare, stopped_at, calls, from_first}
use Rattle.base.specs.Tests.{clash}
use Rattle.records.specs.Recorded.{length_record}
use Rattle.demand.specs.Whole.{whole_leaves}
use Rattle.demand.specs.Crates.{front_record}
use Rattle.mir.specs.Framed.{Framed}
use Rattle.fold_unfold.specs.Answers.{answer_of}
use Rattle.refusal.specs.declared.Refusal.{Refusal}
use Rattle.statements.specs.declared.Counts.{Counts}
use Rattle.whole_crate.specs.Called.{BlankFrom, Alone, Leaves}

-- THE RECORDS

-- one record less
pub spare_next : (words : List ℕ) (at r n m : ℕ) → n ≡ suc m → Framed words at r → spare n (drop at words) ≡ spare m (drop r words)
unfolding spare
spare_next words at r n m e F = rw e (ap (spare m) (sym F.rest))

-- none is left
pub spare_none : (words : List ℕ) (at m : ℕ) {l : List ℕ} → m ≡ 0 → l ≡ spare m (drop at words) → drop at words ≡ l
unfolding spare
spare_none words at m z e = sym (rw z at e)

records_next : (words : List ℕ) (at r n m : ℕ) → n ≡ suc m → Framed words at r → records n (drop at words) ≡ take (r - at) (drop at words) ∷ records m (drop r words)
unfolding records
records_next words at r n m e F = rw (e, F.first, F.rest) refl

-- A REFUSED FUNCTION

-- leaves zeros in the store
result_zero : (Γ fn : List ℕ) (nforms nwhats nout : ℕ) (a : Answer (Found Forest At)) {n : ℕ} → (result Γ fn nforms nwhats nout a).answer ≡ refused n
    → ((result Γ fn nforms nwhats nout a).forms ≡ replicate nforms 0) × ((result Γ fn nforms nwhats nout a).whats ≡ replicate nwhats 0)
unfolding result accepted denied
result_zero Γ fn nforms nwhats nout (refused k) e = (refl, refl)
result_zero Γ fn nforms nwhats nout (done f) e = clash (cc)

whole_zero : (Γ fn : List ℕ) (nforms nwhats nout : ℕ) {n : ℕ} → (whole Γ fn nforms nwhats nout).answer ≡ refused n
    → ((whole Γ fn nforms nwhats nout).forms ≡ replicate nforms 0) × ((whole Γ fn nforms nwhats nout).whats ≡ replicate nwhats 0)
unfolding whole
whole_zero Γ fn nforms nwhats nout e = result_zero Γ fn nforms nwhats nout (found Γ fn nforms nwhats nout) e

-- THE LOOP

module _ (Γ words : List ℕ) (nforms nwhats nout n : ℕ) where
  -- k functions are accepted; their statement records are the first `used` words; the others' begin at word `at`
  pub record Going (fs ws out : List ℕ) (at used k : ℕ) : Type 0 where
    pub within : at ≤ length words
    pub same_forms : length fs ≡ nforms
    pub same_whats : length ws ≡ nwhats
    pub front : List ℕ
    pub long : length front ≡ used
    pub room : used ≤ nout
    pub stands : out ≡ lent nout front
    pub goes : from_first Γ nforms nwhats nout (records n (drop 1 words)) ≡ calls Γ nforms nwhats nout (suc k) front fs ws (records (n - k) (drop at words))

  -- before the first
  pub going_first : (fs ws out : List ℕ) → 1 ≤ length words → fs ≡ replicate nforms 0 → ws ≡ replicate nwhats 0 → out ≡ replicate nout 0
      → length fs ≡ nforms → length ws ≡ nwhats → Going fs ws out 1 0 0
  unfolding from_first lent
  going_first fs ws out h zf zw zo lf lw = record {
    within = h;
    same_forms = lf;
    same_whats = lw;
    front = [];
    long = refl;
    room = omega arith;
    stands = let y : nout ≡ nout - 0 = omega arith in zo ∙ ap (λ (x : ℕ). replicate x 0) y;
    goes = let z : n - 0 ≡ n = omega arith in rw (z, zf, zw) refl;
  }

  -- zeros behind the statement records
  pub going_blank : {fs ws out : List ℕ} {at used k : ℕ} → Going fs ws out at used k → BlankFrom out used
  unfolding lent
  going_blank {out = out} {used = used} G =
      let z : drop used out ≡ replicate (nout - length G.front) 0 = ap (drop used) G.stands ∙ drop_at G.front _ used G.long in
      let w : length out ≡ nout = ap length G.stands ∙ rw (length-append, length-replicate) (omega (arith, G.long, G.room)) in
      let y : length (drop used out) ≡ nout - length G.front = ap length z ∙ length-replicate _ 0 in
      record { within = omega (arith, w, G.room); blank = z ∙ ap (λ (x : ℕ). replicate x 0) (sym y) }

  -- behind the last
  pub going_last : {fs ws out : List ℕ} {at used k : ℕ} → Going fs ws out at used k → n ≤ k → Leaves (from_first Γ nforms nwhats nout (records n (drop 1 words))) fs ws out (Ok tt)
  unfolding calls records
  going_last {k = k} G h =
      let z : n - k ≡ 0 = omega arith in
      let e = rw (z, calls, records) at G.goes in
      record { answer = rw e refl; forms = rw e refl; whats = rw e refl; records_are = rw e G.stands }

  module _ {fs ws out : List ℕ} {at used k : ℕ} (G : Going fs ws out at used k) (m : ℕ) (z : n - k ≡ suc m) {end : ℕ} (F : Framed words at end)
      {fs' ws' out' : List ℕ} {g : Result Counts Refusal} (A : Alone Γ (take (end - at) (drop at words)) fs ws out used fs' ws' out' g) (lf : length fs' ≡ length fs) (lw : length ws' ≡ length ws) where
    abbrev fn : List ℕ
    fn = take (end - at) (drop at words)

    -- how many words there are
    same_out : length out ≡ nout
    unfolding lent
    same_out = ap length G.stands ∙ rw (length-append, length-replicate) (omega (arith, G.long, G.room))

    left : length (drop used out) ≡ nout - length G.front
    left = length-drop used out ∙ rw (same_out, G.long) refl

    -- the function is next
    next : from_first Γ nforms nwhats nout (records n (drop 1 words)) ≡ calls Γ nforms nwhats nout (suc k) G.front fs ws (fn ∷ records m (drop end words))
    next = G.goes ∙ ap (calls Γ nforms nwhats nout (suc k) G.front fs ws) (records_next words at end (n - k) m z F)

    -- model's call of it
    abbrev R : Called
    R = whole Γ fn nforms nwhats (nout - length G.front)

    told : answer_of g ≡ R.answer
    told = rw (G.same_forms, G.same_whats, left) at A.whole.answer

    its_forms : fs' ≡ R.forms
    its_forms = rw (G.same_forms, G.same_whats, left) at A.whole.forms

    its_whats : ws' ≡ R.whats
    its_whats = rw (G.same_forms, G.same_whats, left) at A.whole.whats

    its_record : drop used out' ≡ R.out
    its_record = rw (G.same_forms, G.same_whats, left) at A.whole.record_is

    -- it is refused
    pub going_stops : {k' : Refusal} → g ≡ Err k' → {out'' : List ℕ} → out'' ≡ replicate nout 0
        → Leaves (from_first Γ nforms nwhats nout (records n (drop 1 words))) fs' ws' out'' (Err (record { refusal = k'; position = k + 1 }))
    unfolding calls stopped_at
    going_stops {k'} e zo =
        let q = sym told ∙ ap answer_of e in
        let (zf, zw) = whole_zero Γ fn nforms nwhats (nout - length G.front) q in
        let d = rw (q, calls) at next in
        let w : k + 1 ≡ suc k = omega arith in
        record { answer = rw (d, w) refl; forms = rw d (its_forms ∙ zf); whats = rw d (its_whats ∙ zw); records_are = rw d zo }

    -- it is accepted
    module _ {h : Counts} (d : g ≡ Ok h) where
      -- with so many entries
      accepts : R.answer ≡ done (h.statements, h.entries)
      accepts = sym told ∙ ap answer_of d

      -- its record fits
      pub going_room : used + (2 + 2 * h.entries) ≤ nout
      going_room =
          let L = whole_leaves Γ fn nforms nwhats (nout - length G.front) accepts in
          omega (arith, L.room, L.counted, length_record (entry_point fn) L.lines, G.long, G.room)

      -- the functions that are left
      left_by : {m' j : ℕ} (front : List ℕ) → m' ≡ m → j ≡ suc k
          → from_first Γ nforms nwhats nout (records n (drop 1 words)) ≡ calls Γ nforms nwhats nout (suc (suc k)) front R.forms R.whats (records m (drop end words))
          → from_first Γ nforms nwhats nout (records n (drop 1 words)) ≡ calls Γ nforms nwhats nout (suc j) front fs' ws' (records m' (drop end words))
      left_by front y w e = rw (y, w, its_forms, its_whats) e

      -- and stands behind the others
      pub going_on : Going fs' ws' out' end (used + (2 + 2 * h.entries)) (k + 1)
      unfolding calls lent
      going_on =
          let L = whole_leaves Γ fn nforms nwhats (nout - length G.front) accepts in
          let rec = statement_record (entry_point fn) L.lines in
          let t : take (record_length h.entries) R.out ≡ rec = front_record Γ fn nforms nwhats (nout - length G.front) L in
          let long : length (G.front ++ rec) ≡ used + (2 + 2 * h.entries) = length-append G.front rec ∙ omega (arith, L.counted, length_record (entry_point fn) L.lines, G.long) in
          let kept : take used out' ≡ G.front = A.kept ∙ ap (take used) G.stands ∙ take_at G.front _ used G.long in
          let behind : drop used out' ≡ rec ++ replicate (nout - length G.front - length rec) 0 = its_record ∙ L.written in
          let zeros : nout - length G.front - length rec ≡ nout - length (G.front ++ rec) = omega (arith, length-append G.front rec) in
          let y : n - (k + 1) ≡ m = omega arith in
          let w : k + 1 ≡ suc k = omega arith in
          record {
            within = F.within;
            same_forms = lf ∙ G.same_forms;
            same_whats = lw ∙ G.same_whats;
            front = G.front ++ rec;
            long = long;
            room = going_room;
            stands = sym (take-append-drop used out') ∙ ap₂ (λ (x w : List ℕ). x ++ w) kept behind ∙ sym (append_assoc G.front rec _)
                ∙ ap (λ (x : ℕ). (G.front ++ rec) ++ replicate x 0) zeros;
            goes = left_by (G.front ++ rec) y w (rw (accepts, calls, t) at next);
          }
