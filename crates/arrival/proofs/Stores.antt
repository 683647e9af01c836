-- What an arrival leaves of the arrays is what model's arrival leaves of its memory: in the first pass `first_takes` and
-- `taken_remembers`, in the second `second_owes`, `second_none` and `marked_remembers`.
use mathlib.Core.Path.{◌≡◌, refl, sym, ap, ◌∙◌}
use mathlib.Core.Bool.{Bool, true, false, not, cond}
use mathlib.Core.List.{List, ◌++◌}
use mathlib.Core.Option.{Option, none, some}
use mathlib.Core.Logic.{◌≢◌}
use Prim.Native.Nat.{ℕ, suc, ◌+◌, ◌≤◌, ◌<◌}
use native.Mathlib.Omega.{arith}
use native.Mathlib.Decide.{ℕ_discrete}
use lib.ListN.{length, set, length-set}
use lib.Seq.{get_or-set_other}
use lib.Dec.{eqb, leb}
use borrow.Author.Tests.{ne_eqb}
use Rattle.model.specs.Words.{word}
use Rattle.model.specs.Answer.{refused, done, ◌>>=◌}
use Rattle.model.specs.Tree.{Forest, sizes, joins, flagss}
use Rattle.model.specs.State.{most}
use Rattle.model.specs.Place.{At}
use Rattle.model.specs.Collect.{collects}
use Rattle.model.specs.Typing.{Fits}
use Rattle.model.specs.Function.{nblocks, local_types}
use Rattle.model.specs.Block.{is_join_point, join_points}
use Rattle.model.specs.Frame.{Exit, mark}
use Rattle.model.specs.Rounds.{put, elem}
use Rattle.model.specs.Passes.{arrive, merge, arrive_at, reconcile, arrived}
use Rattle.model.specs.Body.{frame}
use Rattle.base.specs.Tests.{split, split_option, clash}
use Rattle.base.specs.Answer.{bind_bind}
use Rattle.solver.specs.Lists.{put_same, put_other}
use Rattle.blocks.specs.Points.{share_number}
use Rattle.laws.specs.Flags.{flags1_joins}
use Rattle.arrival.specs.Memory.{Memory, arrives}
use Rattle.arrival.specs.Shares.{Saved, waits_in, arrays, Remembers}
use Rattle.arrival.specs.Arrivals.{takes, Took}
use Rattle.arrival.proofs.Shelves.{share_most, share_apart, base, lent_of, lent_share, shelved, shelved_length, shelved_same, shelved_other, shelved_rest}

-- CHANGES AT ONE NUMBER

-- an entry that may be written, and its list's length
length_written : (b : Bool) (l : List ℕ) (i v : ℕ) → length (cond b (set l i v) l) ≡ length l
length_written true l i v = length-set l i v
length_written false l i v = refl

-- the other entries
word_written : (b : Bool) (l : List ℕ) (i v j : ℕ) → j ≢ i → word (cond b (set l i v) l) j ≡ word l j
word_written true l i v j d = get_or-set_other l i j v 0 d
word_written false l i v j d = refl

-- a block that may be put in a set, and in another, looked at where they are the same
put_alike : (b : Bool) (f g : ℕ → Bool) (c x : ℕ) → f x ≡ g x → cond b (put f c true) f x ≡ cond b (put g c true) g x
unfolding put
put_alike true f g c x h = ap (cond (eqb c x) true) h
put_alike false f g c x h = h

-- a choice the other way round
pub unless : {A : Type 0} (b : Bool) (x y : A) → cond (not b) x y ≡ cond b y x
unless true x y = refl
unless false x y = refl

-- what is stored at c, if an arrival changes it or left it so
kept_same : (b : Bool) (f : ℕ → Option Forest) (c : ℕ) (E : Forest) → (b ≡ false → f c ≡ some E) → cond b (put f c (some E)) f c ≡ some E
kept_same true f c E h = put_same f c (some E)
kept_same false f c E h = h refl

-- and elsewhere
kept_other : {A : Type 0} (b : Bool) (f : ℕ → A) (c : ℕ) (a : A) (x : ℕ) → x ≢ c → cond b (put f c a) f x ≡ f x
kept_other true f c a x d = put_other f c a x (ne_eqb c x (λ e. d (sym e)))
kept_other false f c a x d = refl

-- IN MODEL'S MEMORY

-- the state w .0 arrived at c, and changed what is stored there if w.1
abbrev pub taken : ℕ → Forest × Bool → Memory → Memory
taken c w m = record {
  kept = cond w.1 (put m.kept c (some w.0)) m.kept;
  waits = cond w.1 (put m.waits c true) m.waits;
  visited = m.visited;
  lines = m.lines;
}

-- the statements ts are recorded by the exit x
abbrev pub marked : Exit Forest → List At → Memory → Memory
marked x ts m = record {
  kept = m.kept;
  waits = cond (elem x.block m.visited) m.waits (put m.waits x.block true);
  visited = m.visited;
  lines = m.lines ++ mark x.item ts;
}

module _ (Γ fn : List ℕ) (x : Exit Forest) (m : Memory) where
  -- an arrival in the first pass
  pub first_takes : arrives Γ fn false x m ≡ takes Γ (m.kept x.block) x.state >>= λ w. done (taken x.block w m)
  unfolding arrive merge takes frame
  first_takes = split_option (m.kept x.block)
      (λ e. rw (e, arrive) refl)
      (λ S e. rw (e, arrive) (split (leb (sizes (joins Γ false S x.state)) most)
      (λ r. split (flagss Γ false S x.state).0 (λ f. cc) (λ f. cc))
      (λ r. cc)))

  -- and in the second, where S is stored
  pub second_owes : {S : Forest} → m.kept x.block ≡ some S → arrives Γ fn true x m ≡ collects Γ x.state S >>= λ ts. done (marked x ts m)
  unfolding arrive_at reconcile arrived frame
  second_owes {S} e = rw (e, arrive_at) (bind_bind (collects Γ x.state S) _ _)

  -- or nothing is
  pub second_none : m.kept x.block ≡ none → arrives Γ fn true x m ≡ refused 0
  unfolding arrive_at frame
  second_none e = rw (e, arrive_at) refl

-- THE FIRST PASS

-- a state that is stored is one of the local types
pub saved_typed : (Γ ts fs ws : List ℕ) (k : ℕ) (o : Option Forest) → Saved Γ ts fs ws k o → (S : Forest) → o ≡ some S → Fits Γ ts S
saved_typed Γ ts fs ws k none h S e = clash (cc)
saved_typed Γ ts fs ws k (some T) h S e = let z : T ≡ S = cc in rw z at h.valid.fits

-- an arrival that changes nothing leaves what was stored
pub takes_same : {Γ ts : List ℕ} (o : Option Forest) {E : Forest} {w : Forest × Bool} → ((S : Forest) → o ≡ some S → Fits Γ ts S) → Fits Γ ts E
    → takes Γ o E ≡ done w → w.1 ≡ false → o ≡ some w.0
unfolding takes
takes_same none {E} {w} h f e d = let z : (E, true) ≡ w = cc in clash (cc)
takes_same {Γ} (some S) {E} {w} h f e d = split (leb (sizes (joins Γ false S E)) most)
    (λ r.
    let z : (joins Γ false S E, (flagss Γ false S E).0) ≡ w = cc in
    let q : (flagss Γ false S E).0 ≡ false = cc in
    cc (flags1_joins false (h S refl) f q))
    (λ r. clash (cc))

module _ {Γ fn : List ℕ} {m : Memory} {kept visited waits forms whats : List ℕ} (R : Remembers Γ fn m (arrays kept visited waits forms whats))
    {c : ℕ} (l : c < nblocks fn) (j : is_join_point fn c ≡ true) (few : nblocks fn ≤ 256) where
  -- the share of c lies in the store
  pub share_inside : (base (share_number fn c) + 512 ≤ length forms) × (base (share_number fn c) + 512 ≤ length whats)
  share_inside = let s = share_most fn c l j in (omega (arith, s.0, s.1, R.long.forms), omega (arith, s.0, s.1, R.long.whats))

  -- and is lent so
  pub lent_saved : {p : ℕ} → p ≡ share_number fn c → Saved Γ (local_types fn) (lent_of forms p) (lent_of whats p) (word kept c) (m.kept c)
  lent_saved {p} e = rw (lent_share forms p, lent_share whats p, e) (R.saved c l j)

  -- after an arrival in the first pass
  pub taken_remembers : {w : Forest × Bool} {fs ws kept' waits' : List ℕ} → (w.1 ≡ false → m.kept c ≡ some w.0) → length waits' ≡ length waits
      → length fs ≡ length (lent_of forms (share_number fn c)) → length ws ≡ length (lent_of whats (share_number fn c))
      → Took Γ (local_types fn) c kept (waits_in fn waits) w fs ws kept' (waits_in fn waits')
      → Remembers Γ fn (taken c w m) (arrays kept' visited waits' (shelved forms (share_number fn c) fs) (shelved whats (share_number fn c) ws))
  taken_remembers {w} {fs} {ws} {kept'} {waits'} same long p q T =
      let L = R.long in
      let S = share_inside in
      let N = share_most fn c l j in
      record {
        long = record {
          kept = rw T.count (length_written w.1 kept c _ ∙ L.kept);
          visited = L.visited;
          waits = long ∙ L.waits;
          forms = rw (shelved_length forms fs (share_number fn c) S.0 p) L.forms;
          whats = rw (shelved_length whats ws (share_number fn c) S.1 q) L.whats;
        };
        saved = λ b k e. elim (ℕ_discrete b c) [
          | yes d ↦ rw (d, shelved_same forms fs (share_number fn c) S.0 p, shelved_same whats ws (share_number fn c) S.1 q, kept_same w.1 m.kept c w.0 same) T.full
          | no d ↦
              let n = share_apart fn b c e j d in
              let r = (share_most fn b k e).0 in
              rw (shelved_other forms fs (share_number fn c) S.0 p (share_number fn b) N.0 r n, shelved_other whats ws (share_number fn c) S.1 q (share_number fn b) N.0 r n, T.count, word_written w.1 kept c (suc (sizes w.0)) b d, kept_other w.1 m.kept c (some w.0) b d)
              (R.saved b k e)
        ];
        unsaved = λ b e. kept_other w.1 m.kept c (some w.0) b (λ d. clash (cc)) ∙ R.unsaved b e;
        waits = λ b k. put_alike w.1 m.waits (waits_in fn waits) c b (R.waits b k) ∙ sym (ap (λ (f : ℕ → Bool). f b) T.waiting);
        visited = R.visited;
        forms_rest = rw (shelved_length forms fs (share_number fn c) S.0 p, shelved_rest forms fs (share_number fn c) S.0 p (join_points fn) N.0 N.1) R.forms_rest;
        whats_rest = rw (shelved_length whats ws (share_number fn c) S.1 q, shelved_rest whats ws (share_number fn c) S.1 q (join_points fn) N.0 N.1) R.whats_rest;
      }

  -- and in the second
  pub marked_remembers : (x : Exit Forest) (ts : List At) {waits' : List ℕ} → x.block ≡ c → length waits' ≡ length waits
      → waits_in fn waits' ≡ cond (eqb (word visited c) 0) (put (waits_in fn waits) c true) (waits_in fn waits)
      → Remembers Γ fn (marked x ts m) (arrays kept visited waits' forms whats)
  marked_remembers x ts {waits'} d long e =
      let L = R.long in
      record {
        long = record {
          kept = L.kept;
          visited = L.visited;
          waits = long ∙ L.waits;
          forms = L.forms;
          whats = L.whats;
        };
        saved = R.saved;
        unsaved = R.unsaved;
        waits = λ b k. rw (d, R.visited c l, unless (eqb (word visited c) 0)) (put_alike (eqb (word visited c) 0) m.waits (waits_in fn waits) c b (R.waits b k) ∙ sym (ap (λ (f : ℕ → Bool). f b) e));
        visited = R.visited;
        forms_rest = R.forms_rest;
        whats_rest = R.whats_rest;
      }
