-- What the numbers beside a statement record say (document 02, F-4). They are read beside its statements, and spoken of where the replay
-- stands: "an unfold's number" is that of the walk there.
use Rattle.std.specs.Prelude.{◌≡◌, Bool, true, false, ◌||◌, ℕ, suc, ◌<◌, length, take, replicate, eqb, ltb}
use mathlib.Core.List.{List, [], ◌∷◌, ◌++◌, map}
use Rattle.std.proofs.Math.Option.{some}
use Rattle.model.specs.Answer.{done}
use Rattle.model.specs.Tree.{Tree, Forest, leaves, unfolded}
use Rattle.model.specs.Place.{Place, Spot, Verb, Fold, Unfold, dash, At, walked, base}
use Rattle.model.specs.Walk.{pick, changed, reached, carries_at}
use Rattle.model.specs.Function.{local_types}
use Rattle.model.specs.Block.{Station, stations, entry_point, entry_uses}
use Rattle.model.specs.Frame.{Line}
use Rattle.model.specs.Record.{recorded}
use Rattle.model.specs.Whole.{whole_told}
use Rattle.model.specs.Replay.{at_point, Jumps, replay}

-- a walk along p from the tree s had passed n elements before the step that first changed a tree
pub record Began (Γ : List ℕ) (p : Place) (s : Tree) (n : ℕ) : Type 0 where
  pub short : n < length (walked p)
  -- the walk along the first n elements changes nothing, and ends on a folded node
  pub quiet : changed Γ (take n p) s ≡ false
  pub folded : unfolded (reached Γ (take n p) s) ≡ false
  -- one more opens it
  pub opens : changed Γ (take (suc n) p) s ≡ true

-- a number is at most 127, since a place used has at most 128 elements; or it is the dash
abbrev pub number_ok : ℕ → Bool
number_ok n = ltb n 128 || eqb n dash

-- a statement from a use of the place q
abbrev pub of_use : Spot → Verb → Place → ℕ → At
of_use q w p n = record { number = q.local; what = record { verb = w; place = p; told = n } }

-- A LINE'S NUMBER, in the array beside the record
abbrev pub tell : ℕ → Line At → Line At
tell n l = record { point = l.point; stmt = record { number = l.stmt.number; what = record { verb = l.stmt.what.verb; place = l.stmt.what.place; told = n } } }

unfoldable pub told_lines : List (Line At) → List ℕ → List (Line At)
told_lines [] ns = []
told_lines (l ∷ ls) [] = []
told_lines (l ∷ ls) (n ∷ ns) = tell n l ∷ told_lines ls ns

module _ (Γ : List ℕ) where
  -- what a use of q in the state E records: nothing, a fold, or an unfold whose number says where the opening began
  pub data Tells (q : Spot) (E : Forest) : List At → Type 0 where
    tells_nothing : Tells q E []
    tells_fold : Tells q E (of_use q Fold q.place 0 ∷ [])
    tells_unfold : {n : ℕ} → Began Γ q.place (pick q.local E) n → Tells q E (of_use q Unfold (base q.place) n ∷ [])

  -- and so does each place used on the way through a block, from the state E
  pub data TellsEach (script : ℕ → List At) : List Station → Forest → Type 0 where
    tells_end : {E : Forest} → TellsEach script [] E
    tells_on : {s : Station} {ss : List Station} {E D : Forest} → carries_at Γ (script s.point) E ≡ done D
        → ((q : Spot) → s.used ≡ some q → Tells q E (script s.point)) → TellsEach script ss D → TellsEach script (s ∷ ss) E

  -- and each used at the entry; what stands behind them is collected
  pub data TellsEntry : List Spot → Forest → List At → Type 0 where
    entry_end : {E : Forest} {ts : List At} → map (λ a. a.what.told) ts ≡ replicate (length ts) dash → TellsEntry [] E ts
    entry_on : {q : Spot} {qs : List Spot} {E D : Forest} {ts us : List At} → carries_at Γ ts E ≡ done D
        → Tells q E ts → TellsEntry qs D us → TellsEntry (q ∷ qs) E (ts ++ us)

-- the record's statements at a point, with their numbers
unfoldable pub told_script : List ℕ → List ℕ → List ℕ → ℕ → List At
told_script fn words told p = at_point p (told_lines (recorded (entry_point fn) words) told)

-- of every unfold from a use, along every list of jumps
pub record Numbered (Γ fn words told : List ℕ) : Type 0 where
  pub entry : TellsEntry Γ (entry_uses fn) (leaves (local_types fn)) (told_script fn words told (entry_point fn))
  pub uses : {is : List ℕ} {b : ℕ} {D : Forest} → Jumps fn 0 is b → replay Γ fn words is ≡ done (b, D) → TellsEach Γ (told_script fn words told) (stations fn b) D

-- for every type record, function record and lent lengths that give a statement record. (demand, Told: `numbers_right`)
abbrev pub NumbersRight : Type 0
NumbersRight = (Γ fn : List ℕ) (nforms nwhats nout ntold : ℕ) (c : ℕ × ℕ) → let r = whole_told Γ fn nforms nwhats nout ntold in
    r.result.answer ≡ done c → Numbered Γ fn r.result.out r.told
