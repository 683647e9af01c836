-- The replay of a statement record along a list of target items, as document 01 defines it, and demand 3, which speaks of it.
-- Its state: a block and one tree per local, folded at first. It carries out the entry's statements, then stands at the start
-- block's start. In a block it goes in item order: at use, read, note, switch and return it carries out the point's statements, in
-- record order, then walks the place used, if any, on a copy. A jump takes a target item of the block's ender and does first that
-- target's own unfolding, if any (walk the place read, then downcast to the variant), then the item's statements; it then stands
-- at the start of the block that the item names. After the last jump, or with none, it still goes through its block.
use Rattle.std.specs.Prelude.{◌≡◌, drop, eqb}
use Rattle.std.proofs.Math.Bool.{true, false}
use mathlib.Core.List.{List, [], ◌∷◌}
use Rattle.std.proofs.Math.Option.{Option, none, some}
use Prim.Native.Nat.{ℕ}
use Rattle.model.specs.Words.{word}
use Rattle.model.specs.Answer.{Answer, refused, done, ◌>>=◌}
use Rattle.model.specs.Tree.{Forest, leaves, unfolded}
use Rattle.model.specs.Place.{Spot, At, no_index}
use Rattle.model.specs.Walk.{walk_at, pick, changed, reached, carries_at, cast_at, enum_at}
use Rattle.model.specs.Function.{local_types}
use Rattle.model.specs.Block.{Station, stations, entry_point, targets, matched}
use Rattle.model.specs.Frame.{Line}
use Rattle.model.specs.Body.{Left, variants, choice}
use Rattle.model.specs.Record.{record_length, recorded}
use Rattle.model.specs.Whole.{whole}

-- what is recorded at a point, in order
unfoldable pub at_point : {Stmt : Type 0} → ℕ → List (Line Stmt) → List Stmt
at_point p [] = []
at_point p (l ∷ ls) = elim (eqb l.point p) [ true ↦ l.stmt ∷ at_point p ls | false ↦ at_point p ls ]

-- the block that a target item names
unfoldable pub find : ℕ → List (ℕ × ℕ) → Option ℕ
find i [] = none
find i (t ∷ ts) = elim (eqb t.0 i) [ true ↦ some t.1 | false ↦ find i ts ]

module _ (Γ : List ℕ) where
  -- the place used is walked on a copy
  unfoldable pub look : Option Spot → Forest → Answer Forest
  look none E = done E
  look (some q) E = walk_at Γ q E

  -- the statements at a point, then the place used
  unfoldable pub stand : List At → Option Spot → Forest → Answer Forest
  stand as' u E = carries_at Γ as' E >>= λ D. look u D >>= λ C. done D

  -- through the points of a block; script: the statements at each point
  unfoldable pub through : (ℕ → List At) → List Station → Forest → Answer Forest
  through script [] E = done E
  through script (s ∷ ss) E = stand (script s.point) s.used E >>= λ D. through script ss D

  -- the place used has a walk that isn't refused, changes no tree and ends on a folded node
  pub record Quiet (q : Spot) (E : Forest) : Type 0 where
    pub walks : walk_at Γ q E ≡ done E
    pub unchanged : changed Γ q.place (pick q.local E) ≡ false
    pub folded : unfolded (reached Γ q.place (pick q.local E)) ≡ false

  -- and so does each place used on the way through
  pub data Fine (script : ℕ → List At) : List Station → Forest → Type 0 where
    fine_end : {E : Forest} → Fine script [] E
    fine_on : {s : Station} {ss : List Station} {E D : Forest} → carries_at Γ (script s.point) E ≡ done D
        → ((q : Spot) → s.used ≡ some q → Quiet q D) → Fine script ss D → Fine script (s ∷ ss) E

  -- the variant that the target item i of a match opens, if any
  unfoldable pub opens_at : List ℕ → ℕ → List (ℕ × ℕ) → Left → Answer (Option ℕ)
  opens_at fn i [] ds = done none
  opens_at fn i (t ∷ ts) ds = choice fn t.0 ds >>= λ c. elim (eqb t.0 i) [ true ↦ done c.opens | false ↦ opens_at fn i ts c.remain ]

  unfoldable pub cast_maybe : Spot → Option ℕ → Forest → Answer Forest
  cast_maybe q none E = done E
  cast_maybe q (some v) E = cast_at Γ q v E

  -- a target's own unfolding; nothing where the place read holds an index (F-1)
  unfoldable pub own : List ℕ → ℕ → List (ℕ × ℕ) → Option Spot → Forest → Answer Forest
  own fn i ts none E = done E
  own fn i ts (some q) E = elim (no_index q.place) [
    | true ↦ enum_at Γ q E >>= λ t. opens_at fn i ts (variants Γ t) >>= λ o. cast_maybe q o E
    | false ↦ done E
  ]

module _ (Γ fn words : List ℕ) where
  -- the record's statements at a point
  unfoldable pub script : ℕ → List At
  script p = at_point p (recorded (entry_point fn) words)

  -- from the start of the block b in the state E along the target items: the last block, and the state at its start
  unfoldable pub play : List ℕ → ℕ → Forest → Answer (ℕ × Forest)
  play [] b E = through Γ script (stations fn b) E >>= λ M. done (b, E)
  play (i ∷ is) b E = elim (find i (targets fn b)) [
    | none ↦ refused 0
    | some c ↦ through Γ script (stations fn b) E >>= λ M. own Γ fn i (targets fn b) (matched fn b) M >>= λ C.
        carries_at Γ (script i) C >>= λ D. play is c D
  ]

  unfoldable pub replay : List ℕ → Answer (ℕ × Forest)
  replay is = carries_at Γ (script (entry_point fn)) (leaves (local_types fn)) >>= λ E. play is 0 E

-- DEMAND 3

-- a list of jumps from the block b to the block d: each takes a target item of the block where the last one ended
pub data Jumps (fn : List ℕ) : ℕ → List ℕ → ℕ → Type 0 where
  jumps_end : {b : ℕ} → Jumps fn b [] b
  jumps_on : {b i c d : ℕ} {is : List ℕ} → find i (targets fn b) ≡ some c → Jumps fn c is d → Jumps fn b (i ∷ is) d

-- one claim over all lists of jumps, the empty one too, whichever targets the switches take
pub record Replayed (Γ fn words : List ℕ) : Type 0 where
  -- the replay meets no refusal and comes to the block where the list ends, and each place used there has, at that point, a walk
  -- that isn't refused, changes no tree and ends on a folded node
  pub works : {is : List ℕ} {b : ℕ} → Jumps fn 0 is b → (D : Forest) × (replay Γ fn words is ≡ done (b, D)) × Fine Γ (script Γ fn words) (stations fn b) D
  -- every two lists that end in one block give equal states at its start
  pub agrees : {is js : List ℕ} {b : ℕ} → Jumps fn 0 is b → Jumps fn 0 js b → replay Γ fn words is ≡ replay Γ fn words js

-- for every type record, function record and lent lengths that give a statement record: of that record. (demand, Demand: `demand_3`)
abbrev pub Demand3 : Type 0
Demand3 = (Γ fn : List ℕ) (nforms nwhats nout : ℕ) (c : ℕ × ℕ) → (whole Γ fn nforms nwhats nout).answer ≡ done c
    → Replayed Γ fn (whole Γ fn nforms nwhats nout).out

-- of a whole crate (document 02, F-3): of each function record, and the output from its statement record on, which ends where its own
-- counts say
pub data ReplayedEach (Γ : List ℕ) : List (List ℕ) → List ℕ → Type 0 where
  replayed_none : {out : List ℕ} → ReplayedEach Γ [] out
  replayed_more : {fn : List ℕ} {fns : List (List ℕ)} {out : List ℕ} → Replayed Γ fn out → ReplayedEach Γ fns (drop (record_length (word out 1)) out)
      → ReplayedEach Γ (fn ∷ fns) out
