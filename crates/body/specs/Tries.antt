-- What the functions ensure that try the arms of a match: the variants left, as an array marks the others; an arm; the otherwise
-- target.
use Rattle.std.specs.Prelude.{◌≡◌, List, ℕ, ◌<◌, length, eqb, Option, Some, Result, Ok, Err}
use Rattle.std.proofs.Math.Option.{none, some}
use Rattle.model.specs.Words.{word, collect_from}
use Rattle.model.specs.Answer.{Answer, refused, done}
use Rattle.model.specs.Types.{count, discriminant}
use Rattle.model.specs.Tree.{Forest}
use Rattle.model.specs.Walk.{downcasting, subject_at}
use Rattle.model.specs.Block.{spot_before, arm_value}
use Rattle.model.specs.Body.{Left, variants, variant_of, without, only, open_variant}
use Rattle.state.specs.declared.nodes.State.{State}
use Rattle.blocks.specs.Points.{matched_read}
use Rattle.env.specs.Answers.{granted}
use Rattle.refusal.specs.Refusal.{number, answered}
use Rattle.refusal.specs.declared.Refusal.{Refusal}
use Rattle.body.specs.declared.arms.Subject.{Subject}
use Rattle.body.specs.declared.arms.Rest.{Rest}
use Rattle.body.specs.declared.arms.Match.{Match}
use Rattle.state.specs.Given.{InEach}
use Rattle.body.specs.Arms.{rest}

-- the match on m whose arms leave the variants w
abbrev pub with_rest : Subject → Rest → Match
with_rest m w = record { on = m; rest = w }

-- its plan, if it is not refused
abbrev pub match_on : Subject → Result Rest Refusal → Result (Option Match) Refusal
match_on m (Ok w) = Ok (Some (with_rest m w))
match_on m (Err e) = Err e

-- the variants of the enum t that are not taken
unfoldable pub free : List ℕ → ℕ → List ℕ → Left
free Γ t taken = collect_from (λ v. eqb (word taken v) 0) (λ v. (discriminant Γ t v, v)) (count Γ t) 0

-- r says which variant is left, if it is one
pub record Rested (Γ : List ℕ) (t : ℕ) (taken : List ℕ) (r : Rest) : Type 0 where
  pub is : rest r ≡ only (free Γ t taken)

module _ (Γ fn : List ℕ) where
  -- A VARIANT

  -- r says whether the variant v of the place read is refused, in each state of s
  abbrev pub Tests : ℕ → ℕ → State → Result (Unit {0}) Refusal → Type 0
  Tests read v s r = InEach Γ fn s (λ E. answered r ≡ granted (downcasting Γ (spot_before fn read) v E))

  -- AN ARM

  -- an arm of the value x, where ds are left: 8 if its variant is not
  unfoldable pub arm : ℕ → ℕ → Left → Forest → Answer Forest
  arm read x ds E = elim (variant_of x ds) [ none ↦ refused 8 | some v ↦ downcasting Γ (spot_before fn read) v E ]

  -- the target item i has an arm that opens its variant of E, and takes it
  pub record Taken (m : Subject) (i : ℕ) (E : Forest) (taken taken' : List ℕ) : Type 0 where
    pub variant : ℕ
    pub known : variant_of (arm_value fn i) (variants Γ m.typ) ≡ some variant
    pub left : variant_of (arm_value fn i) (free Γ m.typ taken) ≡ some variant
    pub state : Forest
    pub opens : downcasting Γ (spot_before fn m.read) variant E ≡ done state
    pub remain : free Γ m.typ taken' ≡ without (arm_value fn i) (free Γ m.typ taken)

  -- the arm of the target item i was tried
  pub record Tried (m : Subject) (i : ℕ) (E : Forest) (taken taken' : List ℕ) (r : Result (Unit {0}) Refusal) : Type 0 where
    pub denied : (e : Refusal) → r ≡ Err e → arm m.read (arm_value fn i) (free Γ m.typ taken) E ≡ refused (number e)
    pub fine : r ≡ Ok tt → Taken m i E taken taken'

  -- in each state of s
  abbrev pub Tries : Subject → ℕ → State → List ℕ → List ℕ → Result (Unit {0}) Refusal → Type 0
  Tries m i s taken taken' r = InEach Γ fn s (λ E. Tried m i E taken taken' r)

  -- THE OTHERWISE TARGET

  -- it opens the variant that is left, if it is one
  abbrev pub last_open : Subject → List ℕ → Forest → Answer Forest
  last_open m taken E = open_variant Γ fn (spot_before fn m.read) (only (free Γ m.typ taken)) E

  -- it was tried: r says which variant is left, if it is one
  pub record Ended (m : Subject) (E : Forest) (taken : List ℕ) (r : Result Rest Refusal) : Type 0 where
    pub denied : (n : ℕ) → last_open m taken E ≡ refused n → answered r ≡ refused n
    pub fine : (D : Forest) → last_open m taken E ≡ done D → (w : Rest) × (r ≡ Ok w) × (rest w ≡ only (free Γ m.typ taken))

  -- in each state of s
  abbrev pub Ends : Subject → State → List ℕ → Result Rest Refusal → Type 0
  Ends m s taken r = InEach Γ fn s (λ E. Ended m E taken r)

-- the block b matches on this place, which is of this enum in each state of s
pub record Matching (Γ fn : List ℕ) (b : ℕ) (m : Subject) (s : State) : Type 0 where
  pub is : matched_read fn b ≡ some m.read
  pub enum : InEach Γ fn s (λ E. subject_at Γ (spot_before fn m.read) E ≡ done (some m.typ))

-- no variant is taken yet
pub record Blank (taken : List ℕ) : Type 0 where
  pub long : length taken ≡ 16384
  pub zero : (v : ℕ) → v < 16384 → word taken v ≡ 0
