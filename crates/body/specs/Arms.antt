-- How a block's targets open the state: the code's plan of a match, as model's exits.
use Rattle.std.specs.Prelude.{◌≡◌, true, false, List, ℕ, ◌<◌, eqb, Option, Some, None, Result, Ok, Err}
use Rattle.std.proofs.Math.Option as Math
use Rattle.std.proofs.Math.Option.{none, some}
use Rattle.model.specs.Answer.{Answer, refused, done}
use Rattle.model.specs.Types.{ntypes, kind}
use Rattle.model.specs.Tree.{Forest}
use Rattle.model.specs.Function.{nitems, local_types}
use Rattle.model.specs.Walk.{downcasting}
use Rattle.model.specs.Block.{spot_before, uses_place, matched, targets, is_arm, arm_value}
use Rattle.model.specs.Frame.{Exit}
use Rattle.model.specs.Body.{variants, variant_of, open_variant, exits_of}
use Rattle.base.specs.Each.{Each}
use Rattle.records.specs.Here.{Holds}
use Rattle.refusal.specs.Refusal.{number, answered}
use Rattle.refusal.specs.declared.Refusal.{Refusal}
use Rattle.state.specs.Value.{value}
use Rattle.state.specs.declared.nodes.State.{State}
use Rattle.body.specs.declared.arms.Subject.{Subject}
use Rattle.body.specs.declared.arms.Rest.{Rest}
use Rattle.body.specs.declared.arms.Match.{Match}
use Rattle.state.specs.Given.{InEach}

-- the variant that is left, if it is one
unfoldable pub rest : Rest → Math.Option ℕ
rest w = elim (eqb w.left 1) [ true ↦ some w.other | false ↦ none ]

module _ (Γ fn : List ℕ) where
  -- the variant that the target item i opens by a match on the enum t: an arm that of its value, the otherwise target the one
  -- that is left, if it is one
  unfoldable pub opens : ℕ → Rest → ℕ → Math.Option ℕ
  opens t w i = elim (is_arm fn i) [ true ↦ variant_of (arm_value fn i) (variants Γ t) | false ↦ rest w ]

  -- the state E as the target item i leaves it
  abbrev pub leaves_by : Option Match → ℕ → Forest → Answer Forest
  leaves_by None i E = done E
  leaves_by (Some m) i E = open_variant Γ fn (spot_before fn m.on.read) (opens m.on.typ m.rest i) E

  -- a match is on the place of a read, and of an enum
  pub record Sought (m : Subject) : Type 0 where
    pub item : m.read < nitems fn
    pub used : uses_place fn m.read ≡ true
    pub known : m.typ < ntypes Γ
    pub enum : kind Γ m.typ ≡ 7

  abbrev pub Sound : Option Match → Type 0
  Sound None = Unit {0}
  Sound (Some m) = Sought m.on

  -- each of these exits leaves as the plan says
  abbrev pub Chosen : Option Match → Forest → List (Exit Forest) → Type 0
  Chosen p E xs = Each (λ x. leaves_by p x.item E ≡ done x.state) xs

  -- r is the plan of block b, in the state E that its items leave
  pub record Planned (b : ℕ) (E : Forest) (r : Result (Option Match) Refusal) : Type 0 where
    pub denied : (n : ℕ) → exits_of Γ fn (matched fn b) (targets fn b) E ≡ refused n → answered r ≡ refused n
    -- refused only where model refuses
    pub refuses : (e : Refusal) → r ≡ Err e → exits_of Γ fn (matched fn b) (targets fn b) E ≡ refused (number e)
    -- a block without a match has none
    pub plain : matched fn b ≡ none → r ≡ Ok None
    pub sound : (p : Option Match) → r ≡ Ok p → Sound p
    pub chosen : (p : Option Match) (xs : List (Exit Forest)) → r ≡ Ok p → exits_of Γ fn (matched fn b) (targets fn b) E ≡ done xs → Chosen p E xs

  -- it is the block's plan in each state of s
  abbrev pub Plans : ℕ → State → Result (Option Match) Refusal → Type 0
  Plans b s r = InEach Γ fn s (λ E. Planned b E r)

-- the target of a match has an item before it
abbrev pub Behind : Option Match → ℕ → Type 0
Behind None i = Unit {0}
Behind (Some m) i = 0 < i

-- the plan p of a match is one of a read whose place is used and of an enum, and the target item i leaves the state of s by it
pub record Leaves (Γ fn : List ℕ) (p : Option Match) (i : ℕ) (s : State) : Type 0 where
  pub state : Forest
  pub holds : Holds Γ (local_types fn) (value s) state
  pub sound : Sound Γ fn p
  pub behind : Behind p i
  pub left : Forest
  pub leaves : leaves_by Γ fn p i state ≡ done left

-- s holds a state in which the variant v of the place read is not refused
pub record Opening (Γ fn : List ℕ) (read v : ℕ) (s : State) : Type 0 where
  pub state : Forest
  pub holds : Holds Γ (local_types fn) (value s) state
  pub left : Forest
  pub opens : downcasting Γ (spot_before fn read) v state ≡ done left
