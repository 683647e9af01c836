-- One block's own run over trees (`basic_block` without `goto`, `statement`, `terminator`), and the frame of a function. All arms
-- are tried before the first is entered, so the exits come with their states.
use Rattle.std.specs.Prelude.{true, false, List, [], ◌∷◌, ◌++◌, map, ℕ, zero, suc, ◌-◌, eqb, ltb, leb}
use Rattle.std.proofs.Math.Option.{Option, none, some}
use Rattle.model.specs.Answer.{Answer, refused, done, ◌>>=◌}
use Rattle.model.specs.Types.{count, discriminant}
use Rattle.model.specs.Tree.{Forest, sizes, joins, flagss}
use Rattle.model.specs.State.{most}
use Rattle.model.specs.Place.{Spot, At}
use Rattle.model.specs.Walk.{projection, downcasting, subject_at, carry_at}
use Rattle.model.specs.Collect.{collects, folds_at_ret}
use Rattle.model.specs.Function.{nargs, nblocks, rank, stop}
use Rattle.model.specs.Block.{Station, stations, entry_point, targets, is_join_point, returns, matched, is_arm, arm_value}
use Rattle.model.specs.Frame.{Line, mark, Exit, Work, Frame}
use Rattle.model.specs.Measure.{measure, ceiling}

-- THE STATEMENTS

module _ (Γ : List ℕ) where
  -- places used one after the other, all at one point: the entry's
  unfoldable pub enter_uses : List Spot → Forest → Answer (Forest × List At)
  enter_uses [] E = done (E, [])
  enter_uses (q ∷ qs) E = projection Γ q E >>= λ r. enter_uses qs r.0 >>= λ w. done (w.0, r.1 ++ w.1)

  -- the place used at a point, if any
  unfoldable pub use_at : ℕ → Option Spot → Forest → Answer (Forest × List (Line At))
  use_at i none E = done (E, [])
  use_at i (some q) E = projection Γ q E >>= λ r. done (r.0, mark i r.1)

  unfoldable pub pass_stations : List Station → Forest → Answer (Forest × List (Line At))
  pass_stations [] E = done (E, [])
  pass_stations (s ∷ ss) E = use_at s.point s.used E >>= λ r. pass_stations ss r.0 >>= λ w. done (w.0, r.1 ++ w.1)

-- THE MATCH

-- the variants left: value and number of each, in order
abbrev pub Left : Type 0
Left = List (ℕ × ℕ)

-- n variants of the enum t from v on
unfoldable pub variants_from : List ℕ → ℕ → ℕ → ℕ → Left
variants_from Γ t zero v = []
variants_from Γ t (suc n) v = (discriminant Γ t v, v) ∷ variants_from Γ t n (suc v)

unfoldable pub variants : List ℕ → ℕ → Left
variants Γ t = variants_from Γ t (count Γ t) 0

-- the variant of a value
unfoldable pub variant_of : ℕ → Left → Option ℕ
variant_of x [] = none
variant_of x (d ∷ ds) = elim (eqb d.0 x) [ true ↦ some d.1 | false ↦ variant_of x ds ]

unfoldable pub without : ℕ → Left → Left
without x [] = []
without x (d ∷ ds) = elim (eqb d.0 x) [ true ↦ ds | false ↦ d ∷ without x ds ]

-- the only one left
unfoldable pub only : Left → Option ℕ
only [] = none
only (d ∷ []) = some d.1
only (d ∷ (c ∷ ds)) = none

-- what the target item i opens, and what it leaves: an arm the variant of its value (8 if none is left), the otherwise target
-- the only one left
pub record Choice : Type 0 where
  pub opens : Option ℕ
  pub remain : Left

unfoldable pub choice : List ℕ → ℕ → Left → Answer Choice
choice fn i ds = elim (is_arm fn i) [
  | true ↦ elim (variant_of (arm_value fn i) ds) [
    | none ↦ refused 8
    | some v ↦ done (record { opens = some v; remain = without (arm_value fn i) ds })
  ]
  | false ↦ done (record { opens = only ds; remain = ds })
]

-- targets that leave the state as it is
unfoldable pub unopened : List (ℕ × ℕ) → Forest → List (Exit Forest)
unopened ts E = map (λ t. record { item = t.0; block = t.1; state = E }) ts

module _ (Γ fn : List ℕ) where
  unfoldable pub open_variant : Spot → Option ℕ → Forest → Answer Forest
  open_variant q none E = done E
  open_variant q (some v) E = downcasting Γ q v E

  -- what a match's targets do to the state
  unfoldable pub match_targets : Spot → Forest → List (ℕ × ℕ) → Left → Answer (List (Exit Forest))
  match_targets q E [] ds = done []
  match_targets q E (t ∷ ts) ds = choice fn t.0 ds >>= λ c. open_variant q c.opens E >>= λ D.
      match_targets q E ts c.remain >>= λ xs. done (record { item = t.0; block = t.1; state = D } ∷ xs)

  -- the exits of a match on an enum; or on an array's element: "its arms and its otherwise target leave the state unchanged, and arm
  -- values aren't looked up" (F-1)
  unfoldable pub match_exits : Spot → List (ℕ × ℕ) → Forest → Option ℕ → Answer (List (Exit Forest))
  match_exits q ts E none = done (unopened ts E)
  match_exits q ts E (some t) = match_targets q E ts (variants Γ t)

  -- the exits, in the state that the block's statements leave
  unfoldable pub exits_of : Option Spot → List (ℕ × ℕ) → Forest → Answer (List (Exit Forest))
  exits_of none ts E = done (unopened ts E)
  exits_of (some q) ts E = subject_at Γ q E >>= match_exits q ts E

  -- what a return records
  unfoldable pub ret_lines : ℕ → Forest → List (Line At)
  ret_lines b E = elim (returns fn b) [ true ↦ mark (stop fn b - 1) (folds_at_ret Γ (nargs fn) E) | false ↦ [] ]

  -- one block, from its start to its exits
  unfoldable pub body : ℕ → Forest → Answer (Work Forest At)
  body b E = pass_stations Γ (stations fn b) E >>= λ r. exits_of (matched fn b) (targets fn b) r.0 >>= λ xs.
      done (record { lines = r.1 ++ ret_lines b r.0; exits = xs })

  -- the frame of a function. There is no block from B on
  unfoldable pub frame : Frame Forest At
  frame = record {
    blocks = nblocks fn;
    join_point = is_join_point fn;
    rank = rank fn;
    targets = targets fn;
    entry = entry_point fn;
    body = λ b E. elim (ltb b (nblocks fn)) [ true ↦ body b E | false ↦ refused 0 ];
    join = λ S E. joins Γ false S E;
    changed = λ S E. (flagss Γ false S E).0;
    room = λ E. leb (sizes E) most;
    cost = λ E. measure Γ E;
    top = ceiling;
    collect = λ E S. collects Γ E S;
    carry = λ a E. carry_at Γ a E;
  }
