-- The canonical state at the start of a block: the stored one at a join point, at any other the one that its only edge
-- brings. There is at most one, and the block is left from it without a refusal.
use Rattle.std.specs.Prelude.{◌≡◌, refl, true, false, List, [], ◌∷◌, map, ℕ}
use Rattle.std.proofs.Common.{ap}
use Rattle.std.proofs.Math.Option.{Option, some}
use Rattle.model.specs.Answer.{done}
use Rattle.model.specs.Frame.{Exit, Work, Frame, target}
use Rattle.base.specs.Tests.{clash}
use Rattle.solver.specs.Lists.{Has, here, later, has_map, elem_has, Once, once_head, once_tail}
use Rattle.solver.specs.Laws.{Bodies, Edges, Points}
use Rattle.solver.specs.Arrivals.{exit_listed}
use Rattle.solver.specs.Solution.{Solution}
use Rattle.solver.specs.Fuel.{root_join, root_start, Rooted, rooted, rooted_on}

-- E₀: the state that the entry's uses leave
module _ {Env Stmt : Type 0} (F : Frame Env Stmt) (kept : ℕ → Option Env) (E₀ : Env) where
  -- the state E is the canonical one of a block
  pub data At : ℕ → Env → Type 0 where
    at_join : {b : ℕ} {S : Env} → F.join_point b ≡ true → kept b ≡ some S → At b S
    at_start : {b : ℕ} {E : Env} → F.join_point b ≡ false → b ≡ 0 → E ≡ E₀ → At b E
    at_on : {b i c : ℕ} {D E : Env} {w : Work Env Stmt} → At b D → F.body b D ≡ done w
        → Has (record { item = i; block = c; state = E }) w.exits → F.join_point c ≡ false → At c E

-- the items of exits are those of their targets
pub exit_items : {Env : Type 0} (xs : List (Exit Env)) → map (λ x. x.item) xs ≡ map (λ t. t.0) (map target xs)
exit_items [] = refl
exit_items (x ∷ xs) = ap (λ l. x.item ∷ l) (exit_items xs)

-- in a list whose first parts differ, the first part decides: stated so that the list is recursed on
has_once_by : {Env : Type 0} {x y : Exit Env} {l : List (Exit Env)} → Once (map (λ x. x.item) l) → Has x l → Has y l → x.item ≡ y.item → x ≡ y
has_once_by o here here q = refl
has_once_by {x} {y} o here (later k) q = clash (cc (once_head o, elem_has (has_map (λ x. x.item) k)))
has_once_by {x} {y} o (later h) here q = clash (cc (once_head o, elem_has (has_map (λ x. x.item) h)))
has_once_by o (later h) (later k) q = has_once_by (once_tail o) h k q

-- in a list whose first parts differ, the first part decides
pub has_once : {Env : Type 0} {l : List (Exit Env)} → Once (map (λ x. x.item) l) → {x y : Exit Env} → Has x l → Has y l → x.item ≡ y.item → x ≡ y
has_once o h k q = has_once_by o h k q

module _ {Env Stmt : Type 0} (F : Frame Env Stmt) {Ok : Env → Type 0} (B : Bodies F Ok) (G : Edges F) {owner : ℕ → ℕ} (N : Points F owner)
    (kept : ℕ → Option Env) (E₀ : Env) where
  -- the exits' items differ
  pub exits_once : {b : ℕ} {E : Env} {w : Work Env Stmt} → F.body b E ≡ done w → Once (map (λ x. x.item) w.exits)
  exits_once {b} {E} {w} e = rw (exit_items w.exits, B.listed e) (N.once b)

  -- there is at most one
  pub at_same : {b : ℕ} {D E : Env} → At F kept E₀ b D → At F kept E₀ b E → D ≡ E
  at_same (at_join j p) (at_join k q) = cc
  at_same (at_join j p) (at_start k q r) = clash (cc)
  at_same (at_join j p) (at_on A e h k) = clash (cc)
  at_same (at_start j p q) (at_join k r) = clash (cc)
  at_same (at_start j p q) (at_start k r t) = cc
  at_same (at_start j p q) (at_on {i} A e h k) = absurd (G.none_back (rw p at j) (rw p at (exit_listed B e h)))
  at_same (at_on A e h k) (at_join j p) = clash (cc)
  at_same (at_on A e h k) (at_start j p q) = absurd (G.none_back (rw p at j) (rw p at (exit_listed B e h)))
  at_same (at_on {b} {i} {c} {D} {E} {w} A e h k) (at_on {b = b'} {i = i'} {D = D'} {E = E'} {w = w'} A' e' h' k') =
      let z = G.one_way k (exit_listed B e h) (exit_listed B e' h') in
      let y : D ≡ D' = at_same A (rw (← z.0) at A') in
      let v : w ≡ w' = cc z.0 in
      ap (λ (x : Exit Env). x.state) (has_once (exits_once e) h (rw (← v) at h') z.1)

  module _ (X : Solution F Ok E₀ kept) where
    -- its block is entered in some visit
    pub at_rooted : {b : ℕ} {E : Env} → At F kept E₀ b E → Rooted F b
    at_rooted (at_join {b} {S} j p) = rooted (root_join j (X.placed b S p).below)
    at_rooted (at_start j p q) = rw p (rooted root_start)
    at_rooted (at_on A e h k) = rooted_on (at_rooted A) (exit_listed B e h) k
