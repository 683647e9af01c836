-- No block comes twice on a way through blocks that are no join points. So the fuel of a visit never runs out, and a visit has a
-- law with no fuel in it (`visit_step`).
use Rattle.std.specs.Prelude.{◌≡◌, true, false, eqb}
use Rattle.std.proofs.Math.Path.{refl, ap}
use mathlib.Core.List.{List, [], ◌∷◌}
use Prim.Native.Nat.{ℕ, zero, suc, ◌≤◌, ◌<◌}
use Rattle.std.proofs.Common.{arith}
use borrow.Author.Tests.{eqb-true}
use Rattle.model.specs.Answer.{Answer, refused, done}
use Rattle.model.specs.Rounds.{elem}
use Rattle.model.specs.Frame.{Exit, Work, Frame, Outcome, into, goto, leave, work, enter}
use Rattle.base.specs.Tests.{split, clash, eqb_same}
use Rattle.base.specs.Each.{Each, each_none, each_more}
use Rattle.solver.specs.Lists.{Has, each_of, Once, once_none, once_more, once_head}
use Rattle.solver.specs.Laws.{Bodies, Edges}
use Rattle.solver.specs.Arrivals.{exit_listed}

module _ {Env Stmt : Type 0} (F : Frame Env Stmt) where
  -- where a visit begins
  pub data Root : ℕ → Type 0 where
    root_join : {b : ℕ} → F.join_point b ≡ true → b < F.blocks → Root b
    root_start : Root 0

  -- what is entered in a visit
  pub data Rooted : ℕ → Type 0 where
    rooted : {b : ℕ} → Root b → Rooted b
    rooted_on : {b i c : ℕ} → Rooted b → Has (i, c) (F.targets b) → F.join_point c ≡ false → Rooted c

  -- below b there are at most n blocks on a way, b included
  abbrev pub Deep : ℕ → ℕ → Type 0
  Deep zero b = ⊥
  Deep (suc n) b = (i c : ℕ) → Has (i, c) (F.targets b) → F.join_point c ≡ false → Deep n c

  -- more fuel is enough too
  pub deep_more : (n m b : ℕ) → n ≤ m → Deep n b → Deep m b
  deep_more zero m b l d = absurd d
  deep_more (suc n) zero b l d = absurd (omega arith)
  deep_more (suc n) (suc m) b l d = λ i c h e. deep_more n m c (omega arith) (d i c h e)

  -- a way from a root to b, and the blocks before b, the last first
  pub data Way : ℕ → List ℕ → Type 0 where
    way_root : {b : ℕ} → Root b → Way b []
    way_on : {b i c : ℕ} {w : List ℕ} → Way b w → Has (i, c) (F.targets b) → F.join_point c ≡ false → Way c (b ∷ w)

  module _ (G : Edges F) where
    -- no edge leads back to a root
    root_fresh : {a b i c : ℕ} → Root a → Has (i, c) (F.targets b) → F.join_point c ≡ false → eqb c a ≡ false
    root_fresh {a} {c} (root_join j l) h e = split (eqb c a) (λ d. clash (cc (eqb-true c a d))) (λ d. d)
    root_fresh {b} {i} {c} root_start h e = split (eqb c 0)
        (λ d. let q = eqb-true c 0 d in absurd (G.none_back {b = b} {i = i} (rw q at e) (rw q at h)))
        (λ d. d)

    -- two equal blocks on a way have equal blocks before them, back to the root
    fresh : {a : ℕ} {w : List ℕ} → Way a w → {b i c : ℕ} → Has (i, c) (F.targets b) → F.join_point c ≡ false → elem b w ≡ false
        → elem c (a ∷ w) ≡ false
    unfolding elem
    fresh (way_root r) h e f = cc (root_fresh r h e)
    fresh (way_on {b = d} {c = a} {w} W k e') {b} {c} h e f = split (eqb c a)
        (λ q.
        let z = eqb-true c a q in
        let y = (G.one_way e h (rw (← z) at k)).0 in
        clash (cc (eqb_same b)))
        (λ q. split (eqb b d)
        (λ z. clash (cc))
        (λ z. let g = fresh W h e (cc) in cc))

    -- NO BLOCK TWICE ON A WAY
    pub way_once : {b : ℕ} {w : List ℕ} → Way b w → Once (b ∷ w)
    unfolding elem
    way_once (way_root r) = once_more refl once_none
    way_once (way_on W h e) = let o = way_once W in once_more (fresh W h e (once_head o)) o

    -- a root is a block
    pub root_below : {b : ℕ} → Root b → b < F.blocks
    root_below (root_join j l) = l
    root_below root_start = G.some_block

    -- what is enough for a block is enough for those that it enters
    pub deep_next : (n b : ℕ) → Deep n b → {i c : ℕ} → Has (i, c) (F.targets b) → F.join_point c ≡ false → Deep n c
    deep_next zero b d h e = absurd d
    deep_next (suc n) b d {i} {c} h e = deep_more n (suc n) c (omega arith) (d i c h e)

  -- jumps go the same way, where the blocks entered do
  abbrev Same : (ℕ → Env → Outcome Env Stmt) → (ℕ → Env → Outcome Env Stmt) → Exit Env → Type 0
  Same go ho x = F.join_point x.block ≡ false → go x.block x.state ≡ ho x.block x.state

  -- one jump
  goto_same : (go ho : ℕ → Env → Outcome Env Stmt) (x : Exit Env) → Same go ho x → goto F go x ≡ goto F ho x
  unfolding goto
  goto_same go ho x f = split (F.join_point x.block) (λ e. cc) (λ e. cc (f e))

  -- all jumps of a block
  leave_same : (go ho : ℕ → Env → Outcome Env Stmt) {xs : List (Exit Env)} → Each (Same go ho) xs → leave F go xs ≡ leave F ho xs
  unfolding leave
  leave_same go ho each_none = refl
  leave_same go ho (each_more {a = x} f fs) = cc (goto_same go ho x f, leave_same go ho fs)

  module _ {Ok : Env → Type 0} (B : Bodies F Ok) where
    -- what follows a block's own run
    work_same : (go ho : ℕ → Env → Outcome Env Stmt) {b : ℕ} {E : Env} (a : Answer (Work Env Stmt)) → F.body b E ≡ a
        → ((i c : ℕ) (D : Env) → Has (i, c) (F.targets b) → F.join_point c ≡ false → go c D ≡ ho c D)
        → work F go a ≡ work F ho a
    unfolding work
    work_same go ho (refused r) e f = refl
    work_same go ho (done w) e f =
        cc (leave_same go ho (each_of w.exits (λ x h n. f x.item x.block x.state (exit_listed B e h) n)))

    -- any two fuels that are enough give the same visit
    pub enter_same : (n m b : ℕ) (E : Env) → Deep n b → Deep m b → enter F n b E ≡ enter F m b E
    unfolding enter
    enter_same zero m b E d f = absurd d
    enter_same (suc n) zero b E d f = absurd f
    enter_same (suc n) (suc m) b E d f = ap (λ o. into b E o) (work_same (enter F n) (enter F m) (F.body b E) refl
        (λ i c D h e. enter_same n m c D (d i c h e) (f i c h e)))

    -- a block entered with enough fuel for those that it enters
    pub step : (n b : ℕ) (E : Env) → Deep n b → ((i c : ℕ) → Has (i, c) (F.targets b) → F.join_point c ≡ false → Deep n c)
        → enter F n b E ≡ into b E (work F (enter F n) (F.body b E))
    unfolding enter
    step zero b E d f = absurd d
    step (suc n) b E d f = ap (λ o. into b E o) (work_same (enter F n) (enter F (suc n)) (F.body b E) refl
        (λ i c D h e. enter_same n (suc n) c D (d i c h e) (f i c h e)))
