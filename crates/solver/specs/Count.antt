-- How often a block is entered in an outcome, and what is recorded at its points.
use Rattle.std.specs.Prelude.{◌≡◌, Bool, true, false, eqb}
use Rattle.std.proofs.Math.Path.{refl, sym, ap}
use Rattle.std.proofs.Common.{◌∙◌}
use mathlib.Core.List.{List, [], ◌∷◌, ◌++◌, map, append_assoc}
use Rattle.std.proofs.Math.Option.{Option}
use Prim.Native.Nat.{ℕ, zero, suc, ◌+◌}
use native.Mathlib.Omega.{arith}
use borrow.Author.Tests.{eqb-true}
use Rattle.model.specs.Answer.{Answer, refused, done}
use Rattle.model.specs.Frame.{Line, Exit, Work, Frame, target, Outcome, over, stop, into, say, meet, next, says, goto, leave, work, enter, mark}
use Rattle.base.specs.Tests.{split, clash, eqb_same}
use Rattle.base.specs.Each.{Each, each_none, each_more, each_append}
use Rattle.solver.specs.Lists.{Has, here, later, has_map, each_of, elem_has, Once, once_head, once_tail}
use Rattle.solver.specs.Lines.{each_mark}
use Rattle.solver.specs.Laws.{Bodies, Edges, Points}
use Rattle.solver.specs.Outcome.{Calm, calm_over, calm_into, calm_say, calm_meet, stop_calm, calm_inner, calm_next, calm_says, goto_calm_on}
use Rattle.solver.specs.Arrivals.{exit_listed}
use Rattle.solver.specs.Told.{gives, tell}

-- 1 for true
abbrev pub bit : Bool → ℕ
bit true = 1
bit false = 0

module _ {Env Stmt : Type 0} where
  -- how often x is entered
  unfoldable pub count : ℕ → Outcome Env Stmt → ℕ
  count x over = 0
  count x (stop r) = 0
  count x (into b E o) = bit (eqb x b) + count x o
  count x (say l o) = count x o
  count x (meet y o) = count x o

  -- one outcome after the other
  pub count_next : {P : Exit Env → Type 0} (x : ℕ) {o : Outcome Env Stmt} (q : Outcome Env Stmt) → Calm P o → count x (next o q) ≡ count x o + count x q
  unfolding count next
  count_next x q calm_over = omega arith
  count_next x q (calm_into {b} k) = omega (arith, count_next x q k)
  count_next x q (calm_say k) = count_next x q k
  count_next x q (calm_meet p k) = count_next x q k

  -- what is recorded does not count
  pub count_says : (x : ℕ) (ls : List (Line Stmt)) (o : Outcome Env Stmt) → count x (says ls o) ≡ count x o
  unfolding count says
  count_says x [] o = refl
  count_says x (l ∷ ls) o = count_says x ls o

-- how often x is named
unfoldable pub named : ℕ → List (ℕ × ℕ) → ℕ
named x [] = 0
named x (t ∷ ts) = bit (eqb x t.1) + named x ts

-- not at all, if no item names it
pub named_none : (x : ℕ) (ts : List (ℕ × ℕ)) → ((i : ℕ) → Has (i, x) ts → ⊥) → named x ts ≡ 0
unfolding named
named_none x [] f = refl
named_none x (t ∷ ts) f = split (eqb x t.1)
    (λ e. absurd (f t.0 (rw (eqb-true x t.1 e) here)))
    (λ e. rw e (omega (arith, named_none x ts (λ i h. f i (later h)))))

-- once, if its item is the only one and items differ
pub named_one : (x i : ℕ) (ts : List (ℕ × ℕ)) → Once (map (λ t. t.0) ts) → Has (i, x) ts → ((j : ℕ) → Has (j, x) ts → j ≡ i) → named x ts ≡ 1
unfolding named
named_one x i [] o h f = elim h [ ]
named_one x i (t ∷ ts) o here f = rw (eqb_same x) (omega (
  arith,
  named_none x ts
      (λ j h. clash (cc (f j (later h), once_head o, elem_has (has_map (λ t. t.0) h)))),
))
named_one x i (t ∷ ts) o (later h) f = split (eqb x t.1)
    (λ e. clash (cc (f t.0 (rw (eqb-true x t.1 e) here), once_head o, elem_has (has_map (λ t. t.0) h))))
    (λ e. rw e (omega (arith, named_one x i ts (once_tail o) h (λ j k. f j (later k)))))

-- two ways in which the number of times is known, for calm outcomes
module _ {Env Stmt : Type 0} (F : Frame Env Stmt) {Ok : Env → Type 0} (B : Bodies F Ok) (P : Exit Env → Type 0) (x : ℕ) where
  -- 1. no edge enters x (a join point, or a start block that is none): x is entered where a visit begins with it
  module _ (lone : (b i : ℕ) → Has (i, x) (F.targets b) → F.join_point x ≡ false → ⊥) where
    -- a jump does not enter x
    goto_lone : (go : ℕ → Env → Outcome Env Stmt) → ((c : ℕ) (D : Env) → Calm P (go c D) → count x (go c D) ≡ bit (eqb x c))
        → (b : ℕ) (y : Exit Env) → Has (target y) (F.targets b) → Calm P (goto F go y) → count x (goto F go y) ≡ 0
    unfolding goto count
    goto_lone go f b y h k = split (F.join_point y.block)
        (λ e. cc)
        (λ e.
        let q = f y.block y.state (goto_calm_on F go y k e) in
        split (eqb x y.block)
        (λ d. let z = eqb-true x y.block d in absurd (lone b y.item (rw z h) (rw z e)))
        (λ d. cc))

    -- nor do all jumps of a block
    leave_lone : (go : ℕ → Env → Outcome Env Stmt) → ((c : ℕ) (D : Env) → Calm P (go c D) → count x (go c D) ≡ bit (eqb x c))
        → {b : ℕ} {ys : List (Exit Env)} → Each (λ y. Has (target y) (F.targets b)) ys → Calm P (leave F go ys) → count x (leave F go ys) ≡ 0
    unfolding leave count
    leave_lone go f each_none k = refl
    leave_lone go f {b} (each_more {a = y} {l = ys} h hs) k =
        let (m, n) = calm_next (goto F go y) k in
        omega (arith, count_next x (leave F go ys) m, goto_lone go f b y h m, leave_lone go f hs n)

    -- so behind a block's own run x is not entered
    work_lone : (go : ℕ → Env → Outcome Env Stmt) → ((c : ℕ) (D : Env) → Calm P (go c D) → count x (go c D) ≡ bit (eqb x c))
        → {b : ℕ} {E : Env} (a : Answer (Work Env Stmt)) → F.body b E ≡ a → Calm P (work F go a) → count x (work F go a) ≡ 0
    unfolding work
    work_lone go f (refused r) e k = stop_calm k
    work_lone go f (done w) e k =
        count_says x w.lines (leave F go w.exits) ∙ leave_lone go f (each_of w.exits (λ y h. exit_listed B e h)) (calm_says w.lines k)

    -- the number of times, along a visit
    pub enter_lone : (n b : ℕ) (E : Env) → Calm P (enter F n b E) → count x (enter F n b E) ≡ bit (eqb x b)
    unfolding enter count
    enter_lone zero b E k = stop_calm k
    enter_lone (suc n) b E k = omega (arith, work_lone (enter F n) (enter_lone n) (F.body b E) refl (calm_inner k))

  -- 2. the edge i from p enters x, and no other: x is entered where a visit begins with it, and as often as p
  module _ (G : Edges F) {owner : ℕ → ℕ} (N : Points F owner) {p i : ℕ} (edge : Has (i, x) (F.targets p)) (plain : F.join_point x ≡ false) where
    -- the targets of p name x once, those of any other block not at all
    named_edge : (b : ℕ) → named x (F.targets b) ≡ bit (eqb p b)
    named_edge b = split (eqb p b)
        (λ e.
        let q = eqb-true p b e in
        rw e (named_one x i (F.targets b) (N.once b) (rw q at edge) (λ j h. (G.one_way plain h edge).1)))
        (λ e. rw e (named_none x (F.targets b) (λ j h. clash (cc ((G.one_way plain h edge).0, eqb_same p)))))

    -- along a jump x is entered if it is the jump's target, and as often as p
    goto_edge : (go : ℕ → Env → Outcome Env Stmt) → ((c : ℕ) (D : Env) → Calm P (go c D) → count x (go c D) ≡ bit (eqb x c) + count p (go c D))
        → (y : Exit Env) → Calm P (goto F go y) → count x (goto F go y) ≡ bit (eqb x y.block) + count p (goto F go y)
    unfolding goto count
    goto_edge go f y k = split (F.join_point y.block)
        (λ e. split (eqb x y.block)
        (λ d. clash (cc (eqb-true x y.block d)))
        (λ d. rw (e, goto) (rw d (omega arith))))
        (λ e. rw (e, goto) (f y.block y.state (goto_calm_on F go y k e)))

    -- along all jumps of a block, as often as they name x, and as often as p
    leave_edge : (go : ℕ → Env → Outcome Env Stmt) → ((c : ℕ) (D : Env) → Calm P (go c D) → count x (go c D) ≡ bit (eqb x c) + count p (go c D))
        → (ys : List (Exit Env)) → Calm P (leave F go ys) → count x (leave F go ys) ≡ named x (map target ys) + count p (leave F go ys)
    unfolding leave count named
    leave_edge go f [] k = omega arith
    leave_edge go f (y ∷ ys) k =
        let (m, n) = calm_next (goto F go y) k in
        omega (arith, count_next x (leave F go ys) m, count_next p (leave F go ys) m, goto_edge go f y m, leave_edge go f ys n)

    -- behind a block's own run, once if the block is p, and as often as p
    work_edge : (go : ℕ → Env → Outcome Env Stmt) → ((c : ℕ) (D : Env) → Calm P (go c D) → count x (go c D) ≡ bit (eqb x c) + count p (go c D))
        → {b : ℕ} {E : Env} (a : Answer (Work Env Stmt)) → F.body b E ≡ a → Calm P (work F go a) → count x (work F go a) ≡ bit (eqb p b) + count p (work F go a)
    unfolding work
    work_edge go f (refused r) e k = stop_calm k
    work_edge go f {b} (done w) e k =
        let o = leave F go w.exits in
        let q : named x (map target w.exits) ≡ bit (eqb p b) = ap (named x) (B.listed e) ∙ named_edge b in
        omega (arith, count_says x w.lines o, count_says p w.lines o, leave_edge go f w.exits (calm_says w.lines k))

    -- the number of times, along a visit
    pub enter_edge : (n b : ℕ) (E : Env) → Calm P (enter F n b E) → count x (enter F n b E) ≡ bit (eqb x b) + count p (enter F n b E)
    unfolding enter count
    enter_edge zero b E k = stop_calm k
    enter_edge (suc n) b E k = omega (arith, work_edge (enter F n) (enter_edge n) (F.body b E) refl (calm_inner k))

-- what is recorded at the points of a block
module _ {Stmt : Type 0} (owner : ℕ → ℕ) where
  -- the lines at points of the block b
  unfoldable pub part : ℕ → List (Line Stmt) → List (Line Stmt)
  part b [] = []
  part b (l ∷ ls) = elim (eqb (owner l.point) b) [ true ↦ l ∷ part b ls | false ↦ part b ls ]

  -- one list after the other
  pub part_append : (b : ℕ) (ls ms : List (Line Stmt)) → part b (ls ++ ms) ≡ part b ls ++ part b ms
  unfolding part
  part_append b [] ms = refl
  part_append b (l ∷ ls) ms = split (eqb (owner l.point) b) (λ e. cc (part_append b ls ms)) (λ e. cc (part_append b ls ms))

  -- lines that are all its own
  pub part_own : {b : ℕ} {ls : List (Line Stmt)} → Each (λ l. owner l.point ≡ b) ls → part b ls ≡ ls
  unfolding part
  part_own each_none = refl
  part_own {b} (each_more o os) = cc (part_own os, eqb_same b)

  -- lines that are all another block's
  pub part_other : (c : ℕ) {b : ℕ} {ls : List (Line Stmt)} → Each (λ l. owner l.point ≡ b) ls → eqb b c ≡ false → part c ls ≡ []
  unfolding part
  part_other c each_none e = refl
  part_other c {b} (each_more o os) e = cc (part_other c os e)

module _ {Env Stmt : Type 0} (F : Frame Env Stmt) (kept : ℕ → Option Env) where
  -- what is recorded at a jump: nothing, unless it arrives at a join point
  unfoldable pub hop : Exit Env → List (Line Stmt)
  hop y = elim (F.join_point y.block) [ true ↦ mark y.item (gives F kept y) | false ↦ [] ]

  -- at all jumps of a block
  unfoldable pub hops : List (Exit Env) → List (Line Stmt)
  hops [] = []
  hops (y ∷ ys) = hop y ++ hops ys

  -- all that is recorded for one block
  abbrev pub own_lines : Work Env Stmt → List (Line Stmt)
  own_lines w = w.lines ++ hops w.exits

  -- one outcome after the other
  pub tell_next : {P : Exit Env → Type 0} {o : Outcome Env Stmt} (q : Outcome Env Stmt) → Calm P o → tell F kept (next o q) ≡ tell F kept o ++ tell F kept q
  unfolding tell next
  tell_next q calm_over = refl
  tell_next q (calm_into k) = tell_next q k
  tell_next q (calm_say k) = cc (tell_next q k)
  tell_next q (calm_meet {x} {o} p k) =
      ap (λ l. mark x.item (gives F kept x) ++ l) (tell_next q k) ∙ sym (append_assoc (mark x.item (gives F kept x)) (tell F kept o) (tell F kept q))

  -- lines first
  pub tell_says : (ls : List (Line Stmt)) (o : Outcome Env Stmt) → tell F kept (says ls o) ≡ ls ++ tell F kept o
  unfolding tell says
  tell_says [] o = refl
  tell_says (l ∷ ls) o = cc (tell_says ls o)

  module _ {owner : ℕ → ℕ} (N : Points F owner) where
    -- what is recorded at a jump stands at its block's point
    pub hop_owned : {b : ℕ} (y : Exit Env) → Has (target y) (F.targets b) → Each (λ l. owner l.point ≡ b) (hop y)
    unfolding hop
    hop_owned y h = split (F.join_point y.block)
        (λ e. rw (e, hop) (each_mark y.item (gives F kept y) (λ t. N.owned h)))
        (λ e. rw (e, hop) each_none)

    -- and so at all of them
    pub hops_owned : {b : ℕ} {ys : List (Exit Env)} → Each (λ y. Has (target y) (F.targets b)) ys → Each (λ l. owner l.point ≡ b) (hops ys)
    unfolding hops
    hops_owned each_none = each_none
    hops_owned (each_more {a = y} h hs) = each_append (hop_owned y h) (hops_owned hs)
