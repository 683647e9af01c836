-- One step of the walk, to a child: what it leaves of the other children, and that it finds the same way again.
use Rattle.std.specs.Prelude.{◌≡◌, ◌≢◌, Bool, true, false, List, ℕ, zero, suc, eqb}
use Rattle.std.proofs.Math.Path.{refl}
use Rattle.std.proofs.Common.{sym, true≢false, eqb-true, ne_eqb}
use Rattle.model.specs.Answer.{Answer, done, ◌>>=◌}
use Rattle.model.specs.Types.{pointer, fielded, shut, casts, kids, kind}
use Rattle.model.specs.Tree.{Tree, leaf, node, Forest, nil, more, leaves, type}
use Rattle.model.specs.Place.{Elem, deref, field, downcast, index}
use Rattle.model.specs.Walk.{nth, inside, enter, opened, step, opening, pick, branch, wide, next}
use Rattle.base.specs.Tests.{split, eqb_same}
use Rattle.base.specs.Answer.{Good, good_refused, good_done, good_bind, good_cond, Accepted, accepted, accept_bind}
use Rattle.base.specs.Kinds.{pointer_not_shut, pointer_not_enum, fielded_not_shut, fielded_not_enum, fielded_not_pointer}

-- two forests that agree but for the tree number i: s in the one, u in the other
pub data Swap : ℕ → Tree → Tree → Forest → Forest → Type 0 where
  swap_here : {s u : Tree} {ss : Forest} → Swap zero s u (more s ss) (more u ss)
  swap_there : {i : ℕ} {r s u : Tree} {ss us : Forest} → Swap i s u ss us → Swap (suc i) s u (more r ss) (more r us)

-- what is done at the tree number i: s becomes u, of which Q holds, and the others stay
pub nth_law : {f : Tree → Answer Tree} {Q : Tree → Tree → Type 0} → ((x : Tree) → Good (Q x) (f x)) → (i : ℕ) (ns : Forest)
    → Good (λ us. (s : Tree) × (u : Tree) × Q s u × Swap i s u ns us) (nth i f ns)
nth_law h i nil = good_refused
nth_law h zero (more s ss) = good_bind (h s) (λ u q. good_done (s, u, q, swap_here))
nth_law h (suc i) (more s ss) = good_bind (nth_law h i ss) (λ us q. good_done (q.0, q.1, q.2, swap_there q.3))

-- whatever does the same to the tree does the same
pub swap_run : {i : ℕ} {s u : Tree} {ns us : Forest} → Swap i s u ns us → (g : Tree → Answer Tree) → g s ≡ done u → nth i g ns ≡ done us
swap_run swap_here g e = cc
swap_run (swap_there w) g e = cc (swap_run w g e)

-- whatever leaves the new tree leaves all
pub swap_again : {i : ℕ} {s u : Tree} {ns us : Forest} → Swap i s u ns us → (g : Tree → Answer Tree) → g u ≡ done u → nth i g us ≡ done us
swap_again swap_here g e = cc
swap_again (swap_there w) g e = cc (swap_again w g e)

-- what is accepted at the tree is accepted
pub swap_accept : {i : ℕ} {s u : Tree} {ns us : Forest} → Swap i s u ns us → (g : Tree → Answer Tree) → Accepted (g s) → Accepted (nth i g ns)
swap_accept swap_here g h = accept_bind h (λ u. accepted)
swap_accept (swap_there w) g h = accept_bind (swap_accept w g h) (λ us. accepted)

-- if the tree is the same, all is
pub swap_same : {i : ℕ} {s u : Tree} {ns us : Forest} → Swap i s u ns us → u ≡ s → us ≡ ns
swap_same swap_here e = cc
swap_same (swap_there w) e = cc (swap_same w e)

-- the tree before
pub swap_old : {i : ℕ} {s u : Tree} {ns us : Forest} → Swap i s u ns us → pick i ns ≡ s
swap_old swap_here = refl
swap_old (swap_there w) = swap_old w

-- and after
pub swap_new : {i : ℕ} {s u : Tree} {ns us : Forest} → Swap i s u ns us → pick i us ≡ u
swap_new swap_here = refl
swap_new (swap_there w) = swap_new w

-- the elements that lead to a child, and its number
abbrev pub moves : Elem → Bool
moves deref = true
moves (field i) = true
moves (downcast v) = false
moves index = false

-- the child's number
abbrev pub number : Elem → ℕ
number deref = 0
number (field i) = i
number (downcast v) = 0
number index = 0

-- what is done behind such an element is done at that child
inside_child : (e : Elem) → moves e ≡ true → (f : Tree → Answer Tree) (t v : ℕ) (ns : Forest)
    → inside e f (node t v ns) ≡ nth (number e) f ns >>= λ us. done (node t v us)
inside_child deref m f t v ns = refl
inside_child (field i) m f t v ns = refl
inside_child (downcast w) m f t v ns = absurd (true≢false (sym m))
inside_child index m f t v ns = absurd (true≢false (sym m))

module _ (Γ : List ℕ) where
  -- the node t v ns is s, opened for the element e
  pub record Ready (e : Elem) (s : Tree) (t v : ℕ) (ns : Forest) : Type 0 where
    pub enters : enter Γ e s ≡ done (node t v ns)
    pub again : (ms : Forest) → enter Γ e (node t v ms) ≡ done (node t v ms)
    pub opens : opening Γ s ≡ done (node t v ns)
    pub widens : wide Γ 0 s ≡ node t v ns

  -- what a node becomes that is opened for e
  data Entered (e : Elem) (s : Tree) : Tree → Type 0 where
    entered : {t v : ℕ} {ns : Forest} → Ready e s t v ns → Entered e s (node t v ns)

  -- a step that takes s to u, and a child x of s (opened) to y, of which Q holds
  pub record Child (e : Elem) (Q : Tree → Tree → Type 0) (s u : Tree) : Type 0 where
    pub x : Tree
    pub y : Tree
    pub rel : Q x y
    pub old : next Γ e s ≡ x
    pub new : next Γ e u ≡ y
    pub shape : (t v : ℕ) × (ns us : Forest) × (wide Γ 0 s ≡ node t v ns) × (u ≡ node t v us)
    pub same : y ≡ x → u ≡ wide Γ 0 s
    pub opens : y ≡ x → opening Γ s ≡ done u
    -- whatever does the same at the child does the same; and whatever leaves the child as it is leaves all as it is
    pub run : (g : Tree → Answer Tree) → g x ≡ done y → step Γ e g s ≡ done u
    pub again : (g : Tree → Answer Tree) → g y ≡ done y → step Γ e g u ≡ done u
    pub accepts : (g : Tree → Answer Tree) → Accepted (g x) → Accepted (step Γ e g s)

  -- Unfold opens a folded node that is no enum
  pub opening_leaf : (t : ℕ) → shut (kind Γ t) ≡ false → kind Γ t ≢ 7 → opening Γ (leaf t) ≡ done (opened Γ t 0)
  unfolding opening
  opening_leaf t e n = cc (ne_eqb (kind Γ t) 7 n)

  -- a node opened for such an element
  enter_law : (e : Elem) → moves e ≡ true → (s : Tree) → Good (Entered e s) (enter Γ e s)
  unfolding enter opened opening wide pointer fielded
  enter_law deref m (leaf t) = good_cond _ (pointer (kind Γ t))
      (λ e. good_done (entered (record { enters = cc; again = λ ms. cc; opens = opening_leaf t (pointer_not_shut (kind Γ t) e) (pointer_not_enum (kind Γ t) e); widens = refl })))
      (λ e. good_refused)
  enter_law deref m (node t v ns) = good_cond _ (pointer (kind Γ t))
      (λ e. good_done (entered (record { enters = cc; again = λ ms. cc; opens = refl; widens = refl })))
      (λ e. good_refused)
  enter_law (field i) m (leaf t) = good_cond _ (fielded (kind Γ t))
      (λ e.
      let d = fielded_not_pointer (kind Γ t) e in
      good_done (entered (record { enters = cc; again = λ ms. cc; opens = opening_leaf t (fielded_not_shut (kind Γ t) e) (fielded_not_enum (kind Γ t) e); widens = refl })))
      (λ e. good_refused)
  enter_law (field i) m (node t v ns) = good_cond _ (pointer (kind Γ t)) (λ e. good_refused)
      (λ e. good_done (entered (record { enters = cc; again = λ ms. cc; opens = refl; widens = refl })))
  enter_law (downcast v) m s = absurd (true≢false (sym m))
  enter_law index m s = absurd (true≢false (sym m))

  -- the child that it leads to
  next_branch : (e : Elem) → moves e ≡ true → (s : Tree) → next Γ e s ≡ branch (number e) (wide Γ 0 s)
  next_branch deref m s = refl
  next_branch (field i) m s = refl
  next_branch (downcast v) m s = absurd (true≢false (sym m))
  next_branch index m s = absurd (true≢false (sym m))

  module _ (e : Elem) (m : moves e ≡ true) where
    -- from the node opened and the child changed, the step
    make_child : {Q : Tree → Tree → Type 0} {s : Tree} {t v : ℕ} {ns us : Forest} {x y : Tree} → Ready e s t v ns
        → Swap (number e) x y ns us → Q x y → Child e Q s (node t v us)
    unfolding step wide
    make_child {Q} {s} {t} {v} {ns} {us} {x} {y} r w q = record {
      x = x;
      y = y;
      rel = q;
      old = cc (next_branch e m s, r.widens, swap_old w);
      new = cc (next_branch e m (node t v us), swap_new w);
      shape = (t, v, ns, us, r.widens, refl);
      same = λ h. cc (r.widens, swap_same w h);
      opens = λ h. cc (r.opens, swap_same w h);
      run = λ g h. cc (r.enters, inside_child e m g t v ns, swap_run w g h);
      again = λ g h. cc (r.again us, inside_child e m g t v us, swap_again w g h);
      accepts = λ g h. rw r.enters (rw (inside_child e m g t v ns) (accept_bind (swap_accept w g h) (λ us. accepted)));
    }

    -- so behind the element
    inside_law : {f : Tree → Answer Tree} {Q : Tree → Tree → Type 0} → ((x : Tree) → Good (Q x) (f x)) → {s n : Tree} → Entered e s n
        → Good (Child e Q s) (inside e f n)
    inside_law {f} {Q} h (entered {t} {v} {ns} r) = rw (inside_child e m f t v ns)
        (good_bind (nth_law h (number e) ns) (λ us q. good_done (make_child r q.3 q.2)))

    -- a step to a child
    pub step_law : {f : Tree → Answer Tree} {Q : Tree → Tree → Type 0} → ((x : Tree) → Good (Q x) (f x)) → (s : Tree)
        → Good (Child e Q s) (step Γ e f s)
    unfolding step
    step_law h s = good_bind (enter_law e m s) (λ n q. inside_law h q)

  -- a step to a variant: the node is s opened, and is open at v
  pub record Cast (v : ℕ) (s n : Tree) : Type 0 where
    pub allowed : casts Γ (type s) v ≡ true
    pub opens : wide Γ v s ≡ n
    pub shape : (t : ℕ) × (ns : Forest) × (n ≡ node t v ns) × (casts Γ t v ≡ true)

  -- what a downcast leaves, if it is accepted
  pub cast_law : (v : ℕ) (s : Tree) → Good (Cast v s) (enter Γ (downcast v) s)
  unfolding enter wide opened
  cast_law v (leaf t) = good_cond _ (casts Γ t v)
      (λ e. good_done (record { allowed = e; opens = refl; shape = (t, leaves (kids Γ t v), refl, e) }))
      (λ e. good_refused)
  cast_law v (node t w ns) = good_cond _ (casts Γ t v)
      (λ e. good_cond _ (eqb v w) (λ d. good_done (record { allowed = e; opens = refl; shape = (t, ns, cc (eqb-true v w d), e) })) (λ d. good_refused))
      (λ e. good_refused)

  -- once more it is nothing
  pub cast_again : (v t : ℕ) (ns : Forest) → casts Γ t v ≡ true
      → enter Γ (downcast v) (node t v ns) ≡ done (node t v ns)
  unfolding enter
  cast_again v t ns e = cc (eqb_same v)

  -- a type with variants is no array
  pub cast_no_array : (t v : ℕ) → casts Γ t v ≡ true → eqb (kind Γ t) 4 ≡ false
  unfolding casts
  cast_no_array t v e = split (eqb (kind Γ t) 4) (λ d. cc (eqb-true (kind Γ t) 4 d)) (λ d. d)

  -- at an index nothing is opened, and the node is an array
  pub index_law : (s : Tree) → Good (λ n. (n ≡ s) × (eqb (kind Γ (type s)) 4 ≡ true)) (enter Γ index s)
  unfolding enter
  index_law (leaf t) = good_cond _ (eqb (kind Γ t) 4) (λ e. good_done (refl, e)) (λ e. good_refused)
  index_law (node t v ns) = good_cond _ (eqb (kind Γ t) 4) (λ e. good_done (refl, e)) (λ e. good_refused)
