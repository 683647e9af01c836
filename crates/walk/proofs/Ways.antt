-- Ways through open nodes: none, one after another, one step. The elements that items say.
use mathlib.Core.Path.{◌≡◌, refl, sym, ◌∙◌, ap}
use mathlib.Core.Bool.{true, false, true≢false}
use mathlib.Core.List.{List, [], ◌∷◌, ◌++◌}
use Prim.Native.Nat.{ℕ, zero, suc, ◌+◌, ◌-◌, ◌<◌}
use native.Mathlib.Nat.{not-suc-le-zero, add-suc, suc-add, add-zero, zero-add}
use native.Mathlib.Numerals.{add-one, sub-one}
use native.Mathlib.Omega.{arith}
use lib.ListN.{length}
use Rattle.model.specs.Words.{word}
use Rattle.model.specs.Block.{elem_of}
use Rattle.model.specs.Answer.{Answer, done, ◌>>=◌}
use Rattle.model.specs.Tree.{Tree, unfolded}
use Rattle.model.specs.Place.{Elem, deref, field, downcast, index, Place, stops, no_index}
use Rattle.model.specs.Walk.{inside, step, walk, next, reached, changed, passed}
use Rattle.base.specs.Answer.{bind_done, bind_bind}
use Rattle.walk.specs.Way.{route, acts, Stepped, Way}
use Rattle.walk.proofs.Frames.{top, within}

module _ (Γ : List ℕ) where
  -- a walk begins with what its first step does
  pub walk_acts : (e : Elem) (q : Place) → stops (e ∷ []) ≡ false → (act : Tree → Answer Tree) (x : Tree)
      → walk Γ act (e ∷ q) x ≡ acts Γ e x >>= inside e (walk Γ act q)
  unfolding walk step acts
  walk_acts deref q h act x = refl
  walk_acts (field i) q h act x = refl
  walk_acts (downcast v) q h act x = refl
  walk_acts index q h act x = absurd (true≢false h)

  -- at an open node a step changes nothing
  pub changed_next : (e : Elem) (q : Place) → stops (e ∷ []) ≡ false → (x : Tree) → unfolded x ≡ true → changed Γ (e ∷ q) x ≡ changed Γ q (next Γ e x)
  unfolding changed
  changed_next deref q h x o = rw o
  changed_next (field i) q h x o = rw o
  changed_next (downcast v) q h x o = rw o
  changed_next index q h x o = absurd (true≢false h)

  -- and passes one element
  pub passed_next : (e : Elem) (q : Place) → stops (e ∷ []) ≡ false → (x : Tree) → unfolded x ≡ true → passed Γ (e ∷ q) x ≡ suc (passed Γ q (next Γ e x))
  unfolding passed
  passed_next deref q h x o = rw o refl
  passed_next (field i) q h x o = rw o refl
  passed_next (downcast v) q h x o = rw o refl
  passed_next index q h x o = absurd (true≢false h)

  -- and the walk goes on where it leads
  pub reached_next : (e : Elem) (q : Place) → stops (e ∷ []) ≡ false → (x : Tree) → reached Γ (e ∷ q) x ≡ reached Γ q (next Γ e x)
  unfolding reached
  reached_next deref q h x = refl
  reached_next (field i) q h x = refl
  reached_next (downcast v) q h x = refl
  reached_next index q h x = absurd (true≢false h)

module _ {Γ : List ℕ} where
  -- no step
  unfoldable pub way_here : {p : Place} {x : Tree} → Way Γ p x p x
  way_here {p} {x} = record { frame = top Γ; whole = refl; leads = λ act. sym (bind_done (walk Γ act p x)); changes = refl; reaches = refl; passes = refl }

  -- one way after another
  unfoldable pub way_then : {p q r : Place} {x y z : Tree} → Way Γ p x q y → Way Γ q y r z → Way Γ p x r z
  way_then {p} {q} {r} {x} {y} {z} a b =
      record {
        frame = within Γ a.frame b.frame;
        whole = ap a.frame.plug b.whole ∙ a.whole;
        leads = λ act.
            a.leads act
            ∙ ap (λ (s : Answer Tree). s >>= λ u. done (a.frame.plug u)) (b.leads act)
            ∙ bind_bind (walk Γ act r z) (λ u. done (b.frame.plug u)) (λ u. done (a.frame.plug u));
        changes = a.changes ∙ b.changes;
        reaches = a.reaches ∙ b.reaches;
        passes = omega (arith, a.passes, b.passes);
      }

  -- a step
  unfoldable pub way_step : {fs ws : List ℕ} {i n u : ℕ} {e : Elem} {x : Tree} {p : Place} (q : Place) → p ≡ e ∷ q → stops (e ∷ []) ≡ false
      → (h : Stepped Γ fs ws i e x n u) → Way Γ p x q h.tree
  way_step {e = e} {x} q d s h =
      record {
        frame = h.frame;
        whole = h.whole;
        leads = λ act. ap (λ (r : Place). walk Γ act r x) d ∙ walk_acts Γ e q s act x ∙ h.leads (walk Γ act q);
        changes = ap (λ (r : Place). changed Γ r x) d ∙ changed_next Γ e q s x h.was_open ∙ ap (changed Γ q) h.ends;
        reaches = ap (λ (r : Place). reached Γ r x) d ∙ reached_next Γ e q s x ∙ ap (reached Γ q) h.ends;
        passes = omega (arith, ap (λ (r : Place). passed Γ r x) d, passed_next Γ e q s x h.was_open, ap (passed Γ q) h.ends, ap length d);
      }

-- a place with no index begins with a step
pub no_index_first : (e : Elem) (p : Place) → no_index (e ∷ p) ≡ true → stops (e ∷ []) ≡ false
no_index_first deref p h = refl
no_index_first (field i) p h = refl
no_index_first (downcast v) p h = refl
no_index_first index p h = sym h

-- and goes on without one
pub no_index_rest : (e : Elem) (p : Place) → no_index (e ∷ p) ≡ true → no_index p ≡ true
no_index_rest deref p h = h
no_index_rest (field i) p h = h
no_index_rest (downcast v) p h = h
no_index_rest index p h = absurd (true≢false (sym h))

-- the elements from item i on, one by one
pub route_cons : (ops args : List ℕ) (i n : ℕ) → 0 < n → route ops args i n ≡ elem_of (word ops i) (word args i) ∷ route ops args (i + 1) (n - 1)
unfolding route
route_cons ops args i zero h = absurd (not-suc-le-zero h)
route_cons ops args i (suc n) h = rw (add-one, sub-one)

-- up to item e
pub route_next : (ops args : List ℕ) (i e : ℕ) → i < e → route ops args i (e - i) ≡ elem_of (word ops i) (word args i) ∷ route ops args (i + 1) (e - (i + 1))
route_next ops args i e l =
    let n : e - i - 1 ≡ e - (i + 1) = omega arith in
    route_cons ops args i (e - i) (omega arith) ∙ ap (λ (k : ℕ). elem_of (word ops i) (word args i) ∷ route ops args (i + 1) k) n

-- in two parts
pub route_split : (ops args : List ℕ) (i m n : ℕ) → route ops args i (m + n) ≡ route ops args i m ++ route ops args (i + m) n
unfolding route
route_split ops args i zero n = rw (zero-add, add-zero)
route_split ops args i (suc m) n = rw (suc-add) (ap (λ (p : Place). elem_of (word ops i) (word args i) ∷ p) (rw (add-suc, ← suc-add) (route_split ops args (suc i) m n)))

-- as many as items
pub length_route : (ops args : List ℕ) (i n : ℕ) → length (route ops args i n) ≡ n
unfolding route
length_route ops args i zero = refl
length_route ops args i (suc n) = ap suc (length_route ops args (suc i) n)
