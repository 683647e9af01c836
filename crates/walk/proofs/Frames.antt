-- One tree of several put in another's place (`put`), with the codes of the others; folded trees; frames one within another.
use mathlib.Core.Path.{◌≡◌, refl, sym, ◌∙◌, ap}
use mathlib.Core.List.{List, [], ◌∷◌, ◌++◌, append_assoc, append-nil}
use Prim.Native.Nat.{ℕ, zero, suc, ◌+◌, ◌<◌, ◌≤◌}
use native.Mathlib.Nat.{not-suc-le-zero, le_of_suc-le-suc}
use native.Mathlib.Omega.{arith}
use lib.ListN.{length, get_or, replicate}
use Rattle.model.specs.Answer.{Answer, refused, done, ◌>>=◌}
use Rattle.model.specs.Types.{kind, form}
use Rattle.model.specs.Tree.{Tree, leaf, node, Forest, nil, more, sizes, leaves}
use Rattle.model.specs.Typing.{Fits, fit_none, fit_more}
use Rattle.model.specs.State.{Code, codes, codess}
use Rattle.model.specs.Walk.{nth, pick}
use Rattle.model.specs.Collect.{firsts}
use Rattle.walk.specs.Frame.{Frame}

-- the tree u as number i
abbrev pub put : ℕ → Tree → Forest → Forest
put i u nil = nil
put zero u (more s ss) = more u ss
put (suc i) u (more s ss) = more s (put i u ss)

-- the trees behind number i
abbrev pub beyond : ℕ → Forest → Forest
beyond i nil = nil
beyond zero (more s ss) = ss
beyond (suc i) (more s ss) = beyond i ss

-- n folded nodes' codes
abbrev pub zeros : ℕ → List Code
zeros n = replicate n (0, 0)

module _ {Γ : List ℕ} where
  -- what is done at the tree number i
  pub nth_put : {ts : List ℕ} {ns : Forest} → Fits Γ ts ns → (i : ℕ) → i < length ts → (f : Tree → Answer Tree)
      → nth i f ns ≡ f (pick i ns) >>= λ u. done (put i u ns)
  nth_put fit_none i h f = absurd (not-suc-le-zero h)
  nth_put (fit_more g gs) zero h f = refl
  nth_put (fit_more {s = s} {ss} g gs) (suc i) h f = bound (f (pick i ss)) (nth_put gs i (le_of_suc-le-suc h) f)
    where
      bound : (a : Answer Tree) → nth i f ss ≡ a >>= (λ u. done (put i u ss))
          → nth i f ss >>= (λ us. done (more s us)) ≡ a >>= λ u. done (more s (put i u ss))
      bound (refused n) e = cc
      bound (done u) e = cc

  -- past the last tree
  pub nth_past : {ts : List ℕ} {ns : Forest} → Fits Γ ts ns → (i : ℕ) → length ts ≤ i → (f : Tree → Answer Tree) → nth i f ns ≡ refused 5
  nth_past fit_none i h f = refl
  nth_past (fit_more g gs) zero h f = absurd (not-suc-le-zero h)
  nth_past (fit_more g gs) (suc i) h f = cc (nth_past gs i (le_of_suc-le-suc h) f)

  -- the same tree again
  pub put_pick : {ts : List ℕ} {ns : Forest} → Fits Γ ts ns → (i : ℕ) → put i (pick i ns) ns ≡ ns
  put_pick fit_none i = refl
  put_pick (fit_more g gs) zero = refl
  put_pick (fit_more {s = s} g gs) (suc i) = ap (more s) (put_pick gs i)

  -- its codes, between those of the others
  pub codess_put : {ts : List ℕ} {ns : Forest} → Fits Γ ts ns → (i : ℕ) → i < length ts → (u : Tree)
      → codess Γ (put i u ns) ≡ codess Γ (firsts i ns) ++ (codes Γ u ++ codess Γ (beyond i ns))
  unfolding codes
  codess_put fit_none i h u = absurd (not-suc-le-zero h)
  codess_put (fit_more g gs) zero h u = refl
  codess_put (fit_more {s = s} g gs) (suc i) h u =
      ap (λ (l : List Code). codes Γ s ++ l) (codess_put gs i (le_of_suc-le-suc h) u) ∙ sym (append_assoc (codes Γ s) _ _)

-- FOLDED TREES

module _ (Γ : List ℕ) where
  -- their codes are zeros
  pub codess_leaves : (ts : List ℕ) → codess Γ (leaves ts) ≡ zeros (length ts)
  unfolding codes leaves
  codess_leaves [] = refl
  codess_leaves (t ∷ ts) = ap (λ (l : List Code). (0, 0) ∷ l) (codess_leaves ts)

  -- those of the first of them too
  pub firsts_leaves : (ts : List ℕ) (i : ℕ) → i < length ts → codess Γ (firsts i (leaves ts)) ≡ zeros i
  unfolding codes leaves
  firsts_leaves [] i h = absurd (not-suc-le-zero h)
  firsts_leaves (t ∷ ts) zero h = refl
  firsts_leaves (t ∷ ts) (suc i) h = ap (λ (l : List Code). (0, 0) ∷ l) (firsts_leaves ts i (le_of_suc-le-suc h))

  -- and of those behind one
  pub beyond_leaves : (ts : List ℕ) (i : ℕ) → i < length ts → (k : ℕ) → length ts ≡ suc (i + k) → codess Γ (beyond i (leaves ts)) ≡ zeros k
  unfolding leaves
  beyond_leaves [] i h k e = absurd (not-suc-le-zero h)
  beyond_leaves (t ∷ ts) zero h k e = let d : length ts ≡ k = omega arith in codess_leaves ts ∙ ap zeros d
  beyond_leaves (t ∷ ts) (suc i) h k e = beyond_leaves ts i (le_of_suc-le-suc h) k (omega arith)

-- a node each
pub sizes_leaves : (ts : List ℕ) → sizes (leaves ts) ≡ length ts
unfolding sizes leaves
sizes_leaves [] = refl
sizes_leaves (t ∷ ts) = omega (arith, sizes_leaves ts)

-- one of them
pub pick_leaves : (ts : List ℕ) (i : ℕ) → i < length ts → pick i (leaves ts) ≡ leaf (get_or ts i 0)
unfolding leaves
pick_leaves [] i h = absurd (not-suc-le-zero h)
pick_leaves (t ∷ ts) zero h = refl
pick_leaves (t ∷ ts) (suc i) h = pick_leaves ts i (le_of_suc-le-suc h)

-- FRAMES

module _ (Γ : List ℕ) where
  -- the whole
  abbrev pub top : Frame Γ (codes Γ)
  top = record { plug = λ z. z; before = []; behind = []; coded = λ z. sym (append-nil (codes Γ z)) }

  -- its codes
  pub within_coded : {A : Type 0} {code : A → List Code} (F : Frame Γ code) (G : Frame Γ (codes Γ)) (z : Tree)
      → code (F.plug (G.plug z)) ≡ F.before ++ G.before ++ (codes Γ z ++ (G.behind ++ F.behind))
  within_coded F G z = F.coded (G.plug z) ∙ ap (λ (l : List Code). F.before ++ (l ++ F.behind)) (G.coded z) ∙ simp append_assoc

  -- one within another
  abbrev pub within : {A : Type 0} {code : A → List Code} → Frame Γ code → Frame Γ (codes Γ) → Frame Γ code
  within F G = record { plug = λ z. F.plug (G.plug z); before = F.before ++ G.before; behind = G.behind ++ F.behind; coded = within_coded F G }

  -- one tree of several
  abbrev pub among : {ts : List ℕ} {ns : Forest} → Fits Γ ts ns → (i : ℕ) → i < length ts → Frame Γ (codess Γ)
  among {ns = ns} fs i h = record { plug = λ z. put i z ns; before = codess Γ (firsts i ns); behind = codess Γ (beyond i ns); coded = codess_put fs i h }

  -- the codes of a node with one child in another place
  pub below_coded : (t v : ℕ) {ts : List ℕ} {ns : Forest} → Fits Γ ts ns → (i : ℕ) → i < length ts → (z : Tree)
      → codes Γ (node t v (put i z ns)) ≡ (form (kind Γ t), v) ∷ codess Γ (firsts i ns) ++ (codes Γ z ++ codess Γ (beyond i ns))
  unfolding codes
  below_coded t v fs i h z = ap (λ (l : List Code). (form (kind Γ t), v) ∷ l) (codess_put fs i h z)

  -- a child of an open node
  abbrev pub below : (t v : ℕ) {ts : List ℕ} {ns : Forest} → Fits Γ ts ns → (i : ℕ) → i < length ts → Frame Γ (codes Γ)
  below t v {ns = ns} fs i h =
      record {
        plug = λ z. node t v (put i z ns);
        before = (form (kind Γ t), v) ∷ codess Γ (firsts i ns);
        behind = codess Γ (beyond i ns);
        coded = below_coded t v fs i h;
      }
