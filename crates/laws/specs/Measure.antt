-- The measure falls with every join that changes the first state, and has a ceiling.
-- A join never adds a loose node; if it takes none away, it only opens sticky nodes; if it opens none, it changes nothing.
use Rattle.std.specs.Prelude.{◌≡◌, refl, ◌≢◌, Bool, false, List, ℕ, ◌+◌, ◌*◌, ◌-◌, ◌≤◌, ◌<◌, eqb}
use Rattle.std.proofs.Common.{ap, ap₂, sym, ◌∙◌, arith}
use Rattle.std.proofs.Math.Decide.{dec_lt}
use Rattle.model.specs.Types.{sticky, below, kind}
use Rattle.model.specs.Tree.{Tree, leaf, node, Forest, nil, more, size, sizes, settle, settles, join, joins}
use Rattle.model.specs.Typing.{Fit, Fits, fit_leaf, fit_node, fit_none, fit_more}
use Rattle.model.specs.State.{most}
use Rattle.model.specs.Measure.{measure, stucks, stuck, loose, looses, ceiling}
use Rattle.base.specs.Tests.{split}
use Rattle.laws.specs.Typing.{apart, recast}

module _ (Γ : List ℕ) where
  -- loose and stuck nodes are nodes
  mutual
    unfolding loose stuck size

    pub opens_size : (m : Bool) (s : Tree) → loose Γ m s + stuck Γ m s ≤ size s
    opens_size m (leaf t) = omega arith
    opens_size m (node t v ns) =
        let h = opens_sizes (below m (kind Γ t)) ns in
        split (sticky m (kind Γ t)) (λ e. rw e (omega (arith, h))) (λ e. rw e (omega (arith, h)))

    pub opens_sizes : (m : Bool) (ss : Forest) → looses Γ m ss + stucks Γ m ss ≤ sizes ss
    opens_sizes m nil = omega arith
    opens_sizes m (more s ss) = omega (arith, opens_size m s, opens_sizes m ss)

  -- what is settled has no loose node
  mutual
    unfolding loose settle

    loose_settle : (m : Bool) (s : Tree) → loose Γ m (settle Γ m s) ≡ 0
    loose_settle m (leaf t) = refl
    loose_settle m (node t v ns) = split (sticky m (kind Γ t)) (λ e. cc (looses_settles (below m (kind Γ t)) ns)) (λ e. cc)

    looses_settles : (m : Bool) (ss : Forest) → looses Γ m (settles Γ m ss) ≡ 0
    looses_settles m nil = refl
    looses_settles m (more s ss) = omega (arith, loose_settle m s, looses_settles m ss)

  -- what has no loose node is settled
  mutual
    unfolding loose settle

    settle_tight : (m : Bool) (s : Tree) → loose Γ m s ≡ 0 → settle Γ m s ≡ s
    settle_tight m (leaf t) p = refl
    settle_tight m (node t v ns) p = split (sticky m (kind Γ t))
        (λ e. cc (settles_tight (below m (kind Γ t)) ns (omega arith)))
        (λ e. absurd (let q = rw e at p in omega arith))

    settles_tight : (m : Bool) (ss : Forest) → looses Γ m ss ≡ 0 → settles Γ m ss ≡ ss
    settles_tight m nil p = refl
    settles_tight m (more s ss) p = cc (settle_tight m s (omega arith), settles_tight m ss (omega arith))

-- a step that takes d loose and k stuck nodes to d' and k', and is no step at all if `Same`
pub record Progress (d d' k k' : ℕ) (Same : Type 0) : Type 0 where
  pub less : d' ≤ d
  pub keep : d' ≡ d → k ≤ k'
  pub still : d' ≡ d → k' ≡ k → Same

-- two steps side by side
both : {d d' k k' e e' l l' : ℕ} {A B C : Type 0} → Progress d d' k k' A → Progress e e' l l' B → (A → B → C)
    → Progress (d + e) (d' + e') (k + l) (k' + l') C
both a b c = record {
  less = omega arith;
  keep = λ p. omega (arith, a.keep (omega arith), b.keep (omega arith));
  still = λ p q. c
      (a.still (omega arith) (omega (arith, a.keep (omega arith), b.keep (omega arith))))
      (b.still (omega arith) (omega (arith, a.keep (omega arith), b.keep (omega arith))));
}

-- a step that is one makes the measure fall
falls : {d d' k k' : ℕ} {Same : Type 0} → Progress d d' k k' Same → ¬ Same → d + k ≤ most → k' ≤ most
    → d' * most + (most - k') < d * most + (most - k)
falls {d} {d'} {k} {k'} r n g h = elim (dec_lt (d' * most + (most - k')) (d * most + (most - k))) [
  | yes p ↦ p
  | no q ↦ absurd (n (r.still (omega arith) (omega (arith, r.keep (omega arith)))))
]

module _ {Γ : List ℕ} where
  -- a join of two trees of one type is such a step
  mutual
    unfolding loose stuck settle join

    pub progress : (m : Bool) {t : ℕ} {s e : Tree} → Fit Γ t s → Fit Γ t e
        → Progress (loose Γ m s) (loose Γ m (join Γ m s e)) (stuck Γ m s) (stuck Γ m (join Γ m s e)) (join Γ m s e ≡ s)
    progress m fit_leaf fit_leaf = record { less = omega arith; keep = omega arith; still = λ p q. refl }
    progress m fit_leaf (fit_node {t} {v} {ns} o gs) = record {
      less = omega (arith, loose_settle Γ m (node t v ns));
      keep = omega arith;
      still = λ p q. split (sticky m (kind Γ t)) (λ e. absurd (let r = rw (e, e) at q in omega arith)) (λ e. cc);
    }
    progress m (fit_node {t} {v} {ns} o fs) fit_leaf =
        let h = loose_settle Γ m (node t v ns) in
        record {
          less = omega (arith, h);
          keep = λ p. omega (arith, ap (stuck Γ m) (settle_tight Γ m (node t v ns) (sym p ∙ h)));
          still = λ p q. settle_tight Γ m (node t v ns) (sym p ∙ h);
        }
    progress m (fit_node {t} {v} o fs) (fit_node {v = w} o' gs) = split (eqb v w)
        (λ e.
        let r = progresses (below m (kind Γ t)) fs (recast t v w e gs) in
        rw e (record {
          less = omega (arith, r.less);
          keep = λ p. omega (arith, r.keep (omega arith));
          still = λ p q. ap (node t v) (r.still (omega arith) (omega arith));
        }))
        (λ e. rw (e, apart m o o' e) (record { less = omega arith; keep = omega arith; still = λ p q. absurd (omega arith) }))

    pub progresses : (m : Bool) {ts : List ℕ} {ss es : Forest} → Fits Γ ts ss → Fits Γ ts es
        → Progress (looses Γ m ss) (looses Γ m (joins Γ m ss es)) (stucks Γ m ss) (stucks Γ m (joins Γ m ss es)) (joins Γ m ss es ≡ ss)
    progresses m fit_none fit_none = record { less = omega arith; keep = omega arith; still = λ p q. refl }
    progresses m (fit_more f fs) (fit_more g gs) = both (progress m f g) (progresses m fs gs) (ap₂ more)

-- OF STATES

-- of a state that fits
pub measure_bound : (Γ : List ℕ) (ss : Forest) → sizes ss ≤ most → measure Γ ss ≤ ceiling
unfolding measure
measure_bound Γ ss h = omega (arith, opens_sizes Γ false ss)

-- a join that changes the first state, where that and the result fit. (From 513 nodes on it need not fall: one loose node lost,
-- and 512 stuck ones)
pub measure_falls : {Γ ts : List ℕ} {ss es : Forest} → Fits Γ ts ss → Fits Γ ts es → sizes ss ≤ most → sizes (joins Γ false ss es) ≤ most
    → joins Γ false ss es ≢ ss → measure Γ (joins Γ false ss es) < measure Γ ss
unfolding measure
measure_falls {Γ} {ss} {es} f g h k n = falls (progresses false f g) n
    (omega (arith, opens_sizes Γ false ss))
    (omega (arith, opens_sizes Γ false (joins Γ false ss es)))
