-- From a tree to one above it (Order), collecting is never refused: the variants agree where both are open, and what is
-- folded in the one and open in the other is open at sticky nodes only, so at no enum. It holds whatever m is (it is
-- false at a local), and of any two trees, of one type or not.
use Rattle.std.specs.Prelude.{◌≡◌, refl, Bool, List, ℕ, eqb}
use Rattle.std.proofs.Common.{arith, eqb-true}
use Rattle.model.specs.Types.{sticky, below, kind}
use Rattle.model.specs.Tree.{Tree, leaf, node, Forest, nil, more, settle, settles, join, joins}
use Rattle.model.specs.Collect.{folded, unfolds, unfoldss, collect, collects}
use Rattle.base.specs.Tests.{split, cond_split, eqb_sym}
use Rattle.base.specs.Answer.{Accepted, accepted, accept_bind}
use Rattle.base.specs.Kinds.{sticky_not_enum}

module _ (Γ : List ℕ) where
  -- what is settled is opened without refusal
  mutual
    unfolding unfolds settle

    pub settled_unfolds : (m : Bool) (s : Tree) → settle Γ m s ≡ s → Accepted (unfolds Γ s)
    settled_unfolds m (leaf t) p = accepted
    settled_unfolds m (node t v ns) p = split (sticky m (kind Γ t))
        (λ e. cond_split Accepted (folded ns)
        (λ d. cond_split Accepted (eqb (kind Γ t) 7) (λ h. absurd (sticky_not_enum m (kind Γ t) e (eqb-true (kind Γ t) 7 h))) (λ h. accepted))
        (λ d. accept_bind (settleds_unfoldss (below m (kind Γ t)) ns (cc)) (λ a. accepted)))
        (λ e. absurd (let z : ◌≡◌ {A = ℕ} 0 1 = cc in omega arith))

    pub settleds_unfoldss : (m : Bool) (ss : Forest) → settles Γ m ss ≡ ss → Accepted (unfoldss Γ ss)
    settleds_unfoldss m nil p = accepted
    settleds_unfoldss m (more s ss) p = accept_bind (settled_unfolds m s (cc)) (λ a. accept_bind (settleds_unfoldss m ss (cc)) (λ b. accepted))

  -- from a tree to one above it
  mutual
    unfolding collect join settle

    pub collect_above : (m : Bool) (s e : Tree) → join Γ m s e ≡ s → Accepted (collect Γ e s)
    collect_above m (leaf t) (leaf u) p = settled_unfolds m (leaf t) refl
    collect_above m (leaf t) (node u w ms) p = accepted
    collect_above m (node t v ns) (leaf u) p = settled_unfolds m (node t v ns) p
    collect_above m (node t v ns) (node u w ms) p = cond_split Accepted (eqb w v)
        (λ e. accept_bind (collects_above (below m (kind Γ t)) ns ms (cc (eqb_sym v w))) (λ a. accepted))
        (λ e. absurd (let z : ◌≡◌ {A = ℕ} 0 1 = cc (eqb_sym v w) in omega arith))

    pub collects_above : (m : Bool) (ss es : Forest) → joins Γ m ss es ≡ ss → Accepted (collects Γ es ss)
    collects_above m nil nil p = accepted
    collects_above m nil (more e es) p = accepted
    collects_above m (more s ss) nil p = accepted
    collects_above m (more s ss) (more e es) p = accept_bind (collect_above m s e (cc)) (λ a. accept_bind (collects_above m ss es (cc)) (λ b. accepted))
