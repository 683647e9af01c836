-- Collecting is refused exactly as `first_clashes` and `bares` (model's Collect) say of the trees alone.
use Rattle.std.specs.Prelude.{◌≡◌, ◌↔◌, Bool, true, false, cond, ◌||◌, List, map, ℕ, eqb}
use Rattle.std.proofs.Math.Path.{refl}
use Rattle.std.proofs.Common.{sym, ◌∙◌, true≢false, arith}
use Rattle.std.proofs.Math.Option.{none, some}
use Rattle.model.specs.Answer.{done, refused, ◌>>=◌, earlier}
use Rattle.model.specs.Types.{kind}
use Rattle.model.specs.Tree.{Tree, node, nil, more, leaf, Forest}
use Rattle.model.specs.Collect.{both, lift, unfoldss, unfolds, folded, collects, collect, bare, bares, first_clash, first_clashes}
use Rattle.base.specs.Tests.{split}
use Rattle.base.specs.Answer.{refusal_bind, refusal, refusal_refused, Accepted, refusal_accepted, refusal_map}

module _ (Γ : List ℕ) where
  -- folded trees have none
  folded_bares : (ss : Forest) → folded ss ≡ true → bares Γ ss ≡ false
  unfolding bare
  folded_bares nil e = refl
  folded_bares (more (leaf t) ss) e = folded_bares ss e
  folded_bares (more (node t v ns) ss) e = absurd (true≢false (sym e))

  -- of two refusals with 7 the first
  earlier_or : (a b : Bool) → earlier (cond a (some 7) none) (cond b (some 7) none) ≡ cond (a || b) (some 7) none
  earlier_or true b = refl
  earlier_or false b = refl

  -- what opens a folded tree is refused exactly if there is a bare variant
  mutual
    unfolding unfolds bare

    unfolds_clash : (e : Tree) → refusal (unfolds Γ e) ≡ cond (bare Γ e) (some 7) none
    unfolds_clash (leaf t) = refl
    unfolds_clash (node t v ns) = split (folded ns)
        (λ e. split (eqb (kind Γ t) 7) (λ d. cc) (λ d. cc (folded_bares ns e)))
        (λ e. split (eqb (kind Γ t) 7)
        (λ d. cc (refusal_map (unfoldss Γ ns) (map (lift true (kind Γ t) v)), unfoldss_clash ns))
        (λ d. cc (refusal_map (unfoldss Γ ns) (map (lift true (kind Γ t) v)), unfoldss_clash ns)))

    unfoldss_clash : (es : Forest) → refusal (unfoldss Γ es) ≡ cond (bares Γ es) (some 7) none
    unfoldss_clash nil = refl
    unfoldss_clash (more e es) =
        refusal_bind (unfolds Γ e) (λ a. unfoldss Γ es >>= λ b. done (both a b)) (λ a. refusal_map (unfoldss Γ es) (both a) ∙ unfoldss_clash es)
        ∙ cc (unfolds_clash e, earlier_or (bare Γ e) (bares Γ es))

  -- collecting is refused exactly if there is a clash, and with its number
  mutual
    unfolding collect first_clash

    collect_clash : (s e : Tree) → refusal (collect Γ s e) ≡ first_clash Γ s e
    collect_clash (leaf t) e = unfolds_clash e
    collect_clash (node t v ns) (leaf u) = refl
    collect_clash (node t v ns) (node u w ms) = split (eqb v w)
        (λ e. cc (refusal_map (collects Γ ns ms) (map (lift false (kind Γ t) v)), collects_clash ns ms))
        (λ e. cc)

    collects_clash : (ss es : Forest) → refusal (collects Γ ss es) ≡ first_clashes Γ ss es
    collects_clash nil es = refl
    collects_clash (more s ss) nil = refl
    collects_clash (more s ss) (more e es) =
        refusal_bind (collect Γ s e) (λ a. collects Γ ss es >>= λ b. done (both a b)) (λ a. refusal_map (collects Γ ss es) (both a) ∙ collects_clash ss es)
        ∙ cc (collect_clash s e)

  -- THE LAWS

  -- collecting from one state to another is refused with r exactly if that is the first clash, and accepted exactly if there is none
  pub collects_refused : (ss es : Forest) (r : ℕ) → (collects Γ ss es ≡ refused r) ↔ (first_clashes Γ ss es ≡ some r)
  collects_refused ss es r =
      let h = refusal_refused (collects Γ ss es) r in
      (λ e. cc (h.0 e, collects_clash ss es), λ e. h.1 (cc (collects_clash ss es)))

  -- accepted exactly if there is no clash
  pub collects_accepted : (ss es : Forest) → Accepted (collects Γ ss es) ↔ (first_clashes Γ ss es ≡ none)
  collects_accepted ss es =
      let h = refusal_accepted (collects Γ ss es) in
      (λ e. cc (h.0 e, collects_clash ss es), λ e. h.1 (cc (collects_clash ss es)))

  -- and so for what opens folded trees
  pub unfoldss_refused : (es : Forest) (r : ℕ) → (unfoldss Γ es ≡ refused r) ↔ ((bares Γ es ≡ true) × (r ≡ 7))
  unfoldss_refused es r =
      let h = refusal_refused (unfoldss Γ es) r in
      let k = unfoldss_clash es in (
        λ e. let z = h.0 e in split (bares Γ es) (λ d. (d, cc)) (λ d. absurd (let o : ◌≡◌ {A = ℕ} 0 1 = cc in omega arith)),
        λ e. h.1 (cc (e.0, e.1)),
      )

  -- accepted exactly if there is none
  pub unfoldss_accepted : (es : Forest) → Accepted (unfoldss Γ es) ↔ (bares Γ es ≡ false)
  unfoldss_accepted es =
      let h = refusal_accepted (unfoldss Γ es) in
      let k = unfoldss_clash es in (
        λ e. let z = h.0 e in split (bares Γ es) (λ d. absurd (let o : ◌≡◌ {A = ℕ} 0 1 = cc in omega arith)) (λ d. d),
        λ e. h.1 (cc),
      )
