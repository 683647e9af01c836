-- A place used, where its walk has ended: each of the three things that may be recorded, with the state after.
use mathlib.Core.Path.{◌≡◌, refl, sym, ◌∙◌, ap, subst}
use mathlib.Core.Bool.{true}
use mathlib.Core.List.{List, [], ◌∷◌, ◌++◌}
use Prim.Native.Nat.{ℕ, ◌+◌, ◌-◌, ◌<◌, ◌≤◌}
use native.Mathlib.Omega.{arith}
use lib.ListN.{length, get_or, length-append}
use Rattle.std.specs.Prelude.{Ok, None}
use Rattle.model.specs.Answer.{refused, done, ◌>>=◌}
use Rattle.model.specs.Tree.{Tree, leaf, Forest, sizes, type, unfolded}
use Rattle.model.specs.State.{Code, codes, codess}
use Rattle.model.specs.Place.{Place, Spot, Fold, Unfold, At, base, walked, fold_ok}
use Rattle.model.specs.Walk.{pick, walk, folding, carry, passed, projection, fitting}
use Rattle.model.specs.Calls.{recorded_as, recorded_verb}
use Rattle.base.specs.Typed.{Typed}
use Rattle.base.specs.Answer.{good_at}
use Rattle.laws.specs.Places.{base_walked}
use Rattle.laws.specs.Levels.{nth_levels}
use Rattle.laws.proofs.Levels.{carry_levels}
use Rattle.laws.specs.Projected.{changed_goes}
use Rattle.laws.specs.Projection.{projection_folds}
use Rattle.laws.proofs.Projection.{projection_fits}
use Rattle.laws.specs.Recorded.{numbered}
use Rattle.records.specs.Here.{Holds}
use Rattle.records.specs.Codes.{length_codes, length_codess, size_pos}
use Rattle.records.specs.Holds.{holds_few}
use Rattle.records.specs.Coded.{coded_folded, coded_opened}
use Rattle.state.specs.Value.{value}
use Rattle.state.specs.declared.nodes.State.{State}
use Rattle.walk.specs.Fresh.{folded, trail}
use Rattle.walk.specs.Applied.{Encoded, tip, opening, Opens, Carried, Folds, Folded}
use Rattle.walk.specs.declared.along.Walk.{Walk}
use Rattle.walk.proofs.Ends.{site_changed, site_passed, site_stays, site_grafted}
use Rattle.env.specs.declared.project.Projected.TheVariants.{Nothing, Fold as ToFold, Unfold as ToUnfold}
use Rattle.env.specs.declared.project.Projected.{Projected}
use Rattle.env.specs.declared.project.Use.{Use}
use Rattle.env.specs.Answers.{usage, Projects}
use Rattle.env.specs.Given.{Sited}
use Rattle.env.proofs.Limits.{fold_walks, fold_usable, spot_limited}
use Rattle.env.proofs.Answered.{projects_done}
use Rattle.env.proofs.States.{holds_encoded, encoded_holds, fitting_fits, fitting_full, Grafts, Stands, among_grafted, among_stays}
use Rattle.env.proofs.Projecting.{length_without, with_these, projection_unfolds, projection_folded, projection_nothing}
use Rattle.env.proofs.Lasts.{sited_opens, carried_encoded, grafts_nodes}

module _ {Γ ops args : List ℕ} {s : State} {w : Walk} (h : Typed Γ) (d : Sited Γ s ops args w) where
  -- a state with the codes of what a projection gives holds it
  used_holds : fold_ok (length d.locals) d.spot ≡ true → {D : Forest} {as' : List At} {r : State} → projection Γ d.spot d.state ≡ done (D, as') → Encoded r (codess Γ D)
      → Holds Γ d.locals (value r) D
  unfolding carry
  used_holds ok e c =
      let q : Spot = d.spot in
      let n : ℕ = length d.locals in
      let u = fold_usable n q ok in
      let near = (spot_limited n q 64 (fold_walks n q ok)).near in
      encoded_holds c
      (good_at (projection_fits Γ q d.state u d.holds.trees.fits) e)
      (good_at (nth_levels (walk Γ folding q.place) (carry_levels Γ (record { verb = Fold; place = q.place; told = 0 }) (near, u)) q.local d.state d.holds.deep) (good_at (projection_folds Γ q d.state u) e))

  -- how many elements it has passed; the walk counts the root
  abbrev number : ℕ
  number = passed Γ d.spot.place (pick d.spot.local d.state)

  number_is : w.passed - 1 ≡ number
  number_is = omega (arith, site_passed h d.is d.site)

  -- a use that records p, told with that number
  use_is : {p r : Projected} → p ≡ r → ◌≡◌ {A = Use} (record { recorded = p; passed = w.passed - 1 }) (record { recorded = r; passed = number })
  use_is e = rw (e, number_is)

  -- AN UNFOLD

  module _ (l : w.passed < w.walked) where
    -- what the walk opens
    unfold_grafts : Grafts Γ done d.spot.local d.spot.place d.state w.node (trail Γ (folded w.typ 0) (opening ops args w) ++ tip Γ w.fresh None) w.fresh.added
    unfold_grafts = among_grafted d.holds.trees.fits d.spot.local d.known (site_grafted h d.is d.site (d.site.passing.folded l))

    -- it can be carried out
    pub unfold_opens : s.nodes + w.fresh.added ≤ 512 → Opens Γ ops args s w None
    unfold_opens r = sited_opens h d unfold_grafts refl r

    -- what is recorded
    unfold_is : projection Γ d.spot d.state ≡ fitting Γ unfold_grafts.result >>= with_these (numbered d.spot.local (record { verb = Unfold; place = base d.spot.place; told = number }) ∷ [])
    unfold_is = projection_unfolds d.holds.trees.fits d.spot d.known (site_changed h d.is d.site l) unfold_grafts.walks

    -- there is no room for it
    pub unfold_full : 512 < s.nodes + w.fresh.added → projection Γ d.spot d.state ≡ refused 9
    unfold_full m = unfold_is ∙ rw (fitting_full Γ unfold_grafts.result (omega (arith, grafts_nodes h d unfold_grafts)))

    -- the elements that it is recorded for
    unfold_length : length (base d.spot.place) ≡ w.walked - 2
    unfold_length =
        let p : Place = d.spot.place in
        omega (arith, d.site.far, ap length (base_walked p (changed_goes Γ p (pick d.spot.local d.state) (site_changed h d.is d.site l))), length_without (walked p))

    -- there is
    unfold_done : s.nodes + w.fresh.added ≤ 512
        → projection Γ d.spot d.state ≡ done (unfold_grafts.result, numbered d.spot.local (record { verb = Unfold; place = base d.spot.place; told = number }) ∷ [])
    unfold_done m = unfold_is ∙ rw (fitting_fits Γ unfold_grafts.result (omega (arith, grafts_nodes h d unfold_grafts)))

    -- it is carried out
    pub unfold_projects : s.nodes + w.fresh.added ≤ 512 → fold_ok (length d.locals) d.spot ≡ true → {r : State} → Carried Γ ops args s w None r
        → Projects Γ d.locals s number (projection Γ d.spot d.state) (usage (Ok (record { recorded = ToUnfold (w.walked - 2); passed = w.passed - 1 })) r)
    unfolding recorded_as recorded_verb
    unfold_projects m ok C = projects_done (unfold_done m) (use_is (ap ToUnfold (sym unfold_length))) (used_holds ok (unfold_done m) (carried_encoded h d unfold_grafts refl refl C))

  -- A FOLD, OR NOTHING

  module _ (l : w.passed ≡ w.walked) where
    -- the node reached
    abbrev reached_tree : Tree
    reached_tree = d.site.passing.midway.tree

    -- it stands in the state
    used_stands : Stands Γ d.spot.local d.spot.place d.state w.node reached_tree
    used_stands = among_stays d.holds.trees.fits d.spot.local d.known (site_stays h d.is d.site l)

    -- its codes, between the others
    used_encoded : Encoded s (used_stands.frame.before ++ (codes Γ reached_tree ++ used_stands.frame.behind))
    used_encoded = subst (Encoded s) (ap (codess Γ) (sym used_stands.whole) ∙ used_stands.frame.coded reached_tree) (holds_encoded d.holds)

    -- it can be folded
    pub fold_folds : Folds Γ s w.node w.typ
    fold_folds =
        record {
          tree = reached_tree;
          here = d.site.passing.midway.here;
          front = used_stands.frame.before;
          back = used_stands.frame.behind;
          coded = used_encoded;
          at = used_stands.place;
        }

    module _ (f : get_or s.forms w.node 0 ≡ 0 → ⊥) where
      -- it is open
      reached_open : unfolded reached_tree ≡ true
      reached_open = ap unfolded (coded_opened d.site.passing.midway.here f).is

      -- the state with the node folded
      folded_state : Forest
      folded_state = used_stands.frame.plug (leaf (type reached_tree))

      -- its codes
      folded_codes : codess Γ folded_state ≡ used_stands.frame.before ++ ((0, 0) ∷ used_stands.frame.behind)
      unfolding folded_state codes
      folded_codes = used_stands.frame.coded (leaf (type reached_tree))

      -- it has no more nodes
      folded_few : sizes folded_state ≤ 512
      folded_few =
          let B : List Code = used_stands.frame.before in
          let A : List Code = used_stands.frame.behind in
          omega (
            arith,
            used_encoded.few,
            length-append B (codes Γ reached_tree ++ A),
            length-append (codes Γ reached_tree) A,
            length_codes Γ reached_tree,
            size_pos reached_tree,
            length_codess Γ folded_state,
            ap length folded_codes,
            length-append B ((0, 0) ∷ A),
          )

      -- what is recorded
      fold_done : projection Γ d.spot d.state ≡ done (folded_state, numbered d.spot.local (record { verb = Fold; place = d.spot.place; told = 0 }) ∷ [])
      unfolding folded_state
      fold_done =
          projection_folded d.holds.trees.fits d.spot d.known used_stands.unchanged (ap unfolded used_stands.reaches ∙ reached_open) (used_stands.leads done) (used_stands.leads folding)
          ∙ rw (fitting_fits Γ folded_state folded_few)

      -- a fold
      pub fold_projects : fold_ok (length d.locals) d.spot ≡ true → {r : State} → Folded Γ s w.node w.typ r
          → Projects Γ d.locals s number (projection Γ d.spot d.state) (usage (Ok (record { recorded = ToFold; passed = w.passed - 1 })) r)
      unfolding recorded_as recorded_verb
      fold_projects ok {r} F =
          projects_done fold_done (use_is refl) (used_holds ok fold_done (subst (Encoded r) (sym folded_codes)
          (F.coded used_stands.frame.before used_stands.frame.behind reached_tree d.site.passing.midway.here used_encoded used_stands.place)))

    module _ (z : get_or s.forms w.node 0 ≡ 0) where
      -- the state stays as it is
      nothing_done : projection Γ d.spot d.state ≡ done (d.state, [])
      nothing_done =
          let e : projection Γ d.spot d.state ≡ fitting Γ d.state >>= with_these [] =
          projection_nothing d.holds.trees.fits d.spot d.known used_stands.unchanged
          (ap unfolded (used_stands.reaches ∙ coded_folded h.known d.site.passing.midway.here z)) (used_stands.leads done ∙ ap done used_stands.whole) in
          e ∙ rw (fitting_fits Γ d.state (holds_few d.holds))

      -- nothing
      pub nothing_projects : Projects Γ d.locals s number (projection Γ d.spot d.state) (usage (Ok (record { recorded = Nothing; passed = w.passed - 1 })) s)
      unfolding recorded_as
      nothing_projects = projects_done {w = (d.state, [])} nothing_done (use_is refl) d.holds
