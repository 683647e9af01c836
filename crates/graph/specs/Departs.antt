-- A block is left as its own run says: a target's own unfolding, done by the replay, gives the state of the exit by that target; and
-- the states of the exits stay good.
use Rattle.std.specs.Prelude.{◌≡◌, refl, true, false, ℕ, eqb}
use Rattle.std.proofs.Common.{sym, ◌∙◌}
use Rattle.std.proofs.Math.Path.{subst}
use mathlib.Core.List.{List, [], ◌∷◌, map}
use Rattle.std.proofs.Math.Option.{Option, none, some}
use Rattle.model.specs.Answer.{done, ◌>>=◌}
use Rattle.model.specs.Tree.{Forest}
use Rattle.model.specs.Place.{Spot, no_index, used_ok}
use Rattle.model.specs.Walk.{walk_at, enum_at}
use Rattle.model.specs.Function.{nlocals}
use Rattle.model.specs.Frame.{Exit}
use Rattle.model.specs.Body.{Left, variants, Choice, choice, open_variant, match_targets, unopened, exits_of, frame}
use Rattle.model.specs.Replay.{opens_at, cast_maybe, own}
use Rattle.base.specs.Tests.{eqb_same, eqb_sym, split, clash}
use Rattle.base.specs.Answer.{then_done, split_answer}
use Rattle.base.specs.Each.{Each, each_none, each_more, each_same, each_both}
use Rattle.solver.specs.Lists.{each_apart, Once, once_head, once_tail}
use Rattle.solver.specs.Laws.{Good}
use Rattle.solver.specs.Canon.{exit_items}
use Rattle.graph.specs.Points.{match_listed}
use Rattle.graph.specs.Elements.{unopened_each, element_exits, element_refused, element_own, enum_exits}
use Rattle.graph.specs.Trees.{small_good, Trees}

module _ (Γ fn : List ℕ) {Ok : Forest → Type 0} (T : Trees Γ fn Ok) where
  -- a state of the run
  abbrev Fair : Forest → Type 0
  Fair E = Good (frame Γ fn) Ok E

  -- THE EXITS

  -- what a target opens
  variant_opened : (q : Spot) (o : Option ℕ) (E : Forest) {D : Forest} → used_ok (nlocals fn) q ≡ true → Fair E → open_variant Γ fn q o E ≡ done D
      → (cast_maybe Γ q o E ≡ done D) × Fair D
  unfolding open_variant cast_maybe
  variant_opened q none E {D} u F e = let z : E ≡ D = cc in (e, rw z at F)
  variant_opened q (some v) E u F e = let O = T.opens q v E u F e in (O.cast, small_good Γ fn O.ok O.small)

  -- an exit by a match's target
  abbrev Matches : Spot → Forest → List (ℕ × ℕ) → Left → Exit Forest → Type 0
  Matches q E ts ds x = ((opens_at Γ fn x.item ts ds >>= λ o. cast_maybe Γ q o E) ≡ done x.state) × Fair x.state

  -- the exit by the first target
  match_first : (q : Spot) (E : Forest) (t : ℕ × ℕ) (ts : List (ℕ × ℕ)) (ds : Left) {c : Choice} {D : Forest} → choice fn t.0 ds ≡ done c
      → cast_maybe Γ q c.opens E ≡ done D → Fair D → Matches q E (t ∷ ts) ds (record { item = t.0; block = t.1; state = D })
  unfolding opens_at
  match_first q E t ts ds p k F = (cc (eqb_same t.0), F)

  -- an exit by a later one
  match_later : (q : Spot) (E : Forest) (t : ℕ × ℕ) (ts : List (ℕ × ℕ)) (ds : Left) {c : Choice} → choice fn t.0 ds ≡ done c
      → (x : Exit Forest) → eqb x.item t.0 ≡ false → Matches q E ts c.remain x → Matches q E (t ∷ ts) ds x
  unfolding opens_at
  match_later q E t ts ds {c} p x n M = (cc (eqb_sym t.0 x.item, M.0), M.1)

  -- all exits of a match
  match_departs : (q : Spot) (E : Forest) → used_ok (nlocals fn) q ≡ true → Fair E → (ts : List (ℕ × ℕ)) (ds : Left) {xs : List (Exit Forest)}
      → Once (map (λ t. t.0) ts) → match_targets Γ fn q E ts ds ≡ done xs → Each (Matches q E ts ds) xs
  unfolding match_targets
  match_departs q E u F [] ds {xs} o e = let z : [] ≡ xs = cc in rw (← z) each_none
  match_departs q E u F (t ∷ ts) ds {xs} o e =
      let (c, p, e₁) = then_done (choice fn t.0 ds) e in
      let (D, v, e₂) = then_done (open_variant Γ fn q c.opens E) e₁ in
      let (ys, w, e₃) = then_done (match_targets Γ fn q E ts c.remain) e₂ in
      let z : record { item = t.0; block = t.1; state = D } ∷ ys ≡ xs = cc in
      let (k, G) = variant_opened q c.opens E u F v in
      let away = each_apart (λ (x : Exit Forest). x.item) t.0 {l = ys} (rw (exit_items ys, match_listed Γ fn q E ts c.remain w) (once_head o)) in
      subst (Each (Matches q E (t ∷ ts) ds)) z (each_more (match_first q E t ts ds p k G)
      (each_same (λ x j. match_later q E t ts ds p x j.0 j.1) (each_both away (match_departs q E u F ts c.remain (once_tail o) w))))

  -- each exit is by its target's own unfolding, and its state is good
  abbrev pub Departs : Option Spot → List (ℕ × ℕ) → Forest → Exit Forest → Type 0
  Departs m ts E x = (own Γ fn x.item ts m E ≡ done x.state) × Good (frame Γ fn) Ok x.state

  -- so of all exits of a block
  pub exits_depart : (m : Option Spot) → ((q : Spot) → m ≡ some q → used_ok (nlocals fn) q ≡ true) → (ts : List (ℕ × ℕ)) (E : Forest) {xs : List (Exit Forest)}
      → Once (map (λ t. t.0) ts) → Fair E → exits_of Γ fn m ts E ≡ done xs → Each (Departs m ts E) xs
  unfolding exits_of own
  exits_depart none a ts E {xs} o F e =
      let z : unopened ts E ≡ xs = cc in
      subst (Each (Departs none ts E)) z (unopened_each (Departs none ts E) E (λ u. (refl, F)) ts)
  exits_depart (some q) a ts E {xs} o F e = split (no_index q.place)
      (λ i.
      let (t, v, w) = then_done (enum_at Γ q E) (sym (enum_exits Γ fn q ts E i) ∙ e) in
      each_same (λ x M. (cc M.0, M.1)) (match_departs q E (a q refl) F ts (variants Γ t) o w))
      (λ i. split_answer (walk_at Γ q E)
      (λ n r. clash (cc (element_refused Γ fn q ts E i r)))
      (λ D r.
      let z : unopened ts E ≡ xs = cc (element_exits Γ fn q ts E i r) in
      subst (Each (Departs (some q) ts E)) z (unopened_each (Departs (some q) ts E) E (λ u. (element_own Γ fn q ts E i u.0, F)) ts)))
