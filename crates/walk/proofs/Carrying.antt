-- A walk carried out on a state: in a gap there is room for what it opens (`opens_room`), and what is written
-- is what it opens, with one step more (`carried_last`) or none (`carried_none`).
use mathlib.Core.Path.{◌≡◌, refl, sym, ◌∙◌, ap, subst}
use mathlib.Core.List.{List, [], ◌∷◌, ◌++◌}
use Prim.Native.Nat.{ℕ, suc, ◌+◌, ◌<◌, ◌≤◌}
use native.Mathlib.Omega.{arith}
use lib.ListN.{length, length-append}
use Rattle.std.specs.Prelude.{Option, Some, None, Ok}
use Rattle.model.specs.Types.{ntypes, kind, form}
use Rattle.model.specs.Tree.{size}
use Rattle.model.specs.State.{Code}
use Rattle.model.specs.Place.{Elem}
use Rattle.base.specs.Typed.{Typed}
use Rattle.records.specs.Codes.{size_pos}
use Rattle.state.specs.Spliced.{splice}
use Rattle.state.specs.Value.{state_in}
use Rattle.state.specs.declared.nodes.State.{State}
use Rattle.walk.specs.Fresh.{folded, bud, sprout, stub, variant, mark, trail}
use Rattle.walk.specs.Applied.{Encoded, Inked, Room, Penned, Opens, Adds, Carried, marked, filled, tip, element, opening}
use Rattle.walk.specs.declared.step.More.{More}
use Rattle.walk.specs.declared.step.Fresh.{Fresh}
use Rattle.walk.specs.declared.along.Walk.{Walk}
use Rattle.walk.specs.declared.apply.Pen.{Pen}
use Rattle.walk.proofs.Growing.{Sprig, sprig_to, Sprung, Sprouted, sprouted}
use Rattle.walk.proofs.Sites.{bud_folded}
use Rattle.walk.proofs.Inks.{Replaced, encoded_long, inked_none, inked_encoded}
use Rattle.walk.proofs.Turns.{to_same, stub_short, mark_form, mark_what, inked_marked}

module _ {Γ ops args : List ℕ} {s : State} {w : Walk} {more : Option More} (h : Typed Γ) (O : Opens Γ ops args s w more) where
  -- where the folded node stands, and that there is room for a gap
  pub opens_node : (w.node < s.nodes) × (0 < 1 + w.fresh.added) × (s.nodes + (1 + w.fresh.added) ≤ 513)
  opens_node = (omega (arith, O.at, O.coded.nodes, length-append O.front ((0, 0) ∷ O.back)), omega arith, omega (arith, O.room))

  -- the walk by types
  opens_sprung : Sprung Γ (folded w.typ 0) (opening ops args w) O.before
  opens_sprung =
      subst (Sprouted Γ (folded w.typ 0) (opening ops args w)) O.leads (sprouted Γ h (opening ops args w) O.plain (folded w.typ 0) (bud_folded w.typ 0 O.known))

  -- the step more
  opens_sprig : {m : More} → more ≡ Some m → Sprig Γ O.before (element m) w.fresh
  opens_sprig e = sprig_to Γ h opens_sprung.fine (rw e at O.adds)

  -- its variant is a number of 16 bits
  pub opens_slim : {m : More} → more ≡ Some m → variant (element m) < 65536
  opens_slim e = omega (arith, (opens_sprig e).slim)

  -- the walk adds no more than it does with that step
  opens_more : O.before.added ≤ w.fresh.added
  opens_more = adds_more more O.adds
    where
      adds_more : (m : Option More) → Adds Γ O.before m w.fresh → O.before.added ≤ w.fresh.added
      adds_more None e = omega (arith, ap (λ (f : Fresh). f.added) e)
      adds_more (Some m) e = (sprig_to Γ h opens_sprung.fine e).more

  -- codes of the nodes before the one it leads to
  abbrev past : List Code
  past = trail Γ (folded w.typ 0) (opening ops args w)

  -- they are few
  past_few : length past < suc w.fresh.added
  unfolding bud size
  past_few = omega (arith, opens_sprung.counted, size_pos (bud Γ O.before), opens_more)

  module _ {fs₀ ws₀ : List ℕ} (ef : fs₀ ≡ splice s.forms w.node (1 + w.fresh.added) (w.node + 1) s.nodes)
      (ew : ws₀ ≡ splice s.whats w.node (1 + w.fresh.added) (w.node + 1) s.nodes) where
    -- the state of two arrays that have a gap
    abbrev r : State
    r = state_in fs₀ ws₀ (s.nodes + w.fresh.added)

    replaced : Replaced s w.node (w.node + 1) (1 + w.fresh.added) r
    replaced = record { forms = ef; whats = ew; nodes = omega (arith, opens_node) }

    -- they are full
    gapped : (length r.forms ≡ 512) × (length r.whats ≡ 512)
    gapped =
        encoded_long (inked_encoded s r r.forms r.whats O.front ((0, 0) ∷ []) O.back [] w.node (w.node + 1) (1 + w.fresh.added) O.coded O.at refl replaced
        (inked_none (λ c. c.0) w.node (1 + w.fresh.added) r.forms) (inked_none (λ c. c.1) w.node (1 + w.fresh.added) r.whats) (omega arith) (omega (arith, O.room)))

    -- there is room
    pub opens_room : Room Γ (opening ops args w) w.typ w.node r.forms r.whats
    opens_room =
        record {
          end = O.before;
          leads = O.leads;
          forms = omega (arith, gapped.0, opens_node, opens_more, O.room);
          whats = omega (arith, gapped.1, opens_node, opens_more, O.room);
        }

    module _ {fs ws : List ℕ} {p : Pen}
        (P : (g : Fresh) → sprout Γ (folded w.typ 0) (opening ops args w) ≡ Ok g → Penned Γ (opening ops args w) w.typ w.node r.forms r.whats fs ws p g) where
      -- what the walk has written
      penned : Penned Γ (opening ops args w) w.typ w.node r.forms r.whats fs ws p O.before
      penned = P O.before O.leads

      -- it is at a node of the record
      pub pen_known : p.fresh.typ < ntypes Γ
      pen_known = rw penned.fresh opens_sprung.fine.known

      -- within the arrays
      pub pen_within : length fs ≡ length r.forms → length ws ≡ length r.whats → (p.at < length fs) × (p.at < length ws)
      pen_within f g =
          let n : p.at < 512 = omega (arith, penned.at, past_few, opens_node) in
          (omega (arith, gapped.0), omega (arith, gapped.1))

      -- a state with these codes between those of the others
      carried : {fs' ws' : List ℕ} (cs : List Code) → past ++ tip Γ O.before more ≡ cs → length cs ≤ suc w.fresh.added
          → Inked (λ c. c.0) w.node (1 + w.fresh.added) r.forms fs' cs → Inked (λ c. c.1) w.node (1 + w.fresh.added) r.whats ws' cs
          → Carried Γ ops args s w more (state_in fs' ws' r.nodes)
      carried {fs'} {ws'} cs d l kf kw =
          record {
            coded = λ b e f E at g.
                let same : O.before ≡ f = to_same (sym O.leads ∙ g) in
                let c : cs ≡ past ++ tip Γ f more = sym d ∙ ap (λ (k : Fresh). past ++ tip Γ k more) same in
                let n : 1 + w.fresh.added ≡ suc w.fresh.added = omega arith in
                subst (λ (ks : List Code). Encoded (state_in fs' ws' r.nodes) (b ++ (ks ++ e)))
                (ap (filled cs) n ∙ ap (λ (ks : List Code). filled ks (suc w.fresh.added)) c)
                (inked_encoded s r fs' ws' b ((0, 0) ∷ []) e cs w.node (w.node + 1) (1 + w.fresh.added) E at refl replaced kf kw (omega arith) (omega (arith, O.room)));
          }

      -- no step more
      pub carried_none : more ≡ None → Carried Γ ops args s w more (state_in fs ws r.nodes)
      unfolding tip
      carried_none e =
          let m : suc O.before.added ≤ 1 + w.fresh.added = omega (arith, opens_more) in
          carried (past ++ stub Γ O.before) (ap (λ (k : Option More). past ++ tip Γ O.before k) e)
          (omega (arith, length-append past (stub Γ O.before), past_few, stub_short Γ O.before)) (penned.forms (1 + w.fresh.added) m) (penned.whats (1 + w.fresh.added) m)

      -- a step more
      pub carried_last : {m : More} → more ≡ Some m → {fs' ws' : List ℕ} → fs' ≡ marked p.fresh.opened fs p.at (form (kind Γ p.fresh.typ))
          → ws' ≡ marked p.fresh.opened ws p.at (variant (element m)) → Carried Γ ops args s w more (state_in fs' ws' r.nodes)
      unfolding tip
      carried_last {m} n {fs'} {ws'} kf kw =
          let e : Elem = element m in
          let f : Fresh = O.before in
          let k : ℕ = 1 + w.fresh.added in
          let b : suc f.added ≤ k = omega (arith, opens_more) in
          let l : length past < k = omega (arith, past_few) in
          let ef' : fs' ≡ marked f.opened fs p.at (form (kind Γ f.typ)) = kf ∙ ap (λ (g : Fresh). marked g.opened fs p.at (form (kind Γ g.typ))) penned.fresh in
          let ew' : ws' ≡ marked f.opened ws p.at (variant e) = kw ∙ ap (λ (g : Fresh). marked g.opened ws p.at (variant e)) penned.fresh in
          carried (past ++ (mark Γ f e ∷ [])) (ap (λ (c : Option More). past ++ tip Γ f c) n) (omega (arith, length-append past (mark Γ f e ∷ []), past_few))
          (subst (λ (q : List ℕ). Inked (λ c. c.0) w.node k r.forms q (past ++ (mark Γ f e ∷ []))) (sym ef')
          (inked_marked (λ c. c.0) w.node k r.forms fs Γ past f e p.at (form (kind Γ f.typ)) (penned.forms k b) l penned.at (λ x. mark_form Γ f e)))
          (subst (λ (q : List ℕ). Inked (λ c. c.1) w.node k r.whats q (past ++ (mark Γ f e ∷ []))) (sym ew')
          (inked_marked (λ c. c.1) w.node k r.whats ws Γ past f e p.at (variant e) (penned.whats k b) l penned.at (mark_what Γ f e)))
