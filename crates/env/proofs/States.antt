-- States and their codes (`Encoded`), and what is done in the tree of one local, as it is done in the state (`nth`).
use mathlib.Core.Path.{◌≡◌, sym, ◌∙◌, ap, subst}
use mathlib.Core.Bool.{false}
use mathlib.Core.List.{List, ◌∷◌, ◌++◌, append_assoc}
use Prim.Native.Nat.{ℕ, suc, ◌+◌, ◌<◌, ◌≤◌}
use native.Mathlib.Omega.{arith}
use lib.ListN.{length, length-append}
use borrow.Author.Tests.{le-leb, lt-leb}
use Rattle.model.specs.Answer.{Answer, refused, done, ◌>>=◌}
use Rattle.model.specs.Tree.{Tree, Forest, size, sizes}
use Rattle.model.specs.Typing.{Fits, depths}
use Rattle.model.specs.State as Model
use Rattle.model.specs.State.{Code, levels, most, codes, codess}
use Rattle.model.specs.Place.{Place}
use Rattle.model.specs.Walk.{nth, pick, walk, reached, changed, fitting}
use Rattle.model.specs.Collect.{firsts}
use Rattle.base.specs.Answer.{bind_bind}
use Rattle.records.specs.Here.{Holds}
use Rattle.records.specs.Codes.{length_codes, length_codess}
use Rattle.records.specs.Holds.{holds_few, holds_encode, encode_holds}
use Rattle.state.specs.Value.{value}
use Rattle.state.specs.declared.nodes.State.{State}
use Rattle.walk.specs.Frame.{Frame}
use Rattle.walk.specs.Applied.{Encoded, filled}
use Rattle.walk.proofs.Frames.{put, beyond, nth_put, put_pick, codess_put, among, within}
use Rattle.walk.proofs.Ends.{Stays, Grafted}

-- A STATE AND ITS CODES

-- a state that is held has its codes
pub holds_encoded : {Γ locals : List ℕ} {s : State} {E : Forest} → Holds Γ locals (value s) E → Encoded s (codess Γ E)
unfolding Model.encode
holds_encoded {Γ} {E = E} h =
    let e = holds_encode h in
    record {
      forms = ap (λ (m : Model.State). m.forms) (sym e);
      whats = ap (λ (m : Model.State). m.whats) (sym e);
      nodes = h.count ∙ sym (length_codess Γ E);
      few = omega (arith, holds_few h, length_codess Γ E);
    }

-- and a state that has the codes of one that fits holds it
pub encoded_holds : {Γ locals : List ℕ} {r : State} {D : Forest} → Encoded r (codess Γ D) → Fits Γ locals D → depths D ≤ levels → Holds Γ locals (value r) D
unfolding Model.encode
encoded_holds {Γ} {locals} {r} {D} c f d =
    let e : Model.encode Γ D ≡ value r = λ i. record { forms = sym c.forms i; whats = sym c.whats i; nodes = (sym (length_codess Γ D) ∙ sym c.nodes) i } in
    subst (λ (m : Model.State). Holds Γ locals m D) e (encode_holds f d (omega (arith, c.few, length_codess Γ D)))

-- REFUSAL 9

module _ (Γ : List ℕ) (D : Forest) where
  -- a state of at most 512 nodes
  pub fitting_fits : sizes D ≤ most → fitting Γ D ≡ done D
  unfolding fitting
  fitting_fits l = rw (le-leb (sizes D) most l)

  -- one of more
  pub fitting_full : most < sizes D → fitting Γ D ≡ refused 9
  unfolding fitting
  fitting_full l = rw (lt-leb (sizes D) most l)

-- ONE TREE OF A STATE

module _ {Γ ts : List ℕ} {E : Forest} (fits : Fits Γ ts E) (l : ℕ) (known : l < length ts) where
  -- what is refused there
  pub nth_refused : (f : Tree → Answer Tree) {n : ℕ} → f (pick l E) ≡ refused n → nth l f E ≡ refused n
  nth_refused f e = nth_put fits l known f ∙ rw e

  -- a tree in the place of the local's: the nodes of the state
  sizes_put : (u : Tree) → sizes (put l u E) ≡ sizes (firsts l E) + size u + sizes (beyond l E)
  sizes_put u =
      omega (
        arith,
        sym (length_codess Γ (put l u E)),
        ap length (codess_put fits l known u),
        length-append (codess Γ (firsts l E)) (codes Γ u ++ codess Γ (beyond l E)),
        length-append (codes Γ u) (codess Γ (beyond l E)),
        length_codess Γ (firsts l E),
        length_codes Γ u,
        length_codess Γ (beyond l E),
      )

-- done with act, the walk of p in the tree of local l gives a state in which the codes cs, and zeros behind them, 1 + n in all, stand in
-- the place of a folded node, at m
pub record Grafts (Γ : List ℕ) (act : Tree → Answer Tree) (l : ℕ) (p : Place) (E : Forest) (m : ℕ) (cs : List Code) (n : ℕ) : Type 0 where
  pub result : Forest
  pub walks : nth l (walk Γ act p) E ≡ done result
  pub before : List Code
  pub behind : List Code
  pub place : length before ≡ m
  pub was : codess Γ E ≡ before ++ ((0, 0) ∷ behind)
  pub is : codess Γ result ≡ before ++ (filled cs (suc n) ++ behind)
  pub sized : sizes result ≡ sizes E + n

-- the walk of p in the tree of local l goes through open nodes alone to the tree z, at m
pub record Stands (Γ : List ℕ) (l : ℕ) (p : Place) (E : Forest) (m : ℕ) (z : Tree) : Type 0 where
  pub frame : Frame Γ (codess Γ)
  pub whole : frame.plug z ≡ E
  pub place : length frame.before ≡ m
  pub leads : (act : Tree → Answer Tree) → nth l (walk Γ act p) E ≡ act z >>= λ u. done (frame.plug u)
  pub unchanged : changed Γ p (pick l E) ≡ false
  pub reaches : reached Γ p (pick l E) ≡ z

module _ {Γ ts : List ℕ} {E : Forest} (fits : Fits Γ ts E) (l : ℕ) (known : l < length ts) where
  -- a walk in the tree is a walk in the state
  pub among_grafted : {act : Tree → Answer Tree} {p : Place} {m : ℕ} {cs : List Code} {n : ℕ} → Grafted Γ act p (sizes (firsts l E)) (pick l E) m cs n
      → Grafts Γ act l p E m cs n
  among_grafted {act} {p} {m} {cs} {n} g =
      let a : List Code = codess Γ (firsts l E) in
      let b : List Code = codess Γ (beyond l E) in
      let w : codess Γ E ≡ a ++ (codes Γ (pick l E) ++ b) = ap (codess Γ) (sym (put_pick fits l)) ∙ codess_put fits l known (pick l E) in
      record {
        result = put l g.result E;
        walks = nth_put fits l known (walk Γ act p) ∙ rw g.walks;
        before = a ++ g.before;
        behind = g.behind ++ b;
        place = omega (arith, g.place, length-append a g.before, length_codess Γ (firsts l E));
        was = w ∙ ap (λ (cs : List Code). a ++ (cs ++ b)) g.was ∙ simp append_assoc;
        is = codess_put fits l known g.result ∙ ap (λ (cs : List Code). a ++ (cs ++ b)) g.is ∙ simp append_assoc;
        sized = omega (arith, g.sized, sizes_put fits l known g.result, sizes_put fits l known (pick l E), ap sizes (put_pick fits l));
      }

  -- through open nodes too
  pub among_stays : {p : Place} {m : ℕ} {z : Tree} → Stays Γ p (sizes (firsts l E)) (pick l E) m z → Stands Γ l p E m z
  among_stays {p} {m} {z} g =
      record {
        frame = within Γ (among Γ fits l known) g.frame;
        whole = ap (λ (u : Tree). put l u E) g.whole ∙ put_pick fits l;
        place = omega (arith, g.place, length-append (codess Γ (firsts l E)) g.frame.before, length_codess Γ (firsts l E));
        leads = λ act. nth_put fits l known (walk Γ act p) ∙ ap (λ (a : Answer Tree). a >>= λ u. done (put l u E)) (g.leads act)
            ∙ bind_bind (act z) (λ u. done (g.frame.plug u)) (λ u. done (put l u E));
        unchanged = g.unchanged;
        reaches = g.reaches;
      }
