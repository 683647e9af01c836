-- The collectors over states: what is collected, and the folds that a return owes. Assumes nothing.
use mathlib.Core.Path.{◌≡◌, ◌∙◌, ap, subst}
use mathlib.Core.List.{List, [], ◌∷◌}
use Prim.Native.Nat.{ℕ, zero, suc, ◌+◌, ◌<◌}
use native.Mathlib.Numerals.{add-one}
use native.Mathlib.Omega.{arith}
use lib.ListN.{length, get_or, take, drop, length-map}
use Rattle.std.specs.Prelude.{Ok, Err}
use Rattle.model.specs.Answer.{Answer, refused}
use Rattle.model.specs.State.{State}
use Rattle.model.specs.Tree.{Tree, Forest, size}
use Rattle.model.specs.Place.{At, later}
use Rattle.model.specs.Collect.{firsts, foldss, folds_at_ret}
use Rattle.base.specs.Tests.{clash}
use Rattle.records.specs.Here.{Coded, CodedAll, Holds}
use Rattle.records.specs.Coded.{coded_none, coded_split}
use Rattle.records.specs.Built.{none_coded, more_coded}
use Rattle.refusal.specs.declared.Refusal.{Refusal}
use Rattle.refusal.specs.Refusal.{number}
use Rattle.statements.specs.declared.Out.{Out}
use Rattle.statements.specs.Kept.{point_of, Puts}
use Rattle.collectors.specs.declared.got.Got.{Got}
use Rattle.collectors.specs.Trail.{lines_of, root}
use Rattle.collectors.specs.Gets.{Tells, StandAll, OwingAll}
use Rattle.collect.specs.Answers.{Collects, Owed}
use Rattle.collectors.proofs.Lines.{lines_later}
use Rattle.collectors.proofs.Telling.{told, told_done, told_refused}
use Rattle.collect.proofs.Passing.{root_next}

-- a collector's answer that is told: its statements are collected
pub collects_done : {out out' : List ℕ} {o : Out} {g : Got} {i j : ℕ} {a : Answer (List At)}
    → Tells out o out' (lines_of (point_of o) (root 0)) i j (Ok g) a → Collects out o out' a (Ok g.out)
collects_done {out} {out'} {o} {g} T =
    let D = told T in
    record {
      recorded = λ q d. let same : g.out ≡ q = cc in (D.0, D.1, subst (λ (u : Out). Puts (length D.0) out o out' u (lines_of (point_of o) (root 0) D.0)) same D.2.puts);
      stopped = λ e d. clash (cc);
    }

-- or it is refused
pub collects_refused : {out out' : List ℕ} {o : Out} {x : Refusal} {i j : ℕ} {a : Answer (List At)}
    → Tells out o out' (lines_of (point_of o) (root 0)) i j (Err x) a → Collects out o out' a (Err x)
collects_refused {x} T =
    record {
      recorded = λ q d. clash (cc);
      stopped = λ e d. let same : x ≡ e = cc in told_refused T ∙ ap (λ (y : Refusal). refused (number y)) same;
    }

-- a state that is held stands, with room for the ways in it
pub holds_stand : {Γ locals : List ℕ} {s : State} {S : Forest} → Holds Γ locals s S → StandAll Γ s.forms s.whats 0 locals 1
holds_stand {S} h = record { trees = S; coded = h.trees; room = omega (arith, h.deep) }

-- the first of several trees
coded_firsts : {Γ fs ws : List ℕ} (n : ℕ) (ts : List ℕ) {xs : Forest} {i : ℕ} → CodedAll Γ fs ws i ts xs → CodedAll Γ fs ws i (take n ts) (firsts n xs)
coded_firsts zero ts h = none_coded
coded_firsts (suc n) [] h = rw (coded_none h) none_coded
coded_firsts (suc n) (t ∷ ts) h =
    let S = coded_split h in
    rw S.is (more_coded S.here (coded_firsts n ts S.rest))

-- what is owed of the trees behind the first tells all
pub owed_told : {Γ fs ws out out' : List ℕ} {o : Out} {r : Got} (locals : List ℕ) (a : ℕ) {i : ℕ} → a < length locals
    → ((x : Tree) → Coded Γ fs ws 0 (get_or locals 0 0) x → i ≡ 0 + size x) → OwingAll Γ out o out' r (root 1) fs ws i (drop 1 (take (a + 1) locals))
    → Owed Γ out o out' r a fs ws locals
unfolding folds_at_ret
owed_told [] a l g A = absurd (omega arith)
owed_told {Γ} {fs} {ws} {o = o} (t ∷ ts) a {i} l g A =
    record {
      trees = λ S h.
          let X = coded_split h in
          let F = coded_firsts a ts (rw (← (g X.head X.here)) at X.rest) in
          let B : OwingAll Γ _ _ _ _ (root 1) fs ws i (take a ts) = rw (add-one a) at A in
          let T = told_done (B.trees (firsts a X.tail) F) in
          rw (X.is, length-map (foldss Γ (firsts a X.tail)) later, lines_later (point_of o) (root 0) (root 1) (root_next 0) (foldss Γ (firsts a X.tail))) T.puts;
    }
