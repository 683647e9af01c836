-- Demand 3 over the function record, given what is asked of the trees: along every list of jumps the replay of the record meets no
-- refusal, each place used is quiet, and two lists that end in one block come to one state at its start.
use Rattle.std.specs.Prelude.{◌≡◌, List, [], ◌∷◌, ℕ, eqb}
use Rattle.std.proofs.Common.{eqb-true}
use Rattle.std.proofs.Math.Option.{some}
use Rattle.model.specs.Block.{targets}
use Rattle.model.specs.Body.{frame}
use Rattle.model.specs.Replay.{find, Jumps, jumps_end, jumps_on}
use Rattle.base.specs.Tests.{split, clash}
use Rattle.solver.specs.Lists.{Has, here, later}
use Rattle.solver.specs.Player as P

-- a target item that is found stands in the list
find_has : (i : ℕ) {c : ℕ} (ts : List (ℕ × ℕ)) → find i ts ≡ some c → Has (i, c) ts
unfolding find
find_has i [] e = clash (cc)
find_has i {c} (t ∷ ts) e = split (eqb t.0 i)
    (λ d. let p : t.0 ≡ i = eqb-true t.0 i d in let q : t.1 ≡ c = cc in rw (← p, ← q) here)
    (λ d. later (find_has i ts (cc)))

-- a list of jumps is one over any states
pub jumps_path : (Γ : List ℕ) {fn : List ℕ} {b d : ℕ} {is : List ℕ} → Jumps fn b is d → P.Path (frame Γ fn) b is d
unfolding frame
jumps_path Γ jumps_end = P.path_end
jumps_path Γ {fn} (jumps_on {b} {i} h j) = P.path_on (find_has i (targets fn b) h) (jumps_path Γ j)
