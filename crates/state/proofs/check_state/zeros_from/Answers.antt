-- `state::check_state::zeros_from` meets its contract. Assumes nothing.
use borrow.Author.Rules.{rules}
use borrow.Author.Tests.{tests}
use mathlib.Core.Path.{◌≡◌, refl, ap, ◌∙◌}
use mathlib.Core.Bool.{◌&&◌}
use mathlib.Core.List.{List, [], ◌∷◌}
use Prim.Native.Nat.{ℕ}
use native.Mathlib.Omega.{arith}
use lib.Dec.{eqb}
use lib.ListN.{length, drop}
use Rattle.std.specs.List.{list_all}
use Rattle.std.proofs.lemmas.Iterator.{YieldsList-from_slice}
use Rattle.std.proofs.lemmas.Iterator.Search.{all_from_yields_List}
use Rattle.std.proofs.lemmas.Slice.{between_to_end}
use Rattle.model.specs.State.{zeros}
use Rattle.state.proofs.check_state.zeros_from.Goals as goal

all_zeros : (l : List ℕ) → list_all (λ x. eqb x 0) l ≡ zeros l
all_zeros [] = refl
all_zeros (x ∷ l) = ap (λ b. eqb x 0 && b) (all_zeros l)

pub returns : goal.returns
returns c =
    let a : List ℕ = c.args.a.now in
    let rest : c.iter.result.rest.now ≡ drop c.args.n a = c.iter.ensures.rest ∙ between_to_end a c.args.n (length a) (omega arith) in
    let e : c.all.result ≡ list_all (λ x. eqb x 0) (drop c.args.n a) = all_from_yields_List (λ x. eqb x 0) _ _ c.all.result c.all.ensures.ran (YieldsList-from_slice (drop c.args.n a) rest) (λ x b q k. search (rules, tests)) in
    e ∙ all_zeros (drop c.args.n a)
