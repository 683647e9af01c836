-- `blocks::place::is_place` meets its contract: the items are a place if those from j on are elements. Assumes nothing.
use mathlib.Core.Path.{◌≡◌, sym, ◌∙◌}
use mathlib.Core.Bool.{Bool, true, false, cond}
use mathlib.Core.List.{List, [], ◌∷◌}
use mathlib.Core.Option.{some}
use Prim.Native.Nat.{ℕ, suc, ◌+◌, ◌≤◌, ◌<◌}
use native.Mathlib.Numerals.{add-one}
use native.Mathlib.Omega.{arith}
use borrow.Author.Tests.{eq-eqb}
use lib.ListN.{length, get_or, drop, drop_of_length-le}
use lib.Seq.{drop-cons}
use Rattle.model.specs.Place.{Spot}
use Rattle.model.specs.Calls.{elems_of, spot_of}
use Rattle.base.specs.Tests.{split, split_option}
use Rattle.records.specs.Spots.{item_ok}
use Rattle.mir.specs.Parts.{is_some}
use Rattle.blocks.proofs.Elements.{spot_ops, spot_args, spot_first}
use Rattle.blocks.proofs.place.is_place.Invariants.{rest}
use Rattle.blocks.proofs.place.is_place.Goals as goal
use Rattle.blocks.proofs.place.is_place.Goals.{then-n-eq0-via-then-n-eq0, then-n-eq0-via-else-n-eq0+then-args-n, then-n-eq0-via-else-n-eq0+else-args-n+then-ops-ne-ROOT}

module _ (ops args : List ℕ) where
  refuted : ((q : Spot) → spot_of ops args ≡ some q → ⊥) → false ≡ is_some (spot_of ops args)
  refuted h = split_option (spot_of ops args) (λ e. cc) (λ q e. absurd (h q e))

  empty : length ops < 1 → false ≡ is_some (spot_of ops args)
  empty l = refuted (λ q e. omega (arith, spot_ops ops args q e))

  uneven : (length args ≡ length ops → ⊥) → false ≡ is_some (spot_of ops args)
  uneven d = refuted (λ q e. d (spot_args ops args q e))

  rootless : (get_or ops 0 0 ≡ 0 → ⊥) → false ≡ is_some (spot_of ops args)
  rootless d = refuted (λ q e. d (spot_first ops args q e))

  rest_end : (j : ℕ) → length ops ≤ j → length args ≡ length ops → rest ops args j ≡ true
  unfolding elems_of
  rest_end j l m = rw (drop_of_length-le ops {i = j} l, drop_of_length-le args {i = j} (omega arith))

-- one item more
front : (o a : ℕ) (ops args : List ℕ) → is_some (elems_of (o ∷ ops) (a ∷ args)) ≡ cond (item_ok o a) (is_some (elems_of ops args)) false
unfolding elems_of
front o a ops args = split (item_ok o a) (λ t. split_option (elems_of ops args) (λ e. cc) (λ p e. cc)) (λ t. cc)

module _ (ops args : List ℕ) (j : ℕ) (l : j < length ops) (m : length args ≡ length ops) (b : Bool) (e : b ≡ item_ok (get_or ops j 0) (get_or args j 0)) where
  rest_more : rest ops args j ≡ cond b (rest ops args (j + 1)) false
  rest_more = rw (e, add-one, drop-cons ops j 0 l, drop-cons args j 0 (omega arith)) (front (get_or ops j 0) (get_or args j 0) (drop (suc j) ops) (drop (suc j) args))

  stopped : b ≡ false → is_some (spot_of ops args) ≡ rest ops args j → false ≡ is_some (spot_of ops args)
  stopped f h = cc rest_more

  carried : b ≡ true → is_some (spot_of ops args) ≡ rest ops args j → is_some (spot_of ops args) ≡ rest ops args (j + 1)
  carried f h = cc rest_more

rest_start : (ops args : List ℕ) → 1 ≤ length ops → length args ≡ length ops → get_or ops 0 0 ≡ 0 → is_some (spot_of ops args) ≡ rest ops args 1
unfolding spot_of
rest_start [] args l m e = absurd (omega arith)
rest_start (o ∷ ops) [] l m e = absurd (omega arith)
rest_start (o ∷ ops) (a ∷ args) l m e = split_option (elems_of ops args) (λ d. cc (eq-eqb o 0 e)) (λ p d. cc (eq-eqb o 0 e))

pub returns-then-n-eq0 : goal.returns-then-n-eq0
returns-then-n-eq0 c = elim c.then-n-eq0.branch [
  | then-n-eq0-via-then-n-eq0 w ↦ empty _ _ (omega arith)
  | then-n-eq0-via-else-n-eq0+then-args-n w ↦ uneven _ _ w.if-args-n.true
  | then-n-eq0-via-else-n-eq0+else-args-n+then-ops-ne-ROOT w ↦ rootless _ _ w.if-ops-ne-ROOT.true
]

pub loop-j-init : goal.loop-j-init
loop-j-init c = rest_start _ _ (omega arith) (omega arith) c.if-ops-ne-ROOT.false

pub returns-then-not-is_element : goal.returns-then-not-is_element
returns-then-not-is_element c =
    let f = c.is_element in
    stopped _ _ c.loop-j.j (omega arith) (omega arith) f.result f.ensures c.if-not-is_element.true c.loop-j.invariant

pub loop-j-preserved : goal.loop-j-preserved
loop-j-preserved c =
    let f = c.is_element in
    carried _ _ c.loop-j.j (omega arith) (omega arith) f.result f.ensures c.if-not-is_element.false c.loop-j.invariant

pub returns : goal.returns
returns c = sym (c.loop-j.invariant ∙ rest_end _ _ c.loop-j.j (omega arith) (omega arith))
