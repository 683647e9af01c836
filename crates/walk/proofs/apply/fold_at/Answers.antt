-- `walk::apply::fold_at` meets its contract: the codes of the tree at the node give way to one folded node's. Assumes nothing.
use mathlib.Core.Path.{◌≡◌, sym, ◌∙◌, ap}
use mathlib.Core.List.{List, ◌++◌}
use Rattle.model.specs.Tree.{Tree, size}
use Rattle.state.specs.declared.nodes.State.{State}
use Rattle.records.specs.Here.{Coded}
use Rattle.walk.specs.Applied.{Folds}
use Prim.Native.Nat.{ℕ, ◌+◌, ◌<◌, ◌≤◌}
use native.Mathlib.Omega.{arith}
use lib.ListN.{length-append}
use Rattle.model.specs.State.{codes}
use Rattle.records.specs.Codes.{size_pos, length_codes}
use Rattle.walk.proofs.Inks.{encoded_long, encoded_fronted, folded_encoded}
use Rattle.walk.proofs.apply.fold_at.Goals as goal

-- the tree ends within the state
ends : {Γ : List ℕ} {s : State} {i t e : ℕ} → Folds Γ s i t → ((x : Tree) → Coded Γ s.forms s.whats i t x → e ≡ i + size x) → (i < e) × (e ≤ s.nodes) × (s.nodes ≤ 512)
ends {Γ = Γ} F f =
    let x = F.tree in
    let cs = codes Γ x in
    let e = f x F.here in
    (omega (arith, e, size_pos x), omega (arith, e, F.at, F.coded.nodes, length-append F.front (cs ++ F.back), length-append cs F.back, length_codes Γ x), omega (arith, F.coded.few, F.coded.nodes))

pub close_up-requires : goal.close_up-requires
close_up-requires c =
    let E = c.requires.folds.coded in record { gapped = ends c.requires.folds c.node_end-e.ensures; padded = ((encoded_long E).0, (encoded_fronted E).0) }

pub close_up-requires-2 : goal.close_up-requires-2
close_up-requires-2 c =
    let E = c.requires.folds.coded in record { gapped = ends c.requires.folds c.node_end-e.ensures; padded = ((encoded_long E).1, (encoded_fronted E).1) }

pub overflow_sub-s-2 : goal.overflow_sub-s-2
overflow_sub-s-2 c = omega (arith, ends c.requires.folds c.node_end-e.ensures)

pub overflow_sub-s-3 : goal.overflow_sub-s-3
overflow_sub-s-3 c = omega (arith, ends c.requires.folds c.node_end-e.ensures)

pub returns : goal.returns
returns c =
    record {
      coded = λ b e x h E at.
          let l = length_codes c.args.types.now.words.now x in
          folded_encoded _ _ b (codes c.args.types.now.words.now x) e _ _ E at (c.node_end-e.ensures x h ∙ ap (λ (k : ℕ). c.args.i + k) (sym l)) (omega (arith, l, size_pos x))
          (record { forms = c.close_up.ensures; whats = c.close_up-2.ensures; nodes = omega (arith, ends c.requires.folds c.node_end-e.ensures) });
    }
