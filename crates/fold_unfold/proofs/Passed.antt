-- The two passes over the memory that both share are model's.
use mathlib.Core.Path.{◌≡◌, ◌∙◌}
use mathlib.Core.Bool.{true, false}
use mathlib.Core.List.{List}
use mathlib.Core.Option.{Option}
use Prim.Native.Nat.{ℕ}
use Rattle.model.specs.Answer.{Answer, done, ◌>>=◌}
use Rattle.model.specs.Tree.{Forest, leaves}
use Rattle.model.specs.Place.{At}
use Rattle.model.specs.Function.{nblocks, local_types}
use Rattle.model.specs.Block.{entry_uses}
use Rattle.model.specs.Frame.{opening_exit, opening}
use Rattle.model.specs.Rounds.{run_rounds}
use Rattle.model.specs.Passes.{empty, take_in, infer, take_down, round_two, unvisited, elaborate}
use Rattle.model.specs.Body.{enter_uses, frame}
use Rattle.base.specs.Answer.{split_answer, bind_same, bind_bind}
use Rattle.arrival.specs.Memory.{Memory, with_store, log_of, with_log, jumps}
use Rattle.fold_unfold.specs.Runs.{entered, opens, rest, pass, blank, again}
use Rattle.fold_unfold.proofs.Absorbed.{jumps_store, jumps_log}

module _ (Γ fn : List ℕ) where
  -- what the entry's uses leave
  abbrev pub uses : Answer (Forest × List At)
  uses = enter_uses Γ (entry_uses fn) (leaves (local_types fn))

  -- the jump from the entry in the first pass, and the rounds behind it
  rest_first : (E : Forest)
      → (jumps Γ fn false (nblocks fn) (opening_exit (frame Γ fn) E) blank >>= rest Γ fn false) ≡ (infer (frame Γ fn) E >>= λ s. done (with_store blank s))
  unfolding infer
  rest_first E =
      split_answer (take_in (frame Γ fn) (opening (frame Γ fn) E) empty) (λ n e. cc (jumps_store Γ fn blank E)) (λ s e. cc (jumps_store Γ fn blank E))

  -- the first pass
  pub pass_first : pass Γ fn false blank ≡ (uses >>= λ r. infer (frame Γ fn) r.0 >>= λ s. done (with_store blank s))
  unfolding pass opens
  pass_first = bind_bind uses _ (rest Γ fn false) ∙ bind_same uses (λ r. rest_first r.0)

  -- the jump from the entry in the second, and the rounds behind it
  rest_second : (E : Forest) (m : Memory)
      → (jumps Γ fn true (nblocks fn) (opening_exit (frame Γ fn) E) m >>= rest Γ fn true)
      ≡ (take_down (frame Γ fn) m.kept (opening (frame Γ fn) E) (log_of m) >>= run_rounds (round_two (frame Γ fn) m.kept) (unvisited (frame Γ fn) m.kept)
      >>= λ g. done (with_log m g))
  rest_second E m =
      split_answer (take_down (frame Γ fn) m.kept (opening (frame Γ fn) E) (log_of m)) (λ n e. cc (jumps_log Γ fn m E)) (λ g e. cc (jumps_log Γ fn m E))

  -- the same, behind the entry's own lines
  entered_second : (kept : ℕ → Option Forest) (ts : List At) (E : Forest)
      → (jumps Γ fn true (nblocks fn) (opening_exit (frame Γ fn) E) (entered Γ fn true ts (again kept)) >>= rest Γ fn true)
      ≡ (elaborate (frame Γ fn) kept ts E >>= λ g. done (with_log (again kept) g))
  unfolding elaborate frame
  entered_second kept ts E = rest_second E (entered Γ fn true ts (again kept))

  -- the second pass
  pub pass_second : (kept : ℕ → Option Forest)
      → pass Γ fn true (again kept) ≡ (uses >>= λ r. elaborate (frame Γ fn) kept r.1 r.0 >>= λ g. done (with_log (again kept) g))
  unfolding pass opens
  pass_second kept = bind_bind uses _ (rest Γ fn true) ∙ bind_same uses (λ r. entered_second kept r.1 r.0)
