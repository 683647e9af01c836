-- The number that falls with each round of a pass, read from the arrays: the load of the states that their shares hold, or the blocks
-- not visited.
use mathlib.Core.Path.{◌≡◌, sym}
use mathlib.Core.Bool.{Bool, true, false, cond, not}
use mathlib.Core.List.{List}
use mathlib.Core.Option.{Option, none, some}
use Prim.Native.Nat.{ℕ, zero, suc, ◌<◌}
use lib.Dec.{eqb}
use Rattle.model.specs.Words.{word, sum}
use Rattle.model.specs.Tree.{Forest}
use Rattle.model.specs.State.{encode, decode}
use Rattle.model.specs.Rounds.{left}
use Rattle.model.specs.Function.{nblocks, local_types}
use Rattle.model.specs.Block.{is_join_point}
use Rattle.model.specs.Passes.{weigh, load, unvisited}
use Rattle.model.specs.Body.{frame}
use Rattle.base.specs.Tests.{split}
use Rattle.base.specs.Below.{sum_same}
use Rattle.base.specs.Kinds.{Known}
use Rattle.records.specs.Decode.{decode_encode}
use Rattle.blocks.specs.Points.{share_number}
use Rattle.arrival.specs.Memory.{Memory}
use Rattle.arrival.specs.Shares.{Saved, waits_in, Arrays, share_of, Remembers}
use Rattle.fold_unfold.proofs.Rounds.{number}

-- the state that a share holds, by its count
shared : (Γ locals fs ws : List ℕ) → ℕ → Option Forest
shared Γ locals fs ws zero = none
shared Γ locals fs ws (suc n) = decode Γ locals (record { forms = fs; whats = ws; nodes = n })

-- it is what is saved there
saved_shared : (Γ locals fs ws : List ℕ) (k : ℕ) → Known Γ → (o : Option Forest) → Saved Γ locals fs ws k o → shared Γ locals fs ws k ≡ o
unfolding shared encode
saved_shared Γ locals fs ws k known none b = rw b.count
saved_shared Γ locals fs ws k known (some E) f =
    rw (f.count, f.forms, f.whats) (decode_encode known f.valid.fits f.valid.shallow f.valid.small)

module _ (Γ fn : List ℕ) (a : Arrays) where
  -- what is stored for the block b
  stored : ℕ → Option Forest
  stored b = cond (is_join_point fn b)
      (shared Γ (local_types fn) (share_of a.forms (share_number fn b)) (share_of a.whats (share_number fn b)) (word a.kept b)) none

  -- the number that falls
  pub weight : Bool → ℕ
  weight false = sum (λ b. weigh (frame Γ fn) (stored b) (waits_in fn a.waits b)) (nblocks fn)
  weight true = sum (λ b. cond (not (eqb (word a.visited b) 0)) 0 1) (nblocks fn)

-- it is model's
module _ {Γ fn : List ℕ} (known : Known Γ) {m : Memory} {a : Arrays} (R : Remembers Γ fn m a) where
  -- so is what is stored
  stored_is : (b : ℕ) → b < nblocks fn → stored Γ fn a b ≡ m.kept b
  unfolding stored
  stored_is b l = split (is_join_point fn b)
      (λ e. rw e (saved_shared Γ _ _ _ _ known (m.kept b) (R.saved b l e)))
      (λ e. rw e (sym (R.unsaved b e)))

  -- the number
  pub weight_is : (recording : Bool) → weight Γ fn a recording ≡ number Γ fn recording m
  unfolding weight load unvisited left frame
  weight_is false = sum_same _ _ (nblocks fn) (λ b l. cc (stored_is b l, R.waits b l))
  weight_is true = sum_same _ _ (nblocks fn) (λ b l. cc (R.visited b l))
