-- The arrays change as the memory does: a block waits no more, is visited; lines are recorded; none was visited. And what a pass
-- leaves.
use mathlib.Core.Path.{◌≡◌, refl, sym, ap, ◌∙◌, subst₂}
use mathlib.Core.Bool.{Bool, true, false, cond}
use mathlib.Core.List.{List, ◌++◌}
use Prim.Native.Nat.{ℕ, ◌<◌}
use lib.Dec.{eqb}
use lib.ListN.{length, set, replicate, length-set, length-replicate}
use Rattle.model.specs.Place.{At}
use Rattle.model.specs.Block.{entry_point}
use Rattle.model.specs.Frame.{Line, mark}
use Rattle.model.specs.Rounds.{put, elem}
use Rattle.base.specs.Tests.{eqb_sym, set_test}
use Rattle.base.specs.Equal.{zero_word}
use Rattle.queue.specs.Bits.{no_bits}
use Rattle.arrival.specs.Memory.{Memory}
use Rattle.arrival.specs.Shares.{visited_in, waits_in, Visited, Unvisited, Arrays, arrays, arrays_in, Alike, Remembers}
use Rattle.fold_unfold.specs.Runs.{visiting, entered, fresh}
use Rattle.fold_unfold.proofs.Rounds.{told}

-- the block b waits no more
abbrev pub unwaiting : ℕ → Memory → Memory
unwaiting b m = record { kept = m.kept; waits = put m.waits b false; visited = m.visited; lines = m.lines }

module _ {Γ fn : List ℕ} {m : Memory} {a : Arrays} (R : Remembers Γ fn m a) where
  -- a popped block
  pub remembers_unwaiting : {w : List ℕ} (b : ℕ) → length w ≡ length a.waits → waits_in fn w ≡ put (waits_in fn a.waits) b false
      → Remembers Γ fn (unwaiting b m) (arrays a.kept a.visited w a.forms a.whats)
  unfolding put
  remembers_unwaiting b h e = record {
    long = record {
      kept = R.long.kept;
      visited = R.long.visited;
      waits = h ∙ R.long.waits;
      forms = R.long.forms;
      whats = R.long.whats;
    };
    saved = R.saved;
    unsaved = R.unsaved;
    waits = λ c l. ap (cond (eqb b c) false) (R.waits c l) ∙ sym (ap (λ (f : ℕ → Bool). f c) e);
    visited = R.visited;
    forms_rest = R.forms_rest;
    whats_rest = R.whats_rest;
  }

  -- a visited block
  remembers_visiting : (b : ℕ) → b < length a.visited
      → Remembers Γ fn (visiting b m) (arrays a.kept (set a.visited b 1) a.waits a.forms a.whats)
  unfolding elem
  remembers_visiting b h = record {
    long = record {
      kept = R.long.kept;
      visited = length-set a.visited b 1 ∙ R.long.visited;
      waits = R.long.waits;
      forms = R.long.forms;
      whats = R.long.whats;
    };
    saved = R.saved;
    unsaved = R.unsaved;
    waits = R.waits;
    visited = λ c l. cc (set_test a.visited b 1 c h, R.visited c l, eqb_sym b c);
    forms_rest = R.forms_rest;
    whats_rest = R.whats_rest;
  }

  -- other lines
  pub remembers_lines : (ls : List (Line At)) → Remembers Γ fn (record { kept = m.kept; waits = m.waits; visited = m.visited; lines = ls }) a
  remembers_lines ls = record {
    long = R.long;
    saved = R.saved;
    unsaved = R.unsaved;
    waits = R.waits;
    visited = R.visited;
    forms_rest = R.forms_rest;
    whats_rest = R.whats_rest;
  }

  -- the entry's
  pub remembers_entered : (recording : Bool) (ts : List At) → Remembers Γ fn (entered Γ fn recording ts m) a
  remembers_entered false ts = R
  remembers_entered true ts = remembers_lines (m.lines ++ mark (entry_point fn) ts)

  -- what a pass tells
  pub remembers_told : (recording : Bool) → (v : List ℕ) × Remembers Γ fn (told recording m) (arrays a.kept v a.waits a.forms a.whats)
  unfolding elem
  remembers_told false = (
    replicate 256 0,
    record {
      long = record {
        kept = R.long.kept;
        visited = length-replicate {A = ℕ} 256 0;
        waits = R.long.waits;
        forms = R.long.forms;
        whats = R.long.whats;
      };
      saved = R.saved;
      unsaved = R.unsaved;
      waits = R.waits;
      visited = λ c l. cc (zero_word 256 c);
      forms_rest = R.forms_rest;
      whats_rest = R.whats_rest;
    },
  )
  remembers_told true = (a.visited, R)

-- THE ARRAY OF A RUN

module _ {memo memo' fs ws : List ℕ} where
  -- no block was visited: a pass begins
  pub remembers_cleared : {Γ fn : List ℕ} {m : Memory} → Unvisited memo memo' → Remembers Γ fn m (fresh memo fs ws) → Remembers Γ fn m (arrays_in memo' no_bits fs ws)
  remembers_cleared {Γ} {fn} {m} U R = subst₂ (λ (k v : List ℕ). Remembers Γ fn m (arrays k v no_bits fs ws)) (sym U.kept) (sym U.visited) R

  -- all is as long as it was
  pub alike_cleared : Unvisited memo memo' → Alike (fresh memo fs ws) (arrays_in memo' no_bits fs ws)
  alike_cleared U = record { kept = ap length U.kept; visited = ap length U.visited; waits = refl; forms = refl; whats = refl }

  -- a block is visited
  pub remembers_visited : {Γ fn : List ℕ} {m : Memory} {w : List ℕ} {b : ℕ} → Visited memo b memo' → b < 256
      → Remembers Γ fn m (arrays_in memo w fs ws) → Remembers Γ fn (visiting b m) (arrays_in memo' w fs ws)
  remembers_visited {Γ} {fn} {m} {w} {b} T h R =
      subst₂ (λ (k v : List ℕ). Remembers Γ fn (visiting b m) (arrays k v w fs ws)) (sym T.kept) (sym T.visited) (remembers_visiting R b (rw R.long.visited h))

  -- and so then
  pub alike_visited : {w : List ℕ} {b : ℕ} → Visited memo b memo' → Alike (arrays_in memo w fs ws) (arrays_in memo' w fs ws)
  alike_visited {b = b} T = record {
    kept = ap length T.kept;
    visited = ap length T.visited ∙ length-set (visited_in memo) b 1;
    waits = refl;
    forms = refl;
    whats = refl;
  }
