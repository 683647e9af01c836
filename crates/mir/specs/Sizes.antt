-- The sizes of a function record, and that it passes refusal 2.
use Rattle.std.specs.Prelude.{◌≡◌, true, List, ℕ, ◌+◌, ◌≤◌, ◌<◌, length}
use Rattle.model.specs.Function.{nlocals, nargs, nblocks, nitems, starts_ok, ranks_ok, items_ok}

-- a function record as long as its sizes say
pub record Laid (fn : List ℕ) : Type 0 where
  pub some_locals : 1 ≤ nlocals fn
  pub most_locals : nlocals fn ≤ 256
  pub few_args : nargs fn < nlocals fn
  pub some_blocks : 1 ≤ nblocks fn
  pub most_blocks : nblocks fn ≤ 256
  pub most_items : nitems fn ≤ 16384
  pub whole : length fn ≡ 4 + nlocals fn + nblocks fn + nblocks fn + nitems fn + nitems fn

-- a function record that passes refusal 2, its local types aside
pub record Formed (fn : List ℕ) : Type 0 where
  pub laid : Laid fn
  pub starts : starts_ok fn ≡ true
  pub ranks : ranks_ok fn ≡ true
  pub items : items_ok fn ≡ true
