-- Parts of a function record: the items from i up to j, and tests that the code makes one by one.
use Rattle.std.specs.Prelude.{◌≡◌, Bool, true, false, not, ◌&&◌, ◌||◌, List, ℕ, ◌+◌, ◌-◌, take, drop, eqb, ltb}
use Rattle.std.proofs.Math.Option.{Option, none, some}
use Rattle.model.specs.Types.{ntypes, kind}
use Rattle.model.specs.Place.{Spot}
use Rattle.model.specs.Function.{nlocals, nblocks, nitems, start, op, may_follow, arg_ok}
use Rattle.model.specs.Calls.{spot_of}

-- where op[I] stands
abbrev pub ops_start : List ℕ → ℕ
ops_start fn = 4 + nlocals fn + nblocks fn + nblocks fn

unfoldable pub ops_part : List ℕ → ℕ → ℕ → List ℕ
ops_part fn i j = take (j - i) (drop (ops_start fn + i) fn)

unfoldable pub args_part : List ℕ → ℕ → ℕ → List ℕ
args_part fn i j = take (j - i) (drop (ops_start fn + nitems fn + i) fn)

-- the items are a place
pub record Spotted (ops args : List ℕ) : Type 0 where
  pub spot : Spot
  pub is : spot_of ops args ≡ some spot

-- r is what f says of that place
abbrev pub Tells : {A : Type 0} → (ops args : List ℕ) → (Spot → A) → A → Type 0
Tells ops args f r = (q : Spot) → spot_of ops args ≡ some q → r ≡ f q

abbrev pub is_some : {A : Type 0} → Option A → Bool
is_some none = false
is_some (some a) = true

-- a local's type: below T, and no variant
unfoldable pub type_usable : List ℕ → ℕ → Bool
type_usable Γ t = ltb t (ntypes Γ) && not (eqb (kind Γ t) 8)

-- is item i the first of the block b?
unfoldable pub begins : List ℕ → ℕ → ℕ → Bool
begins fn b i = ltb b (nblocks fn) && eqb i (start fn b)

-- may a block begin behind this? Where the entry part is over, or the block before has ended
unfoldable pub may_begin : ℕ → Bool
may_begin before = eqb before 0 || eqb before 8

unfoldable pub item_ok : List ℕ → ℕ → ℕ → Bool
item_ok fn i before = may_follow before (op fn i) && arg_ok fn i
