-- The function record: L, A, B, I; local types[L]; start[B], rank[B]; op[I], arg[I]. What each word means, and refusal 2.
-- Items (op, arg): 0 root (local), 1 deref, 2 field (number), 3 downcast (variant), 4 index, 5 use, 6 read, 7 note, 8 switch,
-- 9 arm (value), 10 target (block), 11 return, 12 stop. An arg not named is 0.
use Rattle.std.specs.Prelude.{Bool, true, false, cond, not, ◌&&◌, ◌||◌, List, [], ◌∷◌, ℕ, zero, suc, ◌+◌, ◌*◌, length, get_or, take, drop, eqb, ltb, leb}
use Rattle.model.specs.Words.{word, all}
use Rattle.model.specs.State.{locals_ok}

-- THE WORDS

abbrev pub nlocals : List ℕ → ℕ
nlocals fn = word fn 0

-- local 0 is the return place, locals 1 to A are the arguments
abbrev pub nargs : List ℕ → ℕ
nargs fn = word fn 1

abbrev pub nblocks : List ℕ → ℕ
nblocks fn = word fn 2

abbrev pub nitems : List ℕ → ℕ
nitems fn = word fn 3

unfoldable pub local_types : List ℕ → List ℕ
local_types fn = take (nlocals fn) (drop 4 fn)

unfoldable pub start : List ℕ → ℕ → ℕ
start fn b = word fn (4 + nlocals fn + b)

unfoldable pub rank : List ℕ → ℕ → ℕ
rank fn b = word fn (4 + nlocals fn + nblocks fn + b)

unfoldable pub op : List ℕ → ℕ → ℕ
op fn i = word fn (4 + nlocals fn + nblocks fn + nblocks fn + i)

unfoldable pub arg : List ℕ → ℕ → ℕ
arg fn i = word fn (4 + nlocals fn + nblocks fn + nblocks fn + nitems fn + i)

-- where the items of the block b end
unfoldable pub stop : List ℕ → ℕ → ℕ
stop fn b = cond (ltb (suc b) (nblocks fn)) (start fn (suc b)) (nitems fn)

-- how long the record is by its sizes as written
unfoldable pub function_length : List ℕ → ℕ
function_length ws = 4 + word ws 0 + 2 * word ws 2 + 2 * word ws 3

-- WHICH ITEM MAY FOLLOW WHICH

-- What stands before an item: 0 the entry part, 1 a place in it, 2 a block's begin, or a use or note, 3 a place, 4 a read,
-- 5 the place of a note, 6 a switch, or an arm's target, 7 an arm, 8 the block's end. A row for each, a column for each item code
unfoldable pub follow_table : List ℕ
follow_table =
    --                        root deref field downcast index use read note switch arm target return stop
    1 ∷ 0 ∷ 0 ∷ 0 ∷ 0 ∷ 0 ∷ 0 ∷ 0 ∷ 0 ∷ 0 ∷ 0 ∷ 0 ∷ 0 ∷
    0 ∷ 1 ∷ 1 ∷ 1 ∷ 1 ∷ 1 ∷ 0 ∷ 0 ∷ 0 ∷ 0 ∷ 0 ∷ 0 ∷ 0 ∷
    1 ∷ 0 ∷ 0 ∷ 0 ∷ 0 ∷ 0 ∷ 0 ∷ 0 ∷ 1 ∷ 0 ∷ 1 ∷ 1 ∷ 1 ∷
    0 ∷ 1 ∷ 1 ∷ 1 ∷ 1 ∷ 1 ∷ 1 ∷ 0 ∷ 1 ∷ 0 ∷ 0 ∷ 0 ∷ 0 ∷
    1 ∷ 0 ∷ 0 ∷ 0 ∷ 0 ∷ 0 ∷ 0 ∷ 0 ∷ 0 ∷ 0 ∷ 0 ∷ 0 ∷ 0 ∷
    0 ∷ 1 ∷ 1 ∷ 1 ∷ 1 ∷ 0 ∷ 0 ∷ 1 ∷ 0 ∷ 0 ∷ 0 ∷ 0 ∷ 0 ∷
    0 ∷ 0 ∷ 0 ∷ 0 ∷ 0 ∷ 0 ∷ 0 ∷ 0 ∷ 0 ∷ 1 ∷ 1 ∷ 0 ∷ 0 ∷
    0 ∷ 0 ∷ 0 ∷ 0 ∷ 0 ∷ 0 ∷ 0 ∷ 0 ∷ 0 ∷ 0 ∷ 1 ∷ 0 ∷ 0 ∷
    0 ∷ 0 ∷ 0 ∷ 0 ∷ 0 ∷ 0 ∷ 0 ∷ 0 ∷ 0 ∷ 0 ∷ 0 ∷ 0 ∷ 0 ∷
    []

unfoldable pub may_follow : ℕ → ℕ → Bool
may_follow before next = leb next 12 && eqb (get_or follow_table (13 * before + next) 0) 1

-- what stands before the item behind one: place items, actions, enders
unfoldable pub after : ℕ → ℕ → ℕ
after before o = cond (eqb o 0) (cond (eqb before 0) 1 (cond (eqb before 2) 3 5))
    (cond (leb o 4) before
    (cond (eqb o 5) (cond (eqb before 1) 0 2)
    (cond (eqb o 6) 4
    (cond (eqb o 7) 2
    (cond (eqb o 8) 6
    (cond (eqb o 9) 7
    (cond (eqb o 10 && eqb before 7) 6 8)))))))

-- "an arg not named is 0", "targets below B", of n blocks
abbrev pub arg_named : ℕ → ℕ → ℕ → Bool
arg_named n o a = cond (eqb o 10) (ltb a n) (eqb a 0 || eqb o 0 || eqb o 2 || eqb o 3 || eqb o 9)

unfoldable pub arg_ok : List ℕ → ℕ → Bool
arg_ok fn i = arg_named (nblocks fn) (op fn i) (arg fn i)

-- REFUSAL 2

-- "L and B are 1 to 256, I at most 16,384, A below L", and the record is as long as its sizes say
unfoldable pub function_sizes : List ℕ → Bool
function_sizes fn = leb 1 (nlocals fn) && leb (nlocals fn) 256 && ltb (nargs fn) (nlocals fn) && leb 1 (nblocks fn)
    && leb (nblocks fn) 256 && leb (nitems fn) 16384
    && eqb (length fn) (4 + nlocals fn + nblocks fn + nblocks fn + nitems fn + nitems fn)

-- "Starts rise strictly and lie below I"
unfoldable pub starts_ok : List ℕ → Bool
starts_ok fn = all (λ b. ltb (start fn b) (stop fn b) && ltb (start fn b) (nitems fn)) (nblocks fn)

-- "Ranks are 0 to B − 1, each once"
unfoldable pub ranks_ok : List ℕ → Bool
ranks_ok fn = all (λ b. ltb (rank fn b) (nblocks fn) && all (λ c. not (eqb (rank fn c) (rank fn b))) b) (nblocks fn)

-- the items from i on, n of them, with what stands before item i; b: the blocks begun. Where the next block begins the
-- entry part is over, or the block before it has ended
unfoldable pub items_from : List ℕ → ℕ → ℕ → ℕ → ℕ → Bool
items_from fn zero i b before = eqb before 8
items_from fn (suc n) i b before = elim (ltb b (nblocks fn) && eqb i (start fn b)) [
  | true ↦ elim ((eqb before 0 || eqb before 8) && may_follow 2 (op fn i) && arg_ok fn i) [
    | true ↦ items_from fn n (suc i) (suc b) (after 2 (op fn i))
    | false ↦ false
  ]
  | false ↦ elim (may_follow before (op fn i) && arg_ok fn i) [
    | true ↦ items_from fn n (suc i) b (after before (op fn i))
    | false ↦ false
  ]
]

unfoldable pub items_ok : List ℕ → Bool
items_ok fn = items_from fn (nitems fn) 0 0 0

-- the record passes, over the type record Γ
unfoldable pub function_ok : List ℕ → List ℕ → Bool
function_ok Γ fn = function_sizes fn && locals_ok Γ (local_types fn) && starts_ok fn && ranks_ok fn && items_ok fn
