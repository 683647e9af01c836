-- A lent array at the two moments of a call: `was x` is what stood behind it as the function was called, `after x` what stands there
-- as it returns. A clause says `x.old` and `x.new`, and `x.now` of what is lent to be read; a definition that is given the whole says `was x` and `after x`.
use Rattle.std.specs.Prelude.{List, ℕ}
use Rattle.std.specs.Borrow.{MutBor}
use denote.Triple.Both.{Both}

abbrev pub was : {X Y : Type 0} → Both (MutBor X) Y → X
was x = x.entry.now

abbrev pub after : {X Y : Type 0} → Both X (MutBor Y) → Y
after x = x.exit.now

-- a lent array of numbers
abbrev pub Lent : Type 0
Lent = Both (MutBor (List ℕ)) (MutBor (List ℕ))
