-- The kinds of statements and their numbers.
use Rattle.std.specs.Prelude.{ℕ, [], ◌∷◌, get_or}
use Rattle.assign.specs.declared.known.Rvalue.{Rvalue}
use Rattle.assign.specs.declared.known.Rvalue.TheVariants.{Use, Repeat, Ref, RawPtr, Cast, BinaryOp, UnaryOp, Discriminant, Aggregate, Other}

-- 9 stands for all numbers that name none
abbrev pub kind_code : Rvalue → ℕ
kind_code Use = 0
kind_code Repeat = 1
kind_code Ref = 2
kind_code RawPtr = 3
kind_code Cast = 4
kind_code BinaryOp = 5
kind_code UnaryOp = 6
kind_code Discriminant = 7
kind_code Aggregate = 8
kind_code Other = 9

unfoldable pub kind_named : ℕ → Rvalue
kind_named n = get_or (Use ∷ Repeat ∷ Ref ∷ RawPtr ∷ Cast ∷ BinaryOp ∷ UnaryOp ∷ Discriminant ∷ Aggregate ∷ []) n Other
