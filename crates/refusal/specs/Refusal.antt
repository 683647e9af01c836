-- The refusals' numbers, and how a result of the code is read as an answer of the definitions.
use Rattle.std.specs.Prelude.{ℕ, Option, Some, None, Result, Ok, Err}
use Rattle.std.proofs.Math.Option as Math
use Rattle.model.specs.Answer.{Answer, refused, done}
use Rattle.refusal.specs.declared.Refusal.{Refusal}
use Rattle.refusal.specs.declared.Refusal.TheVariants.{BadTypes, BadFunction, BadState, BadPlace, WrongStep, OtherVariant, BareVariant, NoSuchValue, StateFull, ShortStore, UnknownStatement, MergedTooLarge}

-- the tables of documents 01 (1 to 10) and 02
abbrev pub number : Refusal → ℕ
number BadTypes = 1
number BadFunction = 2
number BadState = 3
number BadPlace = 4
number WrongStep = 5
number OtherVariant = 6
number BareVariant = 7
number NoSuchValue = 8
number StateFull = 9
number ShortStore = 10
number UnknownStatement = 11
number MergedTooLarge = 12

-- 0, or the refusal's number
abbrev pub code : {A : Type 0} → Result A Refusal → ℕ
code (Ok a) = 0
code (Err r) = number r

-- the answer that a result is
abbrev pub answered : {A : Type 0} → Result A Refusal → Answer A
answered (Ok a) = done a
answered (Err r) = refused (number r)

-- the code's option as one of the definitions
abbrev pub found : {A : Type 0} → Option A → Math.Option A
found (Some a) = Math.some a
found None = Math.none
