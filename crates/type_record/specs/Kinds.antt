-- The kinds and their numbers.
use Rattle.std.specs.Prelude.{ℕ, [], ◌∷◌, get_or}
use Rattle.type_record.specs.declared.kinds.Kind.{Kind}
use Rattle.type_record.specs.declared.kinds.Kind.TheVariants.{Opaque, Pointer, Reference, Box, Array, Tuple, Struct, Enum, Variant, Closure, Coroutine, Other}

-- 11 stands for all numbers that name none
abbrev pub kind_code : Kind → ℕ
kind_code Opaque = 0
kind_code Pointer = 1
kind_code Reference = 2
kind_code Box = 3
kind_code Array = 4
kind_code Tuple = 5
kind_code Struct = 6
kind_code Enum = 7
kind_code Variant = 8
kind_code Closure = 9
kind_code Coroutine = 10
kind_code Other = 11

unfoldable pub kind_named : ℕ → Kind
kind_named n =
    get_or (Opaque ∷ Pointer ∷ Reference ∷ Box ∷ Array ∷ Tuple ∷ Struct ∷ Enum ∷ Variant ∷ Closure ∷ Coroutine ∷ []) n Other
