-- `body::tries::variant_of` meets its contract: the variant of the value is the one among those from v on.
use mathlib.Core.Path.{◌≡◌}
use Prim.Native.Nat.{◌-◌}
use Rattle.model.specs.Body.{variants_from, variants, variant_of}
use Rattle.body.proofs.tries.variant_of.Given as goal

abbrev pub invariant-loop-v : goal.invariant-loop-v
invariant-loop-v l = variant_of l.x (variants l.types.words.now l.t) ≡ variant_of l.x (variants_from l.types.words.now l.t (l.v-end - l.v) l.v)
