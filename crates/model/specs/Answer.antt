-- An answer: the number of a refusal of document 01's table, or a value.
use Rattle.std.specs.Prelude.{Bool, true, false, List, [], ◌∷◌, ℕ}
use Rattle.std.proofs.Math.Option.{Option, none, some}

pub data Answer (A : Type 0) : Type 0 where
  refused : ℕ → Answer A
  done : A → Answer A

-- a refusal ends what follows (the source's `?`)
infixl 20 ◌>>=◌
abbrev pub ◌>>=◌ : {A B : Type 0} → Answer A → (A → Answer B) → Answer B
◌>>=◌ (refused n) f = refused n
◌>>=◌ (done a) f = f a

-- go on if the test holds, else refuse with r: `require (leb n 512) 9 (λ _. ..)`
abbrev pub require : {A : Type 0} → Bool → ℕ → (Unit {0} → Answer A) → Answer A
require true r f = f tt
require false r f = refused r

-- the steps of a list, one after the other
abbrev pub run : {A S : Type 0} → (A → S → Answer S) → List A → S → Answer S
run f [] s = done s
run f (a ∷ as') s = f a s >>= run f as'

-- of two refusals, as far as there are any, the first
abbrev pub earlier : Option ℕ → Option ℕ → Option ℕ
earlier none b = b
earlier (some n) b = some n
