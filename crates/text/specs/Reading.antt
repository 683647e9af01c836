-- The tokenizer's state and the array that it fills, as model's tokenizer has them.
use Rattle.std.specs.Prelude.{◌≡◌, true, false, List, [], ℕ, Option, None, Some, length, take}
use Rattle.model.specs.Ghosts as Model
use Rattle.text.specs.declared.scan.Scan.{Scan}

-- the value of the word that is being read, if one is
abbrev pub Held : Model.Scan → Option ℕ → Type 0
Held m None = (m.inside ≡ false) × (m.value ≡ 0)
Held m (Some v) = (m.inside ≡ true) × (m.value ≡ v)

-- model's state m, where all is well: the words that were read stand in front of the array, the first first
pub record Well (m : Model.Scan) (s : Scan) (words : List ℕ) : Type 0 where
  pub total : s.total ≡ m.total
  pub value : Held m s.value
  pub fine : m.fine ≡ true
  pub front : take m.total words ≡ Model.backwards m.words []

abbrev pub At : Model.Scan → Option Scan → List ℕ → Type 0
At m None words = m ≡ Model.spoilt
At m (Some s) words = Well m s words

-- s and the array are model's state m
pub record Reads (m : Model.Scan) (s : Option Scan) (words : List ℕ) : Type 0 where
  pub room : length words ≡ 4096
  pub at : At m s words

-- a state that needs nothing of the array
abbrev pub Begins : Model.Scan → Option Scan → Type 0
Begins m s = (words : List ℕ) → length words ≡ 4096 → Reads m s words

-- a step of the code, from s and words to r and after, is the step f of model; there is room whatever s is
pub record Steps (f : Model.Scan → Model.Scan) (s : Option Scan) (words : List ℕ) (r : Option Scan) (after : List ℕ) : Type 0 where
  pub room : length after ≡ 4096
  pub reads : (m : Model.Scan) → Reads m s words → Reads (f m) r after

-- a step that leaves the array as it is
abbrev pub StepsAside : (Model.Scan → Model.Scan) → Option Scan → Option Scan → Type 0
StepsAside f s r = (words : List ℕ) → length words ≡ 4096 → Steps f s words r words
