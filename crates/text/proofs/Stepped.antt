-- Steps of the tokenizer: one that leaves all as it is, one that spoils it, one that is another where it is made, and one behind another.
use mathlib.Core.Path.{◌≡◌, refl, sym, ap, subst, ◌∙◌}
use mathlib.Core.List.{List}
use Prim.Native.Nat.{ℕ}
use lib.ListN.{length}
use Rattle.std.specs.Prelude.{Option, None}
use Rattle.model.specs.Ghosts as Model
use Rattle.text.specs.declared.scan.Scan.{Scan}
use Rattle.text.specs.Reading.{Reads, Steps}

module _ {s : Option Scan} (words : List ℕ) (room : length words ≡ 4096) where
  -- nothing is done
  pub stays : Steps (λ m. m) s words s words
  stays = record { room = room; reads = λ m h. h }

  -- all is spoilt
  pub spoils : Steps (λ m. Model.spoilt) s words None words
  spoils = record { room = room; reads = λ m h. record { room = room; at = refl } }

-- what is spoilt stays so
pub stays_spoilt : {f : Model.Scan → Model.Scan} (words : List ℕ) → length words ≡ 4096 → f Model.spoilt ≡ Model.spoilt → Steps f None words None words
stays_spoilt {f} words room e = record { room = room; reads = λ m h. record { room = room; at = ap f h.at ∙ e } }

-- a step that is g where the state is s
pub steps_as : {f g : Model.Scan → Model.Scan} {s r : Option Scan} {words after : List ℕ} → ((m : Model.Scan) → Reads m s words → f m ≡ g m)
    → Steps g s words r after → Steps f s words r after
steps_as {r} {after} e h =
    record { room = h.room; reads = λ m k. subst (λ (n : Model.Scan). Reads n r after) (sym (e m k)) (h.reads m k) }

-- one step after another
pub steps_on : {f g : Model.Scan → Model.Scan} {s t r : Option Scan} {words between after : List ℕ} → Steps f s words t between → Steps g t between r after
    → Steps (λ m. g (f m)) s words r after
steps_on {f} a b = record { room = b.room; reads = λ m h. b.reads (f m) (a.reads m h) }
