-- What the laws of carried statements need of the types beside Fit: kinds up to 10, and one pointee. A record that passes
-- refusal 1 has it.
use Rattle.std.specs.Prelude.{◌≡◌, true, List, [], ◌∷◌, ℕ}
use Rattle.std.proofs.Common.{subst}
use Rattle.model.specs.Types.{kids, kind, pointer, types_ok, part}
use Rattle.model.specs.Tree.{Tree, nil, Forest, more}
use Rattle.model.specs.Typing.{Fits, Openable, fit_none, fit_more}
use Rattle.base.specs.Kinds.{Known, pointer_not_enum}
use Rattle.base.specs.Typed.{types_typed, kids_pointer}

-- of a type record
pub record Sound (Γ : List ℕ) : Type 0 where
  pub known : Known Γ
  pub pointee : (t : ℕ) → pointer (kind Γ t) ≡ true → (p : ℕ) × (kids Γ t 0 ≡ p ∷ [])

-- a record that passes has it
pub types_sound : (Γ : List ℕ) → types_ok Γ ≡ true → Sound Γ
types_sound Γ e =
    let y = types_typed Γ e in
    record { known = y.known; pointee = λ t d. (part Γ t 0, kids_pointer y t 0 d) }

-- a forest of one tree: what is below a pointer
pub data Single : Forest → Type 0 where
  single : {s : Tree} → Single (more s nil)

module _ {Γ : List ℕ} where
  -- trees of one type in all are one tree
  fits_one : {p : ℕ} {ns : Forest} → Fits Γ (p ∷ []) ns → Single ns
  fits_one (fit_more f fit_none) = single

  -- below a pointer there is one tree
  pub fits_single : Sound Γ → {t v : ℕ} {ns : Forest} → Openable Γ t v → Fits Γ (kids Γ t v) ns → pointer (kind Γ t) ≡ true → Single ns
  fits_single y {t} {v} {ns} o fs e =
      let q = y.pointee t e in
      let z : kids Γ t v ≡ q.0 ∷ [] = cc (o.plain (pointer_not_enum (kind Γ t) e), q.1) in
      fits_one (subst (λ ts. Fits Γ ts ns) z fs)
