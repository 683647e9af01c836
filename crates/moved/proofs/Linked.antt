-- Linked, continued from specs/Linked: theorems that rest on others.
use Rattle.std.specs.Prelude.{◌≡◌, true}
use Rattle.std.proofs.Math.Path.{sym, ap}
use Rattle.std.proofs.Common.{◌∙◌}
use mathlib.Core.List.{List, map}
use Prim.Native.Nat.{ℕ}
use Rattle.model.specs.Types.{ntypes, types_ok}
use Rattle.model.specs.State.{locals_ok}
use Rattle.model.specs.Function.{local_types}
use Rattle.model.specs.Whole.{whole_told}
use Rattle.model.specs.Merge.{merged, sums_ok, Links}
use Rattle.base.specs.Typed.{types_typed, locals_typed}
use Rattle.base.specs.Function.{locals_pass}
use Rattle.moved.specs.Moves.{Embeds}
use Rattle.moved.proofs.Moves.{embeds_moves}
use Rattle.moved.specs.Alike.{Alike, function_ok_alike}
use Rattle.moved.specs.Upwards.{alike_self, moved_alike, moved_locals}
use Rattle.moved.specs.Passing.{first_embeds, second_embeds}
use Rattle.moved.proofs.Passing.{merged_passes}
use Rattle.moved.specs.Linked.{kept_locals, locals_moved, whole_moved}

-- THE LAW

-- a function, and one alike whose local types are moved, over the two records
function_links : {f : ℕ → ℕ} {Γ Δ : List ℕ} → types_ok Γ ≡ true → types_ok Δ ≡ true → Embeds f Γ Δ
    → {fn gn : List ℕ} → Alike fn gn → local_types gn ≡ map f (local_types fn)
    → (nforms nwhats nout ntold : ℕ) → whole_told Δ gn nforms nwhats nout ntold ≡ whole_told Γ fn nforms nwhats nout ntold
function_links {f} {Γ} {Δ} tΓ tΔ e {fn} {gn} a m =
    whole_moved (embeds_moves (types_typed Γ tΓ) e) a m tΓ tΔ (function_ok_alike a Δ Γ (ap (locals_ok Δ) m ∙ locals_moved f Γ Δ e (local_types fn)))

-- what two records that pass become links them, where the sums keep their limits
pub merged_links : (Γ Δ : List ℕ) → types_ok Γ ≡ true → types_ok Δ ≡ true → sums_ok Γ Δ ≡ true → Links Γ Δ (merged Γ Δ)
merged_links Γ Δ tΓ tΔ s =
    let g = types_typed Γ tΓ in
    let d = types_typed Δ tΔ in
    let t = merged_passes g d s in
    record {
      second = λ fn. function_links tΔ t (second_embeds g d) (moved_alike (ntypes Γ) fn) (moved_locals (ntypes Γ) fn);
      first = λ fn nforms nwhats nout ntold o.
          function_links tΓ t (first_embeds g d) (alike_self fn) (sym (kept_locals Δ (local_types fn) (locals_typed Γ (local_types fn) (locals_pass Γ fn o)))) nforms nwhats nout ntold;
    }
