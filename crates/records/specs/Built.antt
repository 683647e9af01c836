-- A tree in two arrays, put together from its parts: the way back of each law of `Coded`.
use Rattle.std.specs.Prelude.{◌≡◌, ℕ, ◌+◌, ◌<◌, length, get_or}
use Rattle.std.proofs.Math.Path.{refl, sym, ap, ap₂}
use Rattle.std.proofs.Common.{◌∙◌}
use mathlib.Core.List.{List, [], ◌∷◌, ◌++◌}
use Rattle.model.specs.Types.{kind, kids, form}
use Rattle.model.specs.Tree.{Tree, leaf, node, Forest, nil, more, size, sizes}
use Rattle.model.specs.Typing.{Openable, fit_leaf, fit_node, fit_none, fit_more}
use Rattle.model.specs.State.{codes, codess}
use Rattle.records.specs.Here.{Coded, CodedAll}
use Rattle.records.specs.Pairs.{firsts_append, seconds_append}
use Rattle.records.specs.Window.{window_cons, window_append}

module _ {Γ fs ws : List ℕ} {i : ℕ} where
  -- two zeros are a folded tree of any type
  pub leaf_coded : (t : ℕ) → i < length fs → i < length ws → get_or fs i 0 ≡ 0 → get_or ws i 0 ≡ 0 → Coded Γ fs ws i t (leaf t)
  unfolding size codes
  leaf_coded t lf lw e d =
      record {
        fits = fit_leaf;
        formed = window_cons fs i 0 0 lf ∙ ap (λ (a : ℕ). a ∷ []) e;
        said = window_cons ws i 0 0 lw ∙ ap (λ (a : ℕ). a ∷ []) d;
      }

  -- a form and a what, and the children behind them, are an open tree
  pub node_coded : {t v : ℕ} {ns : Forest} → i < length fs → i < length ws → Openable Γ t v → get_or fs i 0 ≡ form (kind Γ t) → get_or ws i 0 ≡ v
      → CodedAll Γ fs ws (i + 1) (kids Γ t v) ns → Coded Γ fs ws i t (node t v ns)
  unfolding size codes
  node_coded {ns} lf lw o e d h =
      record {
        fits = fit_node o h.fits;
        formed = window_cons fs i 0 (sizes ns) lf ∙ ap₂ (λ (a : ℕ) (l : List ℕ). a ∷ l) e h.formed;
        said = window_cons ws i 0 (sizes ns) lw ∙ ap₂ (λ (a : ℕ) (l : List ℕ). a ∷ l) d h.said;
      }

  -- no tree stands anywhere
  pub none_coded : CodedAll Γ fs ws i [] nil
  unfolding size codes
  none_coded = record { fits = fit_none; formed = refl; said = refl }

  -- a tree and others behind it
  pub more_coded : {t : ℕ} {ts : List ℕ} {x : Tree} {xs : Forest} → Coded Γ fs ws i t x → CodedAll Γ fs ws (i + size x) ts xs
      → CodedAll Γ fs ws i (t ∷ ts) (more x xs)
  unfolding size codes
  more_coded {x} {xs} h k =
      record {
        fits = fit_more h.fits k.fits;
        formed = window_append fs i (size x) (sizes xs) ∙ ap₂ ◌++◌ h.formed k.formed ∙ sym (firsts_append (codes Γ x) (codess Γ xs));
        said = window_append ws i (size x) (sizes xs) ∙ ap₂ ◌++◌ h.said k.said ∙ sym (seconds_append (codes Γ x) (codess Γ xs));
      }
