-- Trees written from the front, behind the first k words: one law for each step of code that writes them.
use Rattle.std.specs.Prelude.{◌≡◌, refl, ℕ, ◌+◌, ◌<◌, ◌≤◌, length, set}
use Rattle.std.proofs.Math.Path.{sym, ap}
use Rattle.std.proofs.Common.{◌∙◌, add-one, arith, take-suc-set, length-take-le, drop_at, take_all}
use mathlib.Core.List.{List, [], ◌∷◌, ◌++◌, append_assoc, append-nil}
use Rattle.std.proofs.Math.ListN.{take}
use Rattle.model.specs.Types.{kind, form}
use Rattle.model.specs.Tree.{Tree, leaf, node, Forest, nil, more, size, sizes}
use Rattle.model.specs.Typing.{Fit, Fits, depths}
use Rattle.model.specs.State.{State, levels, codes, codess}
use Rattle.records.specs.Here.{firsts, seconds, Coded, CodedAll, Written, WrittenAll, Shaped, Holds}
use Rattle.records.specs.Pairs.{firsts_append, seconds_append}
use Rattle.records.specs.Codes.{tree_forms, tree_whats, forest_forms, forest_whats}
use Rattle.records.specs.Window.{window, window_take}

-- one word written at k
snoc : (l p : List ℕ) (k v : ℕ) → k < length l → take (k + 1) (set l k v) ++ p ≡ take k l ++ (v ∷ p)
snoc l p k v h = rw (add-one, take-suc-set l k v h, append_assoc)

module _ {Γ : List ℕ} where
  -- a folded tree
  pub leaf_written : {fs ws : List ℕ} {k : ℕ} (t : ℕ) → k < length fs → k < length ws → Written Γ fs ws (set fs k 0) (set ws k 0) k (k + 1) (leaf t)
  unfolding size codes
  leaf_written {fs} {ws} {k} t hf hw =
      record {
        end = refl;
        formed = sym (append-nil _) ∙ snoc fs [] k 0 hf;
        said = sym (append-nil _) ∙ snoc ws [] k 0 hw;
      }

  -- an open node, then its children
  pub node_written : {fs ws fs' ws' : List ℕ} {k k' t v f : ℕ} {ys : Forest} → k < length fs → k < length ws → f ≡ form (kind Γ t)
      → WrittenAll Γ (set fs k f) (set ws k v) fs' ws' (k + 1) k' ys → Written Γ fs ws fs' ws' k k' (node t v ys)
  unfolding size codes
  node_written {fs} {ws} {k} {v} {f} {ys} hf hw e h =
      record {
        end = omega (arith, h.end);
        formed = h.formed ∙ snoc fs (firsts (codess Γ ys)) k f hf ∙ ap (λ (a : ℕ). take k fs ++ (a ∷ firsts (codess Γ ys))) e;
        said = h.said ∙ snoc ws (seconds (codess Γ ys)) k v hw;
      }

  -- no tree
  pub none_written : {fs ws : List ℕ} {k : ℕ} → WrittenAll Γ fs ws fs ws k k nil
  unfolding size codes
  none_written = record { end = omega arith; formed = sym (append-nil _); said = sym (append-nil _) }

  -- a tree, then others
  pub more_written : {fs ws fs' ws' fs'' ws'' : List ℕ} {k k' k'' : ℕ} {x : Tree} {xs : Forest} → Written Γ fs ws fs' ws' k k' x
      → WrittenAll Γ fs' ws' fs'' ws'' k' k'' xs → WrittenAll Γ fs ws fs'' ws'' k k'' (more x xs)
  unfolding size codes
  more_written {x} {xs} a b =
      record {
        end = omega (arith, a.end, b.end);
        formed = rw (b.formed, a.formed, append_assoc, firsts_append (codes Γ x) (codess Γ xs));
        said = rw (b.said, a.said, append_assoc, seconds_append (codes Γ x) (codess Γ xs));
      }

-- n words written behind the first k are the window there
written_window : (l l' p : List ℕ) (k n : ℕ) → k ≤ length l → length p ≡ n → take (k + n) l' ≡ take k l ++ p → window l' k n ≡ p
written_window l l' p k n h e w =
    sym (window_take l' k n (k + n) (omega arith))
    ∙ ap (λ (a : List ℕ). window a k n) w
    ∙ ap (take n) (drop_at (take k l) p k (length-take-le k l h))
    ∙ take_all n p (omega arith)

module _ {Γ fs ws fs' ws' : List ℕ} {k k' : ℕ} where
  -- what is written stands there
  pub written_coded : {t : ℕ} {y : Tree} → Fit Γ t y → k ≤ length fs → k ≤ length ws → Written Γ fs ws fs' ws' k k' y → Coded Γ fs' ws' k t y
  written_coded {y} f lf lw h =
      record {
        fits = f;
        formed = written_window fs fs' _ k (size y) lf (tree_forms Γ y) (rw h.end at h.formed);
        said = written_window ws ws' _ k (size y) lw (tree_whats Γ y) (rw h.end at h.said);
      }

  -- and so are trees
  pub written_all_coded : {ts : List ℕ} {ys : Forest} → Fits Γ ts ys → k ≤ length fs → k ≤ length ws → WrittenAll Γ fs ws fs' ws' k k' ys
      → CodedAll Γ fs' ws' k ts ys
  written_all_coded {ys} f lf lw h =
      record {
        fits = f;
        formed = written_window fs fs' _ k (sizes ys) lf (forest_forms Γ ys) (rw h.end at h.formed);
        said = written_window ws ws' _ k (sizes ys) lw (forest_whats Γ ys) (rw h.end at h.said);
      }

-- a tree that stands elsewhere, copied
pub copy_written : {Γ fs ws gs us gs' us' : List ℕ} {i t k k' : ℕ} {x : Tree} → Coded Γ fs ws i t x → k' ≡ k + size x
    → take k' gs' ≡ take k gs ++ window fs i (size x) → take k' us' ≡ take k us ++ window ws i (size x) → Written Γ gs us gs' us' k k' x
copy_written h e f w = record { end = e; formed = rw h.formed at f; said = rw h.said at w }

-- trees that stand elsewhere, copied
pub copies_written : {Γ fs ws gs us gs' us' ts : List ℕ} {i k k' : ℕ} {xs : Forest} → CodedAll Γ fs ws i ts xs → k' ≡ k + sizes xs
    → take k' gs' ≡ take k gs ++ window fs i (sizes xs) → take k' us' ≡ take k us ++ window ws i (sizes xs) → WrittenAll Γ gs us gs' us' k k' xs
copies_written h e f w = record { end = e; formed = rw h.formed at f; said = rw h.said at w }

-- a state written from the front, in its shape, is held
pub written_holds : {Γ locals fs ws : List ℕ} {s : State} {E : Forest} → Fits Γ locals E → depths E ≤ levels → Shaped s
    → WrittenAll Γ fs ws s.forms s.whats 0 s.nodes E → Holds Γ locals s E
written_holds f d a h = record { shape = a; trees = written_all_coded f (omega arith) (omega arith) h; count = omega (arith, h.end); deep = d }
