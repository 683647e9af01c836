-- Trees written from the front where there is room for 512 words: one law for each way in which a function of join ends.
-- Assumes nothing.
use Rattle.std.proofs.Common.{Some}
use mathlib.Core.Path.{◌≡◌, refl, ◌∙◌}
use mathlib.Core.Bool.{Bool}
use mathlib.Core.List.{List}
use Prim.Native.Nat.{ℕ, ◌+◌, ◌≤◌, ◌<◌}
use native.Mathlib.Omega.{arith}
use lib.ListN.{length}
use Rattle.model.specs.Types.{kind, form}
use Rattle.model.specs.Tree.{Tree, leaf, node, Forest, nil, more, size, sizes}
use Rattle.records.specs.Written.{leaf_written, node_written, none_written, more_written}
use Rattle.join.specs.declared.ends.Marks.{Marks}
use Rattle.join.specs.declared.ends.Ends.{Ends}
use Rattle.join.specs.Ends.{Arrays, stored, marks, ended, Done, Out, Wrote, WroteAll}

-- written up to p
done_ended : {W : ℕ → Type 0} {p : Marks} {a b : ℕ} {c d : Bool} → p.first ≡ a → p.second ≡ b → d ≡ c → W p.out → Done W a b c (ended p d)
done_ended f g h w = record { first = f; second = g; changed = h; written = w }

-- what was written, told anew
pub again_out : {n : ℕ} {W : ℕ → Type 0} {a b i j : ℕ} {c d : Bool} {e : Ends} → Out n W a b c (Some e)
    → {p : Marks} {f : Bool} → p.out ≡ e.to.out → p.first ≡ i → p.second ≡ j → f ≡ d → Out n W i j d (Some (ended p f))
again_out o l f g h = (o.0, done_ended f g h (rw l o.1.written))

-- an open node, then its children
pub node_out : {Γ : List ℕ} {out out' : Arrays} {k a b t v f i j : ℕ} {c : Bool} {ys : Forest} {e : Ends} → k < length out.forms → k < length out.whats
    → f ≡ form (kind Γ t) → WroteAll Γ (stored out k f v) out' (k + 1) ys i j c (Some e) → i ≡ a → j ≡ b → Wrote Γ out out' k (node t v ys) a b c (Some e)
unfolding size
node_out lf lw e o p q =
    let d = o.1 in
    (omega (arith, o.0), record { first = d.first ∙ p; second = d.second ∙ q; changed = d.changed; written = node_written lf lw e d.written })

module _ {Γ : List ℕ} {out : Arrays} {a b : ℕ} {c : Bool} where
  -- a folded tree
  pub leaf_out : {k : ℕ} {e : Ends} (t : ℕ) → k < 512 → length out.forms ≡ 512 → length out.whats ≡ 512 → e ≡ ended (marks a b (k + 1)) c
      → Wrote Γ out (stored out k 0 0) k (leaf t) a b c (Some e)
  unfolding size
  leaf_out t l lf lw e = rw e (omega arith, done_ended refl refl refl (leaf_written t (omega arith) (omega arith)))

  -- no tree
  pub none_out : {p : Marks} → p.out ≤ 512 → p.first ≡ a → p.second ≡ b → WroteAll Γ out out p.out nil a b c (Some (ended p c))
  unfolding sizes
  none_out l f g = (omega arith, done_ended f g refl none_written)

-- a tree y is written, and then ys are
pub more_out : {Γ : List ℕ} {out out' out'' : Arrays} {k a b i j g h : ℕ} {c d f x : Bool} {y : Tree} {ys : Forest} {e s : Ends} → Wrote Γ out out' k y a b c (Some e)
    → WroteAll Γ out' out'' e.to.out ys i j d (Some s) → s.to.first ≡ g → s.to.second ≡ h → x ≡ f → WroteAll Γ out out'' k (more y ys) g h f (Some (ended s.to x))
unfolding sizes
more_out o p l m n =
    let w = o.1.written in
    (omega (arith, w.end, p.0), done_ended l m n (more_written w p.1.written))
