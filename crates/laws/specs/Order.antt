-- Trees of one type, and states, are ordered by their joins: s is above e when it absorbs e, join s e is s. The laws of the order are
-- those of base's Order, which follow from the three laws of Join; here are what they are named at.
use Rattle.std.specs.Prelude.{Bool, List, ℕ}
use Rattle.model.specs.Tree.{Tree, Forest, join, joins}
use Rattle.model.specs.Typing.{Fit, Fits}
use Rattle.base.specs.Order.{Semilattice}
use Rattle.laws.specs.Typing.{fit_join, fits_join}
use Rattle.laws.specs.Join.{join_self, joins_self, join_comm, joins_comm, join_assoc, joins_assoc}

module _ (Γ : List ℕ) where
  -- the trees of one type: `above_first (trees Γ m t) f g`
  pub trees : (m : Bool) (t : ℕ) → Semilattice Tree (Fit Γ t) (join Γ m)
  trees m t = record {
    ok = λ f g. fit_join m f g;
    self = join_self Γ m;
    comm = λ f g. join_comm m f g;
    assoc = λ f g h. join_assoc m f g h;
  }

  -- the states of one list of locals: `above_first (states Γ false ts) f g`
  pub states : (m : Bool) (ts : List ℕ) → Semilattice Forest (Fits Γ ts) (joins Γ m)
  states m ts = record {
    ok = λ f g. fits_join m f g;
    self = joins_self Γ m;
    comm = λ f g. joins_comm m f g;
    assoc = λ f g h. joins_assoc m f g h;
  }
