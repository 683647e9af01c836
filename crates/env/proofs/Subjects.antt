-- What a match on a place is on, by where its walk has ended.
use mathlib.Core.Path.{◌≡◌}
use mathlib.Core.Logic.{◌≢◌}
use mathlib.Core.Bool.{true, false}
use mathlib.Core.List.{List}
use mathlib.Core.Option.{none, some}
use Prim.Native.Nat.{ℕ, ◌<◌}
use lib.ListN.{length}
use borrow.Author.Tests.{eq-eqb, ne_eqb}
use Rattle.model.specs.Answer.{Answer, refused, done}
use Rattle.model.specs.Types.{kind}
use Rattle.model.specs.Tree.{Tree, Forest}
use Rattle.model.specs.Typing.{Fits}
use Rattle.model.specs.Place.{Spot, no_index}
use Rattle.model.specs.Walk.{pick, walk, enum_at, subject_at}
use Rattle.base.specs.Tests.{split}
use Rattle.walk.proofs.Frames.{nth_put}
use Rattle.walk.proofs.Ends.{Ended}
use Rattle.env.proofs.States.{nth_refused}

module _ {Γ ts : List ℕ} {E : Forest} (fits : Fits Γ ts E) (q : Spot) (known : q.local < length ts) where
  -- the walk is refused
  pub subject_refused : {n : ℕ} → ((act : Tree → Answer Tree) → walk Γ act q.place (pick q.local E) ≡ refused n) → subject_at Γ q E ≡ refused n
  unfolding subject_at enum_at
  subject_refused e =
      let w = nth_refused fits q.local known (walk Γ done q.place) (e done) in
      split (no_index q.place) (λ i. cc) (λ i. cc)

  module _ {t : ℕ} (d : Ended Γ q.place (pick q.local E) t) where
    -- it ends before an index
    pub subject_element : no_index q.place ≡ false → subject_at Γ q E ≡ done none
    unfolding subject_at
    subject_element i = rw (i, subject_at, nth_put fits q.local known (walk Γ done q.place), d.walks)

    -- at an enum
    enum_found : kind Γ t ≡ 7 → enum_at Γ q E ≡ done t
    unfolding enum_at
    enum_found k = rw (nth_put fits q.local known (walk Γ done q.place), d.walks, d.typed, eq-eqb (kind Γ t) 7 k)

    pub subject_enum : no_index q.place ≡ true → kind Γ t ≡ 7 → subject_at Γ q E ≡ done (some t)
    unfolding subject_at
    subject_enum i k = cc (enum_found k)

    -- at another type
    enum_other : kind Γ t ≢ 7 → enum_at Γ q E ≡ refused 5
    unfolding enum_at
    enum_other k = rw (nth_put fits q.local known (walk Γ done q.place), d.walks, d.typed, ne_eqb (kind Γ t) 7 k)

    pub subject_other : no_index q.place ≡ true → kind Γ t ≢ 7 → subject_at Γ q E ≡ refused 5
    unfolding subject_at
    subject_other i k = cc (enum_other k)
