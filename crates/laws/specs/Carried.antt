-- What is collected at a jump, in the form of a user: from a state to one above it, the list exists, and carried out on the
-- first state it gives the second. So after a join, from either side (`goto_join`).
use Rattle.std.specs.Prelude.{◌≡◌, Bool, List, ℕ}
use Rattle.model.specs.Answer.{done}
use Rattle.model.specs.Tree.{Forest, joins, leaves}
use Rattle.model.specs.Typing.{Fits}
use Rattle.model.specs.Place.{At}
use Rattle.model.specs.Walk.{carries_at}
use Rattle.model.specs.Collect.{collects, unfoldss}
use Rattle.base.specs.Answer.{good_at, accepted_value}
use Rattle.laws.specs.Typing.{fits_join}
use Rattle.base.specs.Order.{above_second}
use Rattle.laws.specs.Order.{states}
use Rattle.laws.specs.Sound.{Sound}
use Rattle.laws.specs.Collected.{collects_carry, unfoldss_carry}
use Rattle.laws.specs.Above.{collects_above}

module _ (Γ : List ℕ) (y : Sound Γ) where
  -- accepted, so it leads there
  pub collects_lead : {ts : List ℕ} {ss es : Forest} {a : List At} → Fits Γ ts ss → Fits Γ ts es
      → collects Γ ss es ≡ done a → carries_at Γ a ss ≡ done es
  collects_lead f g e = good_at (collects_carry Γ y f g) e

  -- from all folded
  pub unfoldss_lead : {ts : List ℕ} {es : Forest} {a : List At} → Fits Γ ts es → unfoldss Γ es ≡ done a → carries_at Γ a (leaves ts) ≡ done es
  unfoldss_lead g e = good_at (unfoldss_carry Γ y g) e

  -- from a state to one above it
  abbrev pub Leads : Forest → Forest → Type 0
  Leads ss es = (a : List At) × (collects Γ ss es ≡ done a) × (carries_at Γ a ss ≡ done es)

  -- there is a list, and it leads there
  pub goto_above : (m : Bool) {ts : List ℕ} {ss es : Forest} → Fits Γ ts ss → Fits Γ ts es
      → joins Γ m ss es ≡ ss → Leads es ss
  goto_above m {ss = ss} {es = es} f g e =
      let a = accepted_value (collects_above Γ m ss es e) in
      (a.0, a.1, collects_lead g f a.1)

  -- so after a join
  pub goto_join : (m : Bool) {ts : List ℕ} {ss es : Forest} → Fits Γ ts ss → Fits Γ ts es → Leads es (joins Γ m ss es)
  goto_join m {ts} {ss} {es} f g = goto_above m (fits_join m f g) g (above_second (states Γ m ts) f g)
