-- A visit and an opening over the memory that both passes share are what model's passes take in of them.
use mathlib.Core.Path.{◌≡◌, refl, sym, ◌∙◌}
use mathlib.Core.Bool.{true, false}
use mathlib.Core.List.{List}
use Prim.Native.Nat.{ℕ}
use Rattle.model.specs.Answer.{done, ◌>>=◌}
use Rattle.model.specs.Tree.{Forest}
use Rattle.model.specs.Place.{At}
use Rattle.model.specs.Function.{nblocks}
use Rattle.model.specs.Frame.{Outcome, over, stop, into, say, meet, visit, opening_exit, opening}
use Rattle.model.specs.Passes.{absorb, Store, arrive, take_in, Log, hear, arrive_at, take_down}
use Rattle.model.specs.Body.{frame}
use Rattle.base.specs.Answer.{bind_same, bind_bind}
use Rattle.solver.specs.Direct.{visit_agree, opening_agree}
use Rattle.arrival.specs.Memory.{Memory, store_of, with_store, log_of, with_log, hears, arrives, enters, jumps}

module _ (Γ fn : List ℕ) (m : Memory) where
  -- THE FIRST PASS

  -- an outcome
  store_absorbs : (o : Outcome Forest At) (s : Store Forest)
      → absorb (hears Γ fn false) (arrives Γ fn false) o (with_store m s) ≡ take_in (frame Γ fn) o s >>= λ t. done (with_store m t)
  unfolding take_in absorb
  store_absorbs over s = refl
  store_absorbs (stop r) s = refl
  store_absorbs (into b E o) s = store_absorbs o s
  store_absorbs (say l o) s = store_absorbs o s
  store_absorbs (meet x o) s =
      bind_bind (arrive (frame Γ fn) x s) _ _
      ∙ bind_same (arrive (frame Γ fn) x s) (λ t. store_absorbs o t)
      ∙ sym (bind_bind (arrive (frame Γ fn) x s) _ _)

  -- a visit
  pub enters_store : (b : ℕ) (E : Forest)
      → enters Γ fn false (nblocks fn) b E m ≡ take_in (frame Γ fn) (visit (frame Γ fn) b E) (store_of m) >>= λ t. done (with_store m t)
  unfolding frame
  enters_store b E =
      sym (visit_agree (frame Γ fn) (hears Γ fn false) (arrives Γ fn false) b E m) ∙ store_absorbs (visit (frame Γ fn) b E) (store_of m)

  -- the opening
  pub jumps_store : (E : Forest)
      → jumps Γ fn false (nblocks fn) (opening_exit (frame Γ fn) E) m ≡ take_in (frame Γ fn) (opening (frame Γ fn) E) (store_of m) >>= λ t. done (with_store m t)
  unfolding frame
  jumps_store E =
      sym (opening_agree (frame Γ fn) (hears Γ fn false) (arrives Γ fn false) E m) ∙ store_absorbs (opening (frame Γ fn) E) (store_of m)

  -- THE SECOND PASS

  -- an outcome
  log_absorbs : (o : Outcome Forest At) (g : Log At)
      → absorb (hears Γ fn true) (arrives Γ fn true) o (with_log m g) ≡ take_down (frame Γ fn) m.kept o g >>= λ h. done (with_log m h)
  unfolding take_down absorb
  log_absorbs over g = refl
  log_absorbs (stop r) g = refl
  log_absorbs (into b E o) g = log_absorbs o g
  log_absorbs (say l o) g = log_absorbs o (hear (frame Γ fn) m.kept l g)
  log_absorbs (meet x o) g =
      bind_bind (arrive_at (frame Γ fn) m.kept x g) _ _
      ∙ bind_same (arrive_at (frame Γ fn) m.kept x g) (λ h. log_absorbs o h)
      ∙ sym (bind_bind (arrive_at (frame Γ fn) m.kept x g) _ _)

  -- a visit
  pub enters_log : (b : ℕ) (E : Forest)
      → enters Γ fn true (nblocks fn) b E m ≡ take_down (frame Γ fn) m.kept (visit (frame Γ fn) b E) (log_of m) >>= λ h. done (with_log m h)
  unfolding frame
  enters_log b E =
      sym (visit_agree (frame Γ fn) (hears Γ fn true) (arrives Γ fn true) b E m) ∙ log_absorbs (visit (frame Γ fn) b E) (log_of m)

  -- the opening
  pub jumps_log : (E : Forest)
      → jumps Γ fn true (nblocks fn) (opening_exit (frame Γ fn) E) m ≡ take_down (frame Γ fn) m.kept (opening (frame Γ fn) E) (log_of m) >>= λ h. done (with_log m h)
  unfolding frame
  jumps_log E =
      sym (opening_agree (frame Γ fn) (hears Γ fn true) (arrives Γ fn true) E m) ∙ log_absorbs (opening (frame Γ fn) E) (log_of m)
