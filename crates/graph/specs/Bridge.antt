-- The replay of document 01 is the replay over any states, with the player of a function: through a block's stations, by a target's own
-- unfolding.
use Rattle.std.specs.Prelude.{◌≡◌, ℕ}
use Rattle.std.proofs.Math.Path.{refl, ap}
use Rattle.std.proofs.Common.{◌∙◌}
use mathlib.Core.List.{List, [], ◌∷◌, map}
use Rattle.model.specs.Tree.{Forest, leaves}
use Rattle.model.specs.Place.{At}
use Rattle.model.specs.Walk.{carry_at, carries_at}
use Rattle.model.specs.Function.{local_types}
use Rattle.model.specs.Block.{Station, stations, targets, matched, entry_point}
use Rattle.model.specs.Frame.{Line, carries}
use Rattle.model.specs.Body.{frame}
use Rattle.model.specs.Record.{recorded, forget, forget_line}
use Rattle.model.specs.Replay as R
use Rattle.model.specs.Told.{TellsEach}
use Rattle.base.specs.Tests.{split_option}
use Rattle.base.specs.Answer.{split_answer}
use Rattle.base.specs.Forgotten.{carries_forget, at_point_forget}
use Rattle.solver.specs.Player as P

-- how a block of a function is replayed
abbrev pub player : List ℕ → List ℕ → P.Player Forest At
player Γ fn = record {
  through = λ b f E. R.through Γ f (stations fn b) E;
  depart = λ b i M. R.own Γ fn i (targets fn b) (matched fn b) M;
  Fine = λ b f E. R.Fine Γ f (stations fn b) E × TellsEach Γ f (stations fn b) E;
}

-- statements are carried out alike
pub carries_same : (Γ fn : List ℕ) (ts : List At) (E : Forest) → carries (frame Γ fn) ts E ≡ carries_at Γ ts E
unfolding carries frame
carries_same Γ fn [] E = refl
carries_same Γ fn (t ∷ ts) E = split_answer (carry_at Γ t E) (λ r e. cc) (λ D e. cc (carries_same Γ fn ts D))

-- words: a record of these lines
module _ (Γ fn words : List ℕ) (lines : List (Line At)) (is_record : recorded (entry_point fn) words ≡ map forget_line lines) where
  -- the lines' statements at a point
  abbrev said : ℕ → List At
  said p = R.at_point p lines

  -- are those of the record, but for what is told beside them
  script_said : (p : ℕ) → R.script Γ fn words p ≡ map forget (said p)
  unfolding R.script
  script_said p = ap (R.at_point p) is_record ∙ at_point_forget p lines

  carries_said : (p : ℕ) (E : Forest) → carries_at Γ (R.script Γ fn words p) E ≡ carries_at Γ (said p) E
  carries_said p E = ap (λ (ts : List At). carries_at Γ ts E) (script_said p) ∙ carries_forget Γ (said p) E

  -- through a block
  through_said : (ss : List Station) (E : Forest) → R.through Γ (R.script Γ fn words) ss E ≡ R.through Γ said ss E
  unfolding R.through R.stand
  through_said [] E = refl
  through_said (s ∷ ss) E = rw (carries_said s.point E) (split_answer (carries_at Γ (said s.point) E) (λ r e. cc) (λ D e.
      split_answer (R.look Γ s.used D) (λ r d. cc) (λ C d. cc (through_said ss D))))

  pub fine_said : {ss : List Station} {E : Forest} → R.Fine Γ said ss E → R.Fine Γ (R.script Γ fn words) ss E
  fine_said R.fine_end = R.fine_end
  fine_said (R.fine_on {s} {E = E} c u F) = R.fine_on (carries_said s.point E ∙ c) u (fine_said F)

  -- from a block on
  pub play_same : (is : List ℕ) (b : ℕ) (E : Forest) → R.play Γ fn words is b E ≡ P.play (frame Γ fn) (player Γ fn) lines is b E
  unfolding R.play P.play P.jump frame
  play_same [] b E = rw (through_said (stations fn b) E) refl
  play_same (i ∷ is) b E = split_option (R.find i (targets fn b)) (λ e. cc) (λ c e.
      let t = through_said (stations fn b) E in
      split_answer (R.through Γ said (stations fn b) E) (λ r d. cc) (λ M d.
      split_answer (R.own Γ fn i (targets fn b) (matched fn b) M) (λ r o. cc) (λ C o.
      let s = carries_same Γ fn (said i) C in
      let w = carries_said i C in
      split_answer (carries_at Γ (said i) C) (λ r k. cc) (λ D k. cc (play_same is c D)))))

  -- THE REPLAY
  pub replay_same : (is : List ℕ) → R.replay Γ fn words is ≡ P.replay (frame Γ fn) (player Γ fn) lines is (leaves (local_types fn))
  unfolding R.replay P.replay frame
  replay_same is =
      let ts = said (entry_point fn) in
      let E = leaves (local_types fn) in
      let s = carries_same Γ fn ts E in
      let w = carries_said (entry_point fn) E in
      split_answer (carries_at Γ ts E) (λ r k. cc) (λ D k. cc (play_same is 0 D))
