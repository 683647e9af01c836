-- What is told beside a statement (document 02, F-4) doesn't matter to carrying it out, nor to the point where it stands.
use Rattle.std.specs.Prelude.{◌≡◌, refl, List, [], ◌∷◌, ◌++◌, map, ℕ, eqb}
use Rattle.std.proofs.Common.{ap}
use Rattle.model.specs.Tree.{Forest}
use Rattle.model.specs.Place.{At}
use Rattle.model.specs.Walk.{carry, carry_at, carries_at}
use Rattle.model.specs.Frame.{Line}
use Rattle.model.specs.Record.{numbers, forget, forget_line}
use Rattle.model.specs.Replay.{at_point}
use Rattle.model.specs.Told.{told_lines}
use Rattle.base.specs.Tests.{split}
use Rattle.base.specs.Answer.{split_answer}

-- statements, forgotten, are carried out alike
pub carries_forget : (Γ : List ℕ) (ts : List At) (E : Forest) → carries_at Γ (map forget ts) E ≡ carries_at Γ ts E
unfolding carry_at carry
carries_forget Γ [] E = refl
carries_forget Γ (t ∷ ts) E = split_answer (carry_at Γ t E) (λ r e. cc) (λ D e. cc (carries_forget Γ ts D))

-- and stand where they stood
pub at_point_forget : (p : ℕ) (ls : List (Line At)) → at_point p (map forget_line ls) ≡ map forget (at_point p ls)
unfolding at_point
at_point_forget p [] = refl
at_point_forget p (l ∷ ls) = split (eqb l.point p) (λ e. cc (at_point_forget p ls)) (λ e. cc (at_point_forget p ls))

-- with the numbers that stand beside a record, whatever words stand behind them, its statements are the lines again
pub told_front : (ls : List (Line At)) (r : List ℕ) → told_lines (map forget_line ls) (numbers ls ++ r) ≡ ls
unfolding told_lines numbers
told_front [] r = refl
told_front (l ∷ ls) r = ap (λ (ms : List (Line At)). l ∷ ms) (told_front ls r)
