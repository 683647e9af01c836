-- `merge::write::copy` meets its contract. Assumes nothing.
use Rattle.std.proofs.Common.{◌≡◌, ◌∙◌, ap, ℕ, ◌+◌, ◌-◌, arith, length, take, drop}
use Rattle.records.specs.Window.{window, window_long}
use Rattle.merge.proofs.Putting.{copy_put}
use Rattle.merge.proofs.write.copy.Goals as goal

pub returns-clause-out_value : goal.returns-clause-out_value
returns-clause-out_value c =
    let a = c.args in
    let n : a.i + a.n - a.i ≡ a.n = omega arith in
    let long : length (window a.words.now a.i a.n) ≡ a.n = window_long a.words.now a.i a.n c.requires.n_in_bounds_2 in
    copy_put a.out.now (window a.words.now a.i a.n) c.copy_from_slice.new.self a.at (a.at + a.n - a.at)
    (c.copy_from_slice.ensures.after ∙ ap (λ (k : ℕ). take k (drop a.i a.words.now)) n) (omega arith) (omega (arith, c.requires.n_in_bounds))
