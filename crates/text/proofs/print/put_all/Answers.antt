-- `text::print::put_all` meets its contract: the bytes are copied to their place. Assumes nothing.
use mathlib.Core.Path.{refl}
use Prim.Native.Nat.{◌+◌, ◌-◌}
use native.Mathlib.Omega.{arith}
use lib.ListN.{length}
use Rattle.std.proofs.lemmas.Slice.{put_mid-paste}
use Rattle.text.proofs.Writing.{writes_list}
use Rattle.text.proofs.print.put_all.Goals as goal

pub returns : goal.returns
returns c =
    let a = c.args in
    let s = a.s.now in
    rw (put_mid-paste a.at (a.at + length s - a.at) a.text.now c.copy_from_slice.new.self s (length s) c.copy_from_slice.ensures.after (omega arith) refl)
    (writes_list a.text.now s a.at (length s) refl c.requires)
