-- `arrival::meet::meet` meets its contract: the share of the join point lies in the store, and what an arrival leaves there is model's.
use mathlib.Core.Path.{◌≡◌, sym, subst}
use mathlib.Core.Bool.{Bool, true}
use mathlib.Core.List.{List}
use Prim.Native.Nat.{ℕ, ◌+◌, ◌≤◌}
use native.Mathlib.Omega.{arith}
use lib.ListN.{length}
use Rattle.std.specs.Prelude.{Ok, Err}
use Rattle.std.proofs.lemmas.Result.{err_from_is_err_and}
use Rattle.model.specs.Words.{word}
use Rattle.model.specs.Answer.{refused}
use Rattle.model.specs.Function.{local_types}
use Rattle.base.specs.Tests.{split_option}
use Rattle.blocks.specs.Points.{share_number}
use Rattle.arrival.specs.Memory.{arrives}
use Rattle.arrival.specs.Shares.{kept_in, Saved, BitFor}
use Rattle.arrival.specs.Arrivals.{Shelved, Filled}
use Rattle.arrival.specs.Visits.{exit}
use Rattle.arrival.proofs.Memo.{parts_long, kept_length}
use Rattle.arrival.proofs.Shelves.{points_few, share_most, base, lent_of}
use Rattle.arrival.proofs.Stored.{saved_full}
use Rattle.arrival.proofs.Stores.{share_inside, lent_saved, second_none}
use Rattle.arrival.proofs.Arrivals.{first_visits, second_visits}
use Rattle.arrival.proofs.meet.meet.Goals as goal
use Rattle.arrival.proofs.meet.meet.Goals.{Start}

-- what is known of the share of number p, and of the arrays
record Room (types fun memo waits forms whats : List ℕ) (c p : ℕ) : Type 0 where
  low : 1 ≤ p
  high : p ≤ 256
  forms_room : base p + 512 ≤ length forms
  whats_room : base p + 512 ≤ length whats
  bit : BitFor fun c waits
  shelved : Shelved types fun memo (lent_of forms p) (lent_of whats p) c

-- it is the share's
number : (w : Start) → (word w.args.points.now w.args.j.block) ≡ share_number w.args.fun.now.record.words.now w.args.j.block
number w = w.requires.shared.numbers _ w.requires.jump_in.1

-- so there is room
room : (w : Start) → let a = w.args in
    Room a.fun.now.types.words.now a.fun.now.record.words.now a.memo.now a.waits.now a.forms.now a.whats.now a.j.block (word w.args.points.now w.args.j.block)
room w =
    let a = w.args in
    let p = w.requires in
    let R = p.ongoing.is in
    let j = p.block_value in
    let q = number w in
    let l = p.jump_in.1 in
    let few = w.args.fun.now.accepted.formed.laid.most_blocks in
    let N = share_most a.fun.now.record.words.now a.j.block l j in
    let I = share_inside R l j few in
    record {
      low = omega (arith, N.0, q);
      high = omega (arith, N.1, q, few, points_few a.fun.now.record.words.now);
      forms_room = omega (arith, I.0, q);
      whats_room = omega (arith, I.1, q);
      bit = (l, R.long.waits);
      shelved = record {
        stored = p.ongoing.memory.kept a.j.block;
        is = lent_saved R l j few q;
        block = omega (arith, l, few);
        long = parts_long a.memo.now R.long.kept R.long.visited;
      };
    }

-- what arrives where the pass records arrives where something is stored
filled : (w : Start) → let a = w.args in
    a.o.recording ≡ true → Filled a.fun.now.types.words.now a.fun.now.record.words.now a.memo.now (lent_of a.forms.now (word w.args.points.now w.args.j.block)) (lent_of a.whats.now (word w.args.points.now w.args.j.block)) a.j.block
filled w t =
    let a = w.args in
    let p = w.requires in
    let O = p.ongoing in
    let x = exit a.fun.now.record.words.now a.j.entry a.j.item a.j.block O.state in
    let R = (room w).shelved in
    let v = lent_saved O.is p.jump_in.1 p.block_value w.args.fun.now.accepted.formed.laid.most_blocks (number w) in
    split_option (O.memory.kept a.j.block)
    (λ e. absurd (O.goes (subst (λ (b : Bool). arrives a.fun.now.types.words.now a.fun.now.record.words.now b x O.memory ≡ refused 0) (sym t) (second_none a.fun.now.types.words.now a.fun.now.record.words.now x O.memory e))))
    (λ S e. record { stored = S; is = subst (Saved a.fun.now.types.words.now (local_types a.fun.now.record.words.now) (lent_of a.forms.now (word w.args.points.now w.args.j.block)) (lent_of a.whats.now (word w.args.points.now w.args.j.block)) (word (kept_in a.memo.now) a.j.block)) e v; block = R.block; long = R.long })

pub overflow_sub-a : goal.overflow_sub-a
overflow_sub-a c = omega (arith, room (goal.at.overflow_sub-a c).Start)

pub slice_bounds-reconcile-end : goal.slice_bounds-reconcile-end
slice_bounds-reconcile-end c = (room (goal.at.slice_bounds-reconcile-end c).Start).forms_room

pub slice_bounds-reconcile-end-then-o : goal.slice_bounds-reconcile-end-then-o
slice_bounds-reconcile-end-then-o c = (room (goal.at.slice_bounds-reconcile-end-then-o c).Start).whats_room

pub reconcile-requires-clause-filled : goal.reconcile-requires-clause-filled
reconcile-requires-clause-filled c = filled (goal.at.reconcile-requires-clause-filled c).Start c.if-o.true

pub returns-then-o : goal.returns-then-o
returns-then-o c = λ m E M S H.
    let p = c.requires in
    let j = c.args.j in
    let l = p.jump_in.1 in
    let few = c.args.fun.now.accepted.formed.laid.most_blocks in
    let f = c.reconcile.ensures in
    let (T, k, F) = saved_full _ _ _ _ _ (m.kept j.block) (lent_saved M l p.block_value few (number (goal.at.returns-then-o c).Start)) (λ z. omega (arith, (filled (goal.at.returns-then-o c).Start c.if-o.true).is.count, z)) in
    second_visits M l p.block_value few j.item j.entry E T k c.if-o.true S (f.reconciling T E F H) f.lengths

pub slice_bounds-arrive-end : goal.slice_bounds-arrive-end
slice_bounds-arrive-end c = (room (goal.at.slice_bounds-arrive-end c).Start).forms_room

pub slice_bounds-arrive-end-2 : goal.slice_bounds-arrive-end-2
slice_bounds-arrive-end-2 c = (room (goal.at.slice_bounds-arrive-end-2 c).Start).whats_room

pub arrive-requires-clause-shelved : goal.arrive-requires-clause-shelved
arrive-requires-clause-shelved c = (room (goal.at.arrive-requires-clause-shelved c).Start).shelved

pub returns-in_err-arrive : goal.returns-in_err-arrive
returns-in_err-arrive c = λ m E M S H.
    let p = c.requires in
    let j = c.args.j in
    let l = p.jump_in.1 in
    let few = c.args.fun.now.accepted.formed.laid.most_blocks in
    let f = c.in_err-arrive.ensures in
    let q = number (goal.at.returns-in_err-arrive c).Start in
    let r = err_from_is_err_and c.from_residual.result c.from_residual.ensures.1 in
    rw (r.1, r.2, q, f.lengths.visited) (first_visits M l p.block_value few (Err _) j.item j.entry E c.if-o.false S H.trees.fits (f.arriving (m.kept j.block) E (lent_saved M l p.block_value few q) H)
    (kept_length c.args.memo.now c.arrive.new.memo f.lengths.memo) f.lengths.waits (rw q at f.lengths.forms) (rw q at f.lengths.whats))

pub returns : goal.returns
returns c = λ m E M S H.
    let p = c.requires in
    let j = c.args.j in
    let l = p.jump_in.1 in
    let few = c.args.fun.now.accepted.formed.laid.most_blocks in
    let f = c.in_ok-arrive.ensures in
    let q = number (goal.at.returns c).Start in
    rw (q, f.lengths.visited) (first_visits M l p.block_value few (Ok tt) j.item j.entry E c.if-o.false S H.trees.fits (f.arriving (m.kept j.block) E (lent_saved M l p.block_value few q) H)
    (kept_length c.args.memo.now c.arrive.new.memo f.lengths.memo) f.lengths.waits (rw q at f.lengths.forms) (rw q at f.lengths.whats))
