-- The cycle of calls {basic_block, goto, terminator} meets its contracts. `basic_block`: its items are passed, and it returns or is left by
-- its targets, by the laws of `Entering`. `goto`: a join point is met, any other block is entered, and the way has not entered it, by those
-- of `Steps`. `terminator`: all arms are tried, then each target item is a jump of the way, by those of `Leaving`.
use mathlib.Core.Path.{◌≡◌, refl, sym, ap, ◌∙◌, subst}
use mathlib.Core.Bool.{Bool}
use mathlib.Core.List.{List}
use Prim.Native.Nat.{ℕ, suc, ◌-◌, ◌<◌, ◌≤◌}
use native.Mathlib.Omega.{arith}
use Rattle.std.proofs.lemmas.Result.{err_from_is_err_and}
use Rattle.model.specs.Answer.{refused}
use Rattle.model.specs.Function.{nblocks, start, stop, op}
use Rattle.base.specs.Function.{stop_inside}
use Rattle.graph.specs.Ranges.{Holds as InBlock}
use Rattle.blocks.proofs.Spots.{formed_accepted}
use Rattle.arrival.specs.Memory as Memory
use Rattle.arrival.specs.Memory.{departs}
use Rattle.arrival.specs.Visits.{exit}
use Rattle.arrival.proofs.Memo.{alike_in}
use Rattle.arrival.proofs.Heard.{telling, spoken_told, spoken_own, stated, ongoing_as}
use Rattle.arrival.proofs.Shelves.{share_joins, none_joins}
use Rattle.visit.proofs.Ways.{leaps_come, come_leaps}
use Rattle.visit.proofs.Steps.{returns_is, returns_not, target_behind, jumps_meet, jumps_enter}
use Rattle.visit.proofs.Entering.{alike_same, alike_then, told_remembers, visits_pen, visits_refused, passes_block, passes_gone, enter_refused, enter_over, enter_leave, enters_departs}
use Rattle.visit.proofs.Leaving.{left_start, left_skip, left_next, left_over, left_refused, left_end, aimed_refused}
use Rattle.visit.proofs.block.+basic_block_goto_terminator.Goals as goal
use Rattle.visit.proofs.block.+basic_block_goto_terminator.Goals.{terminator-In-loop-i, terminator-then-op_of-eq-TARGET+in_ok-q, terminator-else-op_of-eq-TARGET}

-- A BLOCK THAT IS ENTERED

pub basic_block-pass_items-requires-clause-within : goal.basic_block-pass_items-requires-clause-within
basic_block-pass_items-requires-clause-within t c =
    let A = formed_accepted c.args.fun.now.accepted.formed in
    record {
      order = omega (arith, c.start_of-from.ensures, c.stop_of-end.ensures, A.starts _ c.requires.come.known);
      inside = omega (arith, c.stop_of-end.ensures, stop_inside A c.args.w.block);
    }

pub basic_block-returns-in_err-q : goal.basic_block-returns-in_err-q
basic_block-returns-in_err-q t c =
    let r = err_from_is_err_and c.from_residual.result c.from_residual.ensures.1 in
    rw (r.1, r.2) (λ m E R N H.
    enter_refused c.args.w.left c.requires.come.known E m (passes_block E c.args.w.block c.start_of-from.ensures c.stop_of-end.ensures (c.in_err-q.ensures E H)))

pub basic_block-overflow_sub-end : goal.basic_block-overflow_sub-end
basic_block-overflow_sub-end t c =
    omega (arith, c.stop_of-end.ensures, (formed_accepted c.args.fun.now.accepted.formed).starts _ c.requires.come.known)

pub basic_block-op_of-requires : goal.basic_block-op_of-requires
basic_block-op_of-requires t c =
    record {
      i_bound = let A = formed_accepted c.args.fun.now.accepted.formed in
          omega (arith, c.stop_of-end.ensures, A.starts _ c.requires.come.known, stop_inside A c.args.w.block);
    }

pub basic_block-overflow_sub-end-then-op_of-eq-RETURN : goal.basic_block-overflow_sub-end-then-op_of-eq-RETURN
basic_block-overflow_sub-end-then-op_of-eq-RETURN t c =
    omega (arith, c.stop_of-end.ensures, (formed_accepted c.args.fun.now.accepted.formed).starts _ c.requires.come.known)

pub basic_block-returned-requires-clause-i_bound : goal.basic_block-returned-requires-clause-i_bound
basic_block-returned-requires-clause-i_bound t c =
    let A = formed_accepted c.args.fun.now.accepted.formed in
    omega (arith, c.stop_of-end.ensures, A.starts _ c.requires.come.known, stop_inside A c.args.w.block)

pub basic_block-returned-requires-clause-stated : goal.basic_block-returned-requires-clause-stated
basic_block-returned-requires-clause-stated t c =
    let o = c.requires.ongoing in
    let (w, u, G, T) = passes_gone (passes_block o.state c.args.w.block c.start_of-from.ensures c.stop_of-end.ensures (c.in_ok-q.ensures o.state o.holds)) in
    record { state = w.0; holds = G }

pub basic_block-returned-requires-clause-counted : goal.basic_block-returned-requires-clause-counted
basic_block-returned-requires-clause-counted t c =
    let o = c.requires.ongoing in
    let (w, u, G, T) = passes_gone (passes_block o.state c.args.w.block c.start_of-from.ensures c.stop_of-end.ensures (c.in_ok-q.ensures o.state o.holds)) in
    (spoken_told o.spoken T).counted

pub basic_block-returns-then-op_of-eq-RETURN : goal.basic_block-returns-then-op_of-eq-RETURN
basic_block-returns-then-op_of-eq-RETURN t c = λ m E R N H.
    let a = c.args in
    let p = c.requires in
    let e = c.stop_of-end.ensures in
    let (w, u, G, T) = passes_gone (passes_block E a.w.block c.start_of-from.ensures e (c.in_ok-q.ensures E H)) in
    enter_over a.w.left p.come.known E m (formed_accepted c.args.fun.now.accepted.formed) u T (ap (λ (i : ℕ). i - 1) e)
    (returns_is _ _ (ap (λ (i : ℕ). op a.fun.now.record.words.now (i - 1)) (sym e) ∙ sym c.op_of.ensures ∙ c.if-op_of-eq-RETURN.true)) R N (c.returned.ensures w.0 G)

pub basic_block-terminator-requires : goal.basic_block-terminator-requires
basic_block-terminator-requires t c =
    let a = c.args in
    let p = c.requires in
    let o = p.ongoing in
    let r = a.o.recording in
    let (w, u, G, T) = passes_gone (passes_block o.state a.w.block c.start_of-from.ensures c.stop_of-end.ensures (c.in_ok-q.ensures o.state o.holds)) in
    let S = spoken_told o.spoken T in
    let m = telling r w.1 o.memory in
    let e = enters_departs a.fun.now.types.words.now a.fun.now.record.words.now r a.w.left a.w.block p.come.known o.state o.memory u
    (returns_not _ _ (λ d. c.if-op_of-eq-RETURN.false (c.op_of.ensures ∙ ap (λ (i : ℕ). op a.fun.now.record.words.now (i - 1)) c.stop_of-end.ensures ∙ d))) in (
      omega (arith, c.decreases),
      (
        p.shared,
        (
          record {
            memory = m;
            is = told_remembers r w.1 o.is;
            spoken = spoken_own S;
            state = w.0;
            holds = G;
            goes = λ d. o.goes (e ∙ subst (λ (b : Bool). departs a.fun.now.types.words.now a.fun.now.record.words.now b a.w.left a.w.block w.0 m ≡ refused 0) S.pen d);
          },
          p.come,
        ),
      ),
    )

pub basic_block-returns : goal.basic_block-returns
basic_block-returns t c = λ m E R N H.
    let a = c.args in
    let p = c.requires in
    let r = a.o.recording in
    let (w, u, G, T) = passes_gone (passes_block E a.w.block c.start_of-from.ensures c.stop_of-end.ensures (c.in_ok-q.ensures E H)) in
    let S = spoken_told N T in
    enter_leave a.w.left p.come.known E m (formed_accepted c.args.fun.now.accepted.formed) u T
    (returns_not _ _ (λ d. c.if-op_of-eq-RETURN.false (c.op_of.ensures ∙ ap (λ (i : ℕ). op a.fun.now.record.words.now (i - 1)) c.stop_of-end.ensures ∙ d)))
    (visits_pen (λ b. departs a.fun.now.types.words.now a.fun.now.record.words.now b a.w.left a.w.block w.0 (telling r w.1 m)) S.pen
    (c.terminator.ensures (telling r w.1 m) w.0 (told_remembers r w.1 R) (spoken_own S) G))

-- A JUMP

pub goto-meet-requires-clause-ongoing : goal.goto-meet-requires-clause-ongoing
goto-meet-requires-clause-ongoing t c =
    let a = c.args in
    let p = c.requires in
    let O = p.ongoing in
    let J = share_joins _ _ (λ z. c.if-points-c-ne0.true (p.shared.numbers _ p.leaps.known ∙ z)) in
    ongoing_as O (jumps_meet a.fun.now.types.words.now a.fun.now.record.words.now a.o.recording a.j.left (exit a.fun.now.record.words.now a.j.entry a.j.item a.j.block O.state) O.memory J)

pub goto-meet-requires-clause-block_value : goal.goto-meet-requires-clause-block_value
goto-meet-requires-clause-block_value t c =
    let p = c.requires in
    share_joins _ _ (λ z. c.if-points-c-ne0.true (p.shared.numbers _ p.leaps.known ∙ z))

pub goto-returns-then-points-c-ne0 : goal.goto-returns-then-points-c-ne0
goto-returns-then-points-c-ne0 t c = λ m E R N H.
    let a = c.args in
    let p = c.requires in
    let J = share_joins _ _ (λ z. c.if-points-c-ne0.true (p.shared.numbers _ p.leaps.known ∙ z)) in
    rw (jumps_meet a.fun.now.types.words.now a.fun.now.record.words.now a.o.recording a.j.left (exit a.fun.now.record.words.now a.j.entry a.j.item a.j.block E) m J)
    (c.meet.ensures m E R N H)

pub goto-overflow_sub-w : goal.goto-overflow_sub-w
goto-overflow_sub-w t c =
    let p = c.requires in
    let J = none_joins _ _ (sym (p.shared.numbers _ p.leaps.known) ∙ c.if-points-c-ne0.false) in
    omega (arith, (leaps_come (formed_accepted c.args.fun.now.accepted.formed) p.leaps J).0)

pub goto-basic_block-requires : goal.goto-basic_block-requires
goto-basic_block-requires t c =
    let a = c.args in
    let p = c.requires in
    let O = p.ongoing in
    let J = none_joins _ _ (sym (p.shared.numbers _ p.leaps.known) ∙ c.if-points-c-ne0.false) in
    let (l, C) = leaps_come (formed_accepted c.args.fun.now.accepted.formed) p.leaps J in
    let e : a.j.left ≡ suc (a.j.left - 1) = omega (arith, l) in (
      omega (arith, l, c.decreases),
      (
        p.shared,
        (
          ongoing_as O (jumps_enter a.fun.now.types.words.now a.fun.now.record.words.now a.o.recording a.j.left (exit a.fun.now.record.words.now a.j.entry a.j.item a.j.block O.state) O.memory J
              ∙ ap (λ (n : ℕ). Memory.enters a.fun.now.types.words.now a.fun.now.record.words.now a.o.recording n a.j.block O.state O.memory) e),
          C,
        ),
      ),
    )

pub goto-returns : goal.goto-returns
goto-returns t c = λ m E R N H.
    let a = c.args in
    let p = c.requires in
    let J = none_joins _ _ (sym (p.shared.numbers _ p.leaps.known) ∙ c.if-points-c-ne0.false) in
    let z : suc (a.j.left - 1) ≡ a.j.left = omega (arith, (leaps_come (formed_accepted c.args.fun.now.accepted.formed) p.leaps J).0) in
    rw (jumps_enter a.fun.now.types.words.now a.fun.now.record.words.now a.o.recording a.j.left (exit a.fun.now.record.words.now a.j.entry a.j.item a.j.block E) m J)
    (rw z at (c.basic_block.ensures m E R N H))

-- A BLOCK THAT IS LEFT

-- the item at hand is one of the block
item_holds : {fn : List ℕ} {b i e : ℕ} → b < nblocks fn → start fn b ≤ i → i < e → e ≡ stop fn b → InBlock fn b i
item_holds k l h e = record { block = k; low = l; high = omega (arith, h, e) }

pub terminator-returns-in_err-p : goal.terminator-returns-in_err-p
terminator-returns-in_err-p t c =
    let r = err_from_is_err_and c.from_residual.result c.from_residual.ensures.1 in
    rw (r.1, r.2) (λ m E R N H. visits_refused (rw ((c.in_err-p.ensures E H).refuses _ refl) refl) (alike_same _) refl)

pub terminator-loop-i-init : goal.terminator-loop-i-init
terminator-loop-i-init t c =
    let p = c.requires in (
      record {
        alike = alike_same _;
        same = refl;
        left = λ m E R N H. rw c.start_of-i.ensures (left_start p.come.known (c.in_ok-p.ensures E H) R N);
      },
      refl,
    )

-- the item at hand
at_hand : {t : ℕ} (c : terminator-In-loop-i t) → InBlock c.args.fun.now.record.words.now c.args.w.block c.loop-i.i
at_hand c = item_holds c.requires.come.known (omega (arith, c.start_of-i.ensures)) c.loop-i-test.true c.stop_of-i-end.ensures

pub terminator-op_of-requires : goal.terminator-op_of-requires
terminator-op_of-requires t c =
    record { i_bound = omega (arith, c.loop-i-test.true, c.stop_of-i-end.ensures, stop_inside (formed_accepted c.args.fun.now.accepted.formed) c.args.w.block) }

pub terminator-target_state-u-requires : goal.terminator-target_state-u-requires
terminator-target_state-u-requires t c =
    let p = c.requires in
    let A = formed_accepted c.args.fun.now.accepted.formed in
    let h = p.ongoing in
    let b = at_hand (goal.at.terminator-target_state-u-requires t c).In-loop-i in
    let d = sym c.op_of.ensures ∙ c.if-op_of-eq-TARGET.true in
    let N = left_next (c.loop-i.invariant.0.left h.memory h.state h.is h.spoken h.holds) b.high d in
    let P = c.in_ok-p.ensures _ h.holds in
    record {
      i_bound = omega (arith, b.high, stop_inside A c.args.w.block);
      stated = stated h;
      leaves = record { state = h.state; holds = h.holds; sound = P.sound _ refl; behind = target_behind A p.come.known b d P; left = N.state; leaves = N.by };
    }

pub terminator-arg_of-requires : goal.terminator-arg_of-requires
terminator-arg_of-requires t c =
    record { i_bound = omega (arith, c.loop-i-test.true, c.stop_of-i-end.ensures, stop_inside (formed_accepted c.args.fun.now.accepted.formed) c.args.w.block) }

pub terminator-goto-requires : goal.terminator-goto-requires
terminator-goto-requires t c =
    let p = c.requires in
    let h = p.ongoing in
    let b = at_hand (goal.at.terminator-goto-requires t c).In-loop-i in
    let d = sym c.op_of.ensures ∙ c.if-op_of-eq-TARGET.true in
    let aim = c.arg_of.ensures in
    let L = c.loop-i.invariant.0.left h.memory h.state h.is h.spoken h.holds in
    let N = left_next L b.high d in (
      omega (arith, c.decreases),
      (
        p.shared,
        (
          record {
            memory = L.memory;
            is = L.is;
            spoken = spoken_own L.spoken;
            state = N.state;
            holds = c.target_state-u.ensures h.state h.holds N.state N.by;
            goes = λ k. h.goes (aimed_refused N L.spoken.pen aim k);
          },
          rw aim (come_leaps (formed_accepted c.args.fun.now.accepted.formed) p.come b d),
        ),
      ),
    )

pub terminator-returns-in_err-q : goal.terminator-returns-in_err-q
terminator-returns-in_err-q t c =
    let r = err_from_is_err_and c.from_residual-in_err-q.result c.from_residual-in_err-q.ensures.1 in
    rw (r.1, r.2) (λ m E R M H.
    let b = at_hand (goal.at.terminator-returns-in_err-q t c).In-loop-i in
    let L = c.loop-i.invariant.0.left m E R M H in
    let N = left_next L b.high (sym c.op_of.ensures ∙ c.if-op_of-eq-TARGET.true) in
    left_refused L N c.arg_of.ensures (c.in_err-q.ensures L.memory N.state L.is (spoken_own L.spoken) (c.target_state-u.ensures E H N.state N.by)))

pub terminator-loop-i-preserved : goal.terminator-loop-i-preserved
terminator-loop-i-preserved t c =
    let I = c.loop-i.invariant.0 in
    let h = (at_hand (goal.at.terminator-loop-i-preserved t c).In-loop-i).high in
    elim c.if-op_of-eq-TARGET.branch [
      | terminator-then-op_of-eq-TARGET+in_ok-q w ↦ rw (w.memo-is, w.waits-is, w.forms-is, w.whats-is, w.out-is, w.q-is) (
        record {
          alike = alike_then I.alike (alike_in c.loop-i.memo w.goto.new.memo w.goto.auto.memo w.goto.auto.waits w.goto.auto.forms w.goto.auto.whats);
          same = w.goto.auto.out ∙ I.same;
          left = λ m E R S H.
              let L = I.left m E R S H in
              let N = left_next L h (sym c.op_of.ensures ∙ w.if-op_of-eq-TARGET.true) in
              left_over L N w.arg_of.ensures (w.in_ok-q.ensures L.memory N.state L.is (spoken_own L.spoken) (w.target_state-u.ensures E H N.state N.by));
        },
        w.goto.auto.memo ∙ c.loop-i.invariant.1,
      )
      | terminator-else-op_of-eq-TARGET w ↦ rw (w.memo-is, w.waits-is, w.forms-is, w.whats-is, w.out-is, w.q-is) (
        record {
          alike = I.alike;
          same = I.same;
          left = λ m E R S H. left_skip (I.left m E R S H) h (λ d. w.if-op_of-eq-TARGET.false (c.op_of.ensures ∙ d));
        },
        c.loop-i.invariant.1,
      )
    ]

pub terminator-returns : goal.terminator-returns
terminator-returns t c = λ m E R N H.
    left_end (c.loop-i.invariant.0.left m E R N H) (omega (arith, c.loop-i-test.false, c.stop_of-i-end.ensures))
