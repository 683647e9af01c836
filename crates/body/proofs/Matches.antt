-- The block of a match: the read and the enum that it is of, and where its targets stand.
use mathlib.Core.Path.{◌≡◌, refl}
use mathlib.Core.Logic.{◌≢◌}
use mathlib.Core.List.{List}
use mathlib.Core.Option as Math
use mathlib.Core.Option.{none, some}
use Prim.Native.Nat.{ℕ, suc, ◌-◌, ◌≤◌, ◌<◌}
use native.Mathlib.Decide.{dec_lt}
use native.Mathlib.Omega.{arith}
use borrow.Author.Tests.{ne_eqb}
use Rattle.model.specs.Answer.{Answer, refused, done, ◌>>=◌}
use Rattle.model.specs.Types.{kind}
use Rattle.model.specs.Tree.{Forest}
use Rattle.model.specs.Place.{Spot, no_index}
use Rattle.model.specs.Walk.{walk_at, enum_at, subject_at}
use Rattle.model.specs.Function.{nblocks, nitems, start, stop, op, local_types}
use Rattle.model.specs.Block.{is_arm, matched, targets}
use Rattle.model.specs.Body.{exits_of}
use Rattle.base.specs.Tests.{split, clash}
use Rattle.base.specs.Answer.{then_done, good_at}
use Rattle.base.specs.Kinds.{kind_known}
use Rattle.laws.specs.Refusals.{enum_kind}
use Rattle.graph.proofs.Enders.{target_last}
use Rattle.state.specs.declared.nodes.State.{State}
use Rattle.state.proofs.Fields.{ready_typed}
use Rattle.env.specs.Answers.{on_of}
use Rattle.env.specs.declared.project.On.TheVariants.{Enum, Element}
use Rattle.blocks.proofs.Spots.{formed_accepted, block_stop}
use Rattle.blocks.proofs.Points.{Matched, matched_holds}
use Rattle.body.specs.declared.arms.Subject.{Subject}
use Rattle.blocks.specs.Accepted.{Accepted}
use Rattle.state.specs.Given.{Stated, InEach}
use Rattle.body.specs.Arms.{Sought}
use Rattle.body.specs.Tries.{Matching, Blank}
use Rattle.body.proofs.Variants.{count_few}
use Rattle.body.proofs.Plans.{Leads, leads_same, trying, trying_first}

-- WHAT IT IS ON, by the code's answer

-- an array's element
pub on_element : (a : Answer (Math.Option ℕ)) → done Element ≡ a >>= (λ o. done (on_of o)) → a ≡ done none
on_element (refused m) e = clash (cc)
on_element (done none) e = refl
on_element (done (some t)) e = clash (cc)

-- an enum
pub on_enum : (a : Answer (Math.Option ℕ)) {t : ℕ} → done (Enum t) ≡ a >>= (λ o. done (on_of o)) → a ≡ done (some t)
on_enum (refused m) e = clash (cc)
on_enum (done none) e = clash (cc)
on_enum (done (some t)) e = cc

-- THE MATCH

-- the enum that it is on is one
subject_kind : (Γ : List ℕ) (q : Spot) (E : Forest) {t : ℕ} → subject_at Γ q E ≡ done (some t) → kind Γ t ≡ 7
unfolding subject_at
subject_kind Γ q E {t} e = split (no_index q.place)
    (λ i.
    let g : (enum_at Γ q E >>= λ u. done (some u)) ≡ done (some t) = cc in
    let (u, k, d) = then_done (enum_at Γ q E) g in
    let z : u ≡ t = cc in
    rw z at (good_at (enum_kind Γ q E) k))
    (λ i.
    let g : (walk_at Γ q E >>= λ D. done none) ≡ done (some t) = cc in
    let (D, k, d) = then_done (walk_at Γ q E) g in
    clash (cc))

module _ {Γ os fn : List ℕ} (A : Accepted Γ os fn) {b : ℕ} {m : Subject} {s : State} (l : b < nblocks fn) (M : Matching Γ fn b m s) where
  -- the read
  read_in : Matched fn b m.read
  read_in = matched_holds A.formed l M.is

  -- and its enum
  pub match_sought : Stated Γ (local_types fn) s → Sought Γ fn m
  match_sought S =
      let k = subject_kind Γ _ S.state (M.enum S.state S.holds) in
      record { item = omega (arith, read_in.high, block_stop A.formed l); used = read_in.uses; known = kind_known Γ m.typ (λ z. omega arith); enum = k }

  module _ {i : ℕ} (low : start fn b ≤ i) (high : i < stop fn b) where
    -- an item of the block
    pub match_item : i < nitems fn
    match_item = omega (arith, block_stop A.formed l)

    module _ (e : op fn i ≡ 10) where
      -- a target that is no arm's is the last
      pub match_last : op fn (i - 1) ≢ 9 → suc i ≡ stop fn b
      unfolding is_arm
      match_last a = target_last (formed_accepted A.formed) (record { block = l; low = low; high = high }) e (ne_eqb (op fn (i - 1)) 9 a)

      -- something stands before a target
      pub match_behind : 0 < i
      match_behind = elim (dec_lt 0 i) [
        | yes h ↦ h
        | no h ↦
            let z : i - 1 ≡ i = omega arith in
            let w = match_last (rw (z, e) (λ d. omega arith)) in
            let y : m.read ≡ i = omega (arith, read_in.high) in
            absurd (omega (arith, rw y at read_in.code))
      ]

  -- the targets are left to try
  pub match_first : {from e : ℕ} {taken : List ℕ} → from ≡ start fn b → e ≡ stop fn b → Stated Γ (local_types fn) s → Blank taken
      → InEach Γ fn s (λ E. Leads Γ fn m E (exits_of Γ fn (matched fn b) (targets fn b) E) (trying Γ fn m E e from taken))
  match_first {taken} y z S B E h = rw (y, z) (leads_same (trying_first Γ fn m E b taken l M.is (M.enum E h)
      (λ v k. B.zero v (omega (arith, count_few (ready_typed A.ready) (match_sought S).known)))))
