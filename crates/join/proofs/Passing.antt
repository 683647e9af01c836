-- The join of two states, local by local: what is told of the locals that are left tells the whole. Assumes nothing.
use Rattle.std.proofs.Common.{Some, None}
use mathlib.Core.Path.{◌≡◌, refl, sym, ◌∙◌, ap, subst}
use mathlib.Core.Bool.{Bool, false, ◌||◌, or_assoc, or-false}
use mathlib.Core.List.{List, ◌∷◌}
use Prim.Native.Nat.{ℕ, ◌+◌, ◌≤◌, ◌<◌}
use native.Mathlib.Numerals.{add-one}
use lib.ListN.{length, get_or, drop, drop_of_length-le}
use lib.Seq.{drop-cons}
use Rattle.records.specs.Here.{Here, Heres}
use Rattle.records.specs.Coded.{coded_split}
use Rattle.join.specs.declared.ends.Ends.{Ends}
use Rattle.join.specs.Ends.{Arrays, Room, marks, ended, Met, MetAll}
use Rattle.join.proofs.Joins.{joins_none, joins_full, joins_next, joins_over, joins_more}

module _ (Γ locals : List ℕ) (X Y out₀ out : Arrays) (l : ℕ) (e : Ends) where
  -- l locals are joined: e tells where the others stand, and its flag is of those before
  pub record Passed : Type 0 where
    pub room : Room out.forms out.whats e.to.out
    pub first : Heres Γ X.forms X.whats e.to.first (drop l locals)
    pub second : Heres Γ Y.forms Y.whats e.to.second (drop l locals)
    -- the others have room
    pub whole : (out' : Arrays) (s : Ends) → MetAll Γ out out' X Y e.to (drop l locals) false (Some s)
        → MetAll Γ out₀ out' X Y (marks 0 0 0) locals false (Some (ended s.to (e.changed || s.changed)))
    -- they have none
    pub over : (out' : Arrays) → MetAll Γ out out' X Y e.to (drop l locals) false None → MetAll Γ out₀ out' X Y (marks 0 0 0) locals false None

module _ {Γ locals : List ℕ} {X Y out₀ : Arrays} where
  -- none is joined
  pub passed_none : Room out₀.forms out₀.whats 0 → Heres Γ X.forms X.whats 0 locals → Heres Γ Y.forms Y.whats 0 locals
      → Passed Γ locals X Y out₀ out₀ 0 (ended (marks 0 0 0) false)
  passed_none R h g = record { room = R; first = h; second = g; whole = λ out' s a. a; over = λ out' a. a }

  module _ {out : Arrays} {l : ℕ} {e : Ends} (P : Passed Γ locals X Y out₀ out l e) where
    -- all are joined
    pub passed_all : length locals ≤ l → MetAll Γ out₀ out X Y (marks 0 0 0) locals false (Some e)
    passed_all p =
        let same : ended e.to (e.changed || false) ≡ e = λ i. record { to = e.to; changed = or-false e.changed i } in
        subst (λ (q : Ends). MetAll Γ out₀ out X Y (marks 0 0 0) locals false (Some q)) same
        (P.whole out (ended e.to false) (joins_none (drop_of_length-le locals {i = l} p) P.room.low))

    -- one is left
    module _ (h : l < length locals) where
      one_local : drop l locals ≡ get_or locals l 0 ∷ drop (l + 1) locals
      one_local = drop-cons locals l 0 h ∙ ap (λ (k : ℕ). get_or locals l 0 ∷ drop k locals) (sym (add-one l))

      -- its trees stand there
      pub local_first : Here Γ X.forms X.whats e.to.first (get_or locals l 0)
      local_first =
          let S = coded_split (rw one_local at P.first.coded) in
          record { tree = S.head; coded = S.here }

      -- and there
      pub local_second : Here Γ Y.forms Y.whats e.to.second (get_or locals l 0)
      local_second =
          let S = coded_split (rw one_local at P.second.coded) in
          record { tree = S.head; coded = S.here }

      -- no room for them
      pub passed_full : {out' : Arrays} → Met Γ out out' X Y e.to (get_or locals l 0) false None → MetAll Γ out₀ out' X Y (marks 0 0 0) locals false None
      passed_full {out'} a = P.over out' (joins_full one_local a)

      -- they are joined: one more is
      pub passed_more : {out' : Arrays} {r : Ends} → Met Γ out out' X Y e.to (get_or locals l 0) false (Some r)
          → length out'.forms ≡ 512 → length out'.whats ≡ 512 → {c : Bool} → c ≡ (e.changed || r.changed) → Passed Γ locals X Y out₀ out' (l + 1) (ended r.to c)
      passed_more {r = r} a lf lw d =
          let N = joins_next one_local a lf lw P.first P.second in
          rw d record {
            room = N.2;
            first = N.0;
            second = N.1;
            whole = λ out'' s b.
                rw (or_assoc e.changed r.changed s.changed) (P.whole out'' (ended s.to (r.changed || s.changed)) (joins_more one_local a b refl));
            over = λ out'' b. P.over out'' (joins_over one_local a b);
          }
