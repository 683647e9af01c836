-- The join of two states, as it is written and told: with zeros behind it, or without room. Assumes nothing.
use Rattle.std.proofs.Common.{Some, None}
use mathlib.Core.Path.{◌≡◌, sym, ◌∙◌, ap₂}
use mathlib.Core.Bool.{Bool, false}
use mathlib.Core.List.{List}
use Prim.Native.Nat.{ℕ}
use native.Mathlib.Omega.{arith}
use borrow.Author.Tests.{le-leb, lt-leb}
use Rattle.model.specs.Tree.{Forest, sizes, joins}
use Rattle.model.specs.State.{encode, codess}
use Rattle.records.specs.Here.{firsts, seconds, CodedAll}
use Rattle.records.specs.Codes.{forest_forms, forest_whats}
use Rattle.state.proofs.Fronted.{padded_fronted}
use Rattle.state.specs.Spliced.{fronted}
use Rattle.join.specs.declared.ends.Ends.{Ends}
use Rattle.join.specs.Ends.{Arrays, marks, MetAll}
use Rattle.join.specs.Answers.{joined_to, joined, JoinedIn}

module _ {Γ locals : List ℕ} {out out' X Y : Arrays} {S E : Forest} (h : CodedAll Γ X.forms X.whats 0 locals S) (g : CodedAll Γ Y.forms Y.whats 0 locals E) where
  -- no room
  pub joined_full : MetAll Γ out out' X Y (marks 0 0 0) locals false None → JoinedIn Γ S E None out'.forms out'.whats
  unfolding joined
  joined_full a =
      let l = a.trees S E h g in
      record { answer = rw (lt-leb (sizes (joins Γ false S E)) 512 (omega arith)); forms = λ m. absurd (omega arith); whats = λ m. absurd (omega arith) }

  -- room
  pub joined_some : {e : Ends} → MetAll Γ out out' X Y (marks 0 0 0) locals false (Some e)
      → JoinedIn Γ S E (Some (joined_to e.to.out e.changed)) (fronted out'.forms e.to.out) (fronted out'.whats e.to.out)
  unfolding joined encode
  joined_some {e} a =
      let A = a.trees S E h g in
      let D = A.1 in
      let J : Forest = joins Γ false S E in
      let end : e.to.out ≡ sizes J = omega (arith, D.written.end) in
      record {
        answer = rw (le-leb (sizes J) 512 (omega (arith, A.0))) (ap₂ (λ (n : ℕ) (c : Bool). Some (joined_to n c)) end D.changed);
        forms = λ m. padded_fronted out'.forms (firsts (codess Γ J)) e.to.out D.written.formed (forest_forms Γ J ∙ sym end);
        whats = λ m. padded_fronted out'.whats (seconds (codess Γ J)) e.to.out D.written.said (forest_whats Γ J ∙ sym end);
      }
