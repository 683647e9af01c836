-- The order in which a statement's places are used: the source's `statement` and `operand`, clause by clause, with their lines in
-- fold_unfold.rs; and that all of them are the one rule of `gives`.
use Rattle.std.specs.Prelude.{◌≡◌, refl, true, false, cond, not, ◌&&◌, ◌||◌, List, [], ◌∷◌, ◌++◌, ℕ, zero, suc, ◌≤◌, length, eqb, leb}
use Rattle.std.proofs.Common.{sym, ap, append-nil, arith, eqb-true, leb-true}
use Rattle.std.proofs.lemmas.Bool.{not-true}
use Rattle.model.specs.Record.{Entry}
use Rattle.model.specs.Assign.{Operand, Assign, is_constant, flag_ok, count_ok, constants_ok, known, acted, dereffed, operand_gives, operands_give, gives}
use Rattle.base.specs.Tests.{split, clash, and_left, and_right}

-- 351: a place is used, of a constant nothing is
abbrev pub operand : Operand → List Entry
operand = acted 5

-- the first operand; the second; all, in a row
abbrev pub first : (Operand → List Entry) → List Operand → List Entry
first g [] = []
first g (p ∷ ps) = g p

abbrev pub second : List Operand → List Entry
second [] = []
second (p ∷ ps) = first operand ps

abbrev pub each : List Operand → List Entry
each [] = []
each (p ∷ ps) = operand p ++ each ps

-- what an `Rvalue` of this kind and flag does with its operands
unfoldable pub clause : ℕ → ℕ → List Operand → List Entry
clause k f ps =
    -- 302: `PtrMetadata`. A constant comes to the next clause, which gives nothing for it either
    cond (eqb k 6 && eqb f 1) (first (λ p. operand (dereffed p)) ps)
    -- 307: Use, Cast, UnaryOp
    (cond (eqb k 0 || eqb k 4 || eqb k 6) (first operand ps)
    -- 310: Ref, unless the borrow is fake
    (cond (eqb k 2) (cond (eqb f 1) [] (first operand ps))
    -- 316: RawPtr
    (cond (eqb k 3) (first operand ps)
    -- 319: BinaryOp
    (cond (eqb k 5) (first operand ps ++ second ps)
    -- 323: Aggregate
    (cond (eqb k 8) (each ps)
    -- 329: Discriminant, of which the place read is remembered
    (cond (eqb k 7) (first (acted 6) ps)
    -- 333: Repeat
    (first operand ps)))))))

-- 300: the operands, then (337) the destination, to which a discriminant is noted
unfoldable pub statement : Assign → List Entry
statement a = clause a.kind a.flag a.operands ++ acted (cond (eqb a.kind 7) 7 5) a.destination

-- ONE RULE

-- operands of which there is one; two
one_only : (ps : List Operand) → eqb (length ps) 1 ≡ true → (p : Operand) × (ps ≡ p ∷ [])
one_only [] h = clash (cc)
one_only (p ∷ []) h = (p, refl)
one_only (p ∷ q ∷ ps) h = absurd (omega (arith, eqb-true (length (p ∷ q ∷ ps)) 1 h))

two_only : (ps : List Operand) → eqb (length ps) 2 ≡ true → (p : Operand) × ((q : Operand) × (ps ≡ p ∷ q ∷ []))
two_only [] h = clash (cc)
two_only (p ∷ []) h = clash (cc)
two_only (p ∷ q ∷ []) h = (p, (q, refl))
two_only (p ∷ q ∷ r ∷ ps) h = absurd (omega (arith, eqb-true (length (p ∷ q ∷ r ∷ ps)) 2 h))

-- a kind by its nine cases
kind_cases : (P : ℕ → Type 0) → P 0 → P 1 → P 2 → P 3 → P 4 → P 5 → P 6 → P 7 → P 8 → (k : ℕ) → leb k 8 ≡ true → P k
kind_cases P a b c d e f g h i zero l = a
kind_cases P a b c d e f g h i (suc zero) l = b
kind_cases P a b c d e f g h i (suc (suc zero)) l = c
kind_cases P a b c d e f g h i (suc (suc (suc zero))) l = d
kind_cases P a b c d e f g h i (suc (suc (suc (suc zero)))) l = e
kind_cases P a b c d e f g h i (suc (suc (suc (suc (suc zero))))) l = f
kind_cases P a b c d e f g h i (suc (suc (suc (suc (suc (suc zero)))))) l = g
kind_cases P a b c d e f g h i (suc (suc (suc (suc (suc (suc (suc zero))))))) l = h
kind_cases P a b c d e f g h i (suc (suc (suc (suc (suc (suc (suc (suc zero)))))))) l = i
kind_cases P a b c d e f g h i (suc (suc (suc (suc (suc (suc (suc (suc (suc n))))))))) l =
    let few : suc (suc (suc (suc (suc (suc (suc (suc (suc n)))))))) ≤ 8 = leb-true _ 8 l in
    absurd (omega arith)

-- the clause of a kind is the rule of all
abbrev Ruled : ℕ → Type 0
Ruled k = (f : ℕ) (ps : List Operand) → count_ok k (length ps) ≡ true → clause k f ps ≡ operands_give k f ps

each_ruled : (f : ℕ) (ps : List Operand) → each ps ≡ operands_give 8 f ps
unfolding operands_give operand_gives
each_ruled f [] = refl
each_ruled f (p ∷ ps) = ap (λ (x : List Entry). acted 5 p ++ x) (each_ruled f ps)

ruled : (k : ℕ) → leb k 8 ≡ true → Ruled k
unfolding clause operands_give operand_gives count_ok
ruled = kind_cases Ruled
    (λ f ps c. let (p, z) = one_only ps c in rw z (sym (append-nil (acted 5 p))))
    (λ f ps c. let (p, z) = one_only ps c in rw z (sym (append-nil (acted 5 p))))
    (λ f ps c. let (p, z) = one_only ps c in rw z (split (eqb f 1) (λ e. rw e refl) (λ e. rw e (sym (append-nil (acted 5 p))))))
    (λ f ps c. let (p, z) = one_only ps c in rw z (sym (append-nil (acted 5 p))))
    (λ f ps c. let (p, z) = one_only ps c in rw z (sym (append-nil (acted 5 p))))
    (λ f ps c. let (p, (q, z)) = two_only ps c in rw z (ap (λ (x : List Entry). acted 5 p ++ x) (sym (append-nil (acted 5 q)))))
    (λ f ps c. let (p, z) = one_only ps c in rw z (split (eqb f 1) (λ e. rw e (sym (append-nil (acted 5 (dereffed p))))) (λ e. rw e (sym (append-nil (acted 5 p))))))
    (λ f ps c. let (p, z) = one_only ps c in rw z (sym (append-nil (acted 6 p))))
    (λ f ps c. each_ruled f ps)

-- what is known of a statement
pub record Knows (a : Assign) : Type 0 where
  pub nine : leb a.kind 8 ≡ true
  pub counted : count_ok a.kind (length a.operands) ≡ true
  pub constants : constants_ok a.kind a.operands ≡ true
  pub destined : is_constant a.destination ≡ false

pub knows : (a : Assign) → known a ≡ true → Knows a
unfolding known
knows a h =
    let k = leb a.kind 8 in
    let f = flag_ok a.kind a.flag in
    let c = count_ok a.kind (length a.operands) in
    let p = constants_ok a.kind a.operands in
    let d = is_constant a.destination in
    let four = and_left (k && f && c && p) (not d) h in
    let three = and_left (k && f && c) p four in
    record {
      nine = and_left k f (and_left (k && f) c three);
      counted = and_right (k && f) c three;
      constants = and_right (k && f && c) p four;
      destined = not-true d (and_right (k && f && c && p) (not d) h);
    }

-- so is every statement of the source: its operands as they stand, then the destination
pub clauses_one : (a : Assign) → known a ≡ true → statement a ≡ gives a
unfolding statement gives
clauses_one a h =
    let K = knows a h in
    ap (λ (x : List Entry). x ++ acted (cond (eqb a.kind 7) 7 5) a.destination) (ruled a.kind K.nine a.flag a.operands K.counted)
