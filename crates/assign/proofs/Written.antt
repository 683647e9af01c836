-- All items put into zeros are model's record; items that are only counted leave the buffer as it is; and for each item of the list
-- there are at most three.
use mathlib.Core.Path.{◌≡◌, refl, ap, ◌∙◌}
use mathlib.Core.Bool.{cond, ◌&&◌}
use mathlib.Core.List.{List, [], ◌∷◌, ◌++◌, map}
use Prim.Native.Nat.{ℕ, zero, suc, ◌+◌, ◌*◌, ◌-◌, ◌≤◌}
use native.Mathlib.Omega.{arith}
use lib.ListN.{length, set, drop, replicate, length-append, length-map, length-replicate}
use lib.Seq.{sets, sets-eq, set_comm, take_at, drop-append-add}
use lib.Dec.{eqb}
use Rattle.std.specs.Prelude.{Some, None}
use Rattle.model.specs.Record.{Entry, lent}
use Rattle.model.specs.Assign.{Operand, Assign, places, items_in, acted, dereffed, operand_gives, operands_give, gives, given, item_record}
use Rattle.base.specs.Tests.{split}
use Rattle.base.specs.Equal.{drop_replicate}
use Rattle.assign.specs.Puts.{putting, puttings}
use Rattle.assign.proofs.Elements.{items_append}

-- COUNTED

pub puttings_dry : (at : ℕ) (es : List Entry) (out : List ℕ) → puttings None at es out ≡ out
unfolding puttings putting
puttings_dry at [] out = refl
puttings_dry at (e ∷ es) out = puttings_dry (at + 1) es out

-- AT MOST THREE FOR EACH ITEM OF THE LIST

acted_few : (o : ℕ) (p : Operand) → length (acted o p) ≤ 3 * length p
unfolding acted
acted_few o [] = omega arith
acted_few o (e ∷ es) = omega (arith, length-append (e ∷ es) ((o, 0) ∷ []))

dereffed_few : (o : ℕ) (p : Operand) → length (acted o (dereffed p)) ≤ 3 * length p
unfolding acted dereffed
dereffed_few o [] = omega arith
dereffed_few o (e ∷ es) = omega (arith, length-append ((e ∷ es) ++ ((1, 0) ∷ [])) ((o, 0) ∷ []), length-append (e ∷ es) ((1, 0) ∷ []))

operand_few : (k f : ℕ) (p : Operand) → length (operand_gives k f p) ≤ 3 * length p
unfolding operand_gives
operand_few k f p = split (eqb k 2 && eqb f 1)
    (λ e. rw e (omega arith))
    (λ e. split (eqb k 6 && eqb f 1) (λ d. rw (e, d) (dereffed_few (cond (eqb k 7) 6 5) p)) (λ d. rw (e, d) (acted_few (cond (eqb k 7) 6 5) p)))

operands_few : (k f : ℕ) (ps : List Operand) → length (operands_give k f ps) ≤ 3 * items_in ps
unfolding operands_give items_in
operands_few k f [] = omega arith
operands_few k f (p ∷ ps) = omega (arith, operand_few k f p, operands_few k f ps, length-append (operand_gives k f p) (operands_give k f ps))

gives_few : (a : Assign) → length (gives a) ≤ 3 * items_in (a.operands ++ (a.destination ∷ []))
unfolding gives items_in
gives_few a =
    let k = a.kind in
    let d = a.destination in
    omega (
      arith,
      operands_few k a.flag a.operands,
      acted_few (cond (eqb k 7) 7 5) d,
      items_append a.operands (d ∷ []),
      length-append (operands_give k a.flag a.operands) (acted (cond (eqb k 7) 7 5) d),
    )

pub given_few : (ss : List Assign) → length (given ss) ≤ 3 * items_in (places ss)
unfolding given places items_in
given_few [] = omega arith
given_few (a ∷ ss) = omega (
  arith,
  gives_few a,
  given_few ss,
  items_append (a.operands ++ (a.destination ∷ [])) (places ss),
  length-append (gives a) (given ss),
)

-- WRITTEN

-- a word set outside of a row of others
sets_set : (vs l : List ℕ) (i j a : ℕ) → i + length vs ≤ j → sets (set l j a) i vs ≡ set (sets l i vs) j a
sets_set [] l i j a h = refl
sets_set (v ∷ vs) l i j a h = rw (set_comm l j i a v (λ e. absurd (omega arith))) (sets_set vs (set l i v) (suc i) j a (omega arith))

-- two rows
puttings_rows : (total at : ℕ) (es : List Entry) (out : List ℕ) → at + length es ≤ total
    → puttings (Some total) at es out ≡ sets (sets out (1 + at) (map (λ e. e.0) es)) (1 + total + at) (map (λ e. e.1) es)
unfolding puttings putting
puttings_rows total at [] out h = refl
puttings_rows total at (e ∷ es) out h =
    let i : 1 + (at + 1) ≡ suc (1 + at) = omega arith in
    let j : 1 + total + (at + 1) ≡ suc (1 + total + at) = omega arith in
    let ops = map (λ (x : Entry). x.0) es in
    let args = map (λ (x : Entry). x.1) es in
    let m : length ops ≡ length es = length-map es (λ (x : Entry). x.0) in
    puttings_rows total (at + 1) es (set (set out (1 + at) e.0) (1 + total + at) e.1) (omega arith)
    ∙ rw (i, j) (ap (λ (x : List ℕ). sets x (suc (1 + total + at)) args) (sets_set ops (set out (1 + at) e.0) (suc (1 + at)) (1 + total + at) e.1 (omega arith)))

-- a row put into zeros behind others
row : (front vs : List ℕ) (m i : ℕ) → length front ≡ i → length vs ≤ m → sets (front ++ replicate m 0) i vs ≡ (front ++ vs) ++ replicate (m - length vs) 0
row front vs m i e h =
    let l : length (front ++ replicate m 0) ≡ i + m = length-append front (replicate m 0) ∙ rw (e, length-replicate {A = ℕ} m 0) refl in
    let d : drop (i + length vs) (front ++ replicate m 0) ≡ replicate (m - length vs) 0 = rw (← e) (drop-append-add front (replicate m 0) (length vs) ∙ drop_replicate (length vs) m 0) in
    sets-eq vs (front ++ replicate m 0) i (omega arith) ∙ rw (take_at front (replicate m 0) i e, d) refl

-- all of them, in zeros
pub written_whole : (n : ℕ) (es : List Entry) → 1 + 2 * length es ≤ n → puttings (Some (length es)) 0 es (set (replicate n 0) 0 (length es)) ≡ lent n (item_record es)
unfolding lent item_record
written_whole zero es h = absurd (omega arith)
written_whole (suc m) es h =
    let c = length es in
    let ops = map (λ (x : Entry). x.0) es in
    let args = map (λ (x : Entry). x.1) es in
    let o : length ops ≡ c = length-map es (λ (x : Entry). x.0) in
    let k : length args ≡ c = length-map es (λ (x : Entry). x.1) in
    let a : sets ((c ∷ []) ++ replicate m 0) 1 ops ≡ ((c ∷ []) ++ ops) ++ replicate (m - length ops) 0 = row (c ∷ []) ops m 1 refl (omega arith) in
    let b : sets (((c ∷ []) ++ ops) ++ replicate (m - length ops) 0) (1 + c) args ≡ (((c ∷ []) ++ ops) ++ args) ++ replicate (m - length ops - length args) 0 =
    row ((c ∷ []) ++ ops) args (m - length ops) (1 + c) (omega arith) (omega arith) in
    let z : 1 + c + 0 ≡ 1 + c = omega arith in
    let y : m - length ops - length args ≡ suc m - length (c ∷ (ops ++ args)) = omega (arith, length-append ops args) in
    puttings_rows c 0 es (c ∷ replicate m 0) (omega arith) ∙ rw (z, a, b, y) refl
