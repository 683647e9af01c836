-- What a list of statements gives can stand in a block: its items lead, by the order of items, from where a [place use] may begin back to
-- where one may begin.
use Rattle.std.specs.Prelude.{◌≡◌, false, ◌&&◌, ◌||◌, ℕ, zero, suc, ◌+◌, ◌*◌, ◌≤◌, ◌<◌, length, leb}
use Rattle.std.proofs.Math.Path.{refl}
use Rattle.std.proofs.Common.{sym, ◌∙◌, subst, arith}
use Rattle.std.proofs.Math.Bool.{true}
use mathlib.Core.List.{List, [], ◌∷◌, ◌++◌}
use Rattle.std.proofs.Math.Dec.{eqb}
use borrow.Author.Tests.{eqb-true, leb-true, lt-ltb}
use Rattle.model.specs.Answer.{done, require}
use Rattle.model.specs.Record.{Entry}
use Rattle.model.specs.Function.{follow_table, may_follow, after, arg_named}
use Rattle.model.specs.Assign.{Operand, Assign, read_list, places, items_in, operand_ok, operands_ok, is_constant, count_ok, wants_place, constants_ok, known, all_known, acted, dereffed, operand_gives, operands_give, gives, given, statements_of, statement_items}
use Rattle.base.specs.Tests.{split, clash, and_left, and_right, and_both}
use Rattle.base.specs.Answer.{then_done}
use Rattle.base.specs.Each.{Each, each_none, each_more}
use Rattle.records.specs.Spots.{item_ok}
use Rattle.assign.specs.Operands.{elements_ok, operand_places, operands_append}
use Rattle.assign.specs.Clauses.{operand, each, knows}

-- items in a row, each where the one before it lets it stand: from what stands before them to what stands before the item behind them,
-- as `follow_table` numbers it. Targets lie below n
pub data Leads (n : ℕ) : ℕ → List Entry → ℕ → Type 0 where
  leads_none : {b : ℕ} → Leads n b [] b
  leads_more : {b c : ℕ} {e : Entry} {es : List Entry} → may_follow b e.0 ≡ true → arg_named n e.0 e.1 ≡ true → Leads n (after b e.0) es c
      → Leads n b (e ∷ es) c

-- back from a row: nothing; an item, then the others
pub leads_end : {n b c : ℕ} → Leads n b [] c → b ≡ c
leads_end leads_none = refl

pub leads_first : {n b c : ℕ} {e : Entry} {es : List Entry} → Leads n b (e ∷ es) c
    → (may_follow b e.0 ≡ true) × (arg_named n e.0 e.1 ≡ true) × Leads n (after b e.0) es c
leads_first (leads_more m a p) = (m, a, p)

-- one row behind another
pub leads_append : {n b c d : ℕ} {es fs : List Entry} → Leads n b es c → Leads n c fs d → Leads n b (es ++ fs) d
leads_append leads_none q = q
leads_append (leads_more m a p) q = leads_more m a (leads_append p q)

-- A PLACE

-- an element by its four cases
element_cases : (P : ℕ → ℕ → Type 0) → P 1 0 → ((a : ℕ) → P 2 a) → ((a : ℕ) → P 3 a) → P 4 0 → (o a : ℕ) → item_ok o a ≡ true → P o a
element_cases P p q r s zero a h = clash (cc)
element_cases P p q r s (suc zero) a h = split (eqb a 0) (λ e. subst (P 1) (sym (eqb-true a 0 e)) p) (λ e. clash (cc))
element_cases P p q r s (suc (suc zero)) a h = q a
element_cases P p q r s (suc (suc (suc zero))) a h = r a
element_cases P p q r s (suc (suc (suc (suc zero)))) a h = split (eqb a 0) (λ e. subst (P 4) (sym (eqb-true a 0 e)) s) (λ e. clash (cc))
element_cases P p q r s (suc (suc (suc (suc (suc o))))) a h =
    let k : ℕ = suc (suc (suc (suc (suc o)))) in
    let few : k ≤ 4 = leb-true k 4 (and_right (leb 1 k) (leb k 4) (and_left (leb 1 k && leb k 4) (eqb a 0 || eqb k 2 || eqb k 3) h)) in
    absurd (omega arith)

-- the test of a place, without its last item's
elements_more : (es : Operand) → elements_ok es ≡ true → elements_ok (es ++ ((1, 0) ∷ [])) ≡ true
unfolding elements_ok
elements_more [] h = refl
elements_more (e ∷ es) h =
    and_both (and_left (item_ok e.0 e.1) (elements_ok es) h) (elements_more es (and_right (item_ok e.0 e.1) (elements_ok es) h))

dereffed_ok : (p : Operand) → operand_ok p ≡ true → operand_ok (dereffed p) ≡ true
unfolding dereffed
dereffed_ok [] h = h
dereffed_ok (e ∷ es) h =
    let g : eqb e.0 0 && elements_ok es ≡ true = sym (operand_places e es) ∙ h in
    operand_places e (es ++ ((1, 0) ∷ [])) ∙ and_both (and_left (eqb e.0 0) (elements_ok es) g) (elements_more es (and_right (eqb e.0 0) (elements_ok es) g))

-- what follows holds of a function of any number of blocks
module _ (n : ℕ) where
  -- the arg of a root, a field, a downcast, an arm is any number
  named_0 : (a : ℕ) → arg_named n 0 a ≡ true
  named_0 a = split (eqb a 0) (λ e. rw e refl) (λ e. rw e refl)

  named_2 : (a : ℕ) → arg_named n 2 a ≡ true
  named_2 a = split (eqb a 0) (λ e. rw e refl) (λ e. rw e refl)

  named_3 : (a : ℕ) → arg_named n 3 a ≡ true
  named_3 a = split (eqb a 0) (λ e. rw e refl) (λ e. rw e refl)

  named_9 : (a : ℕ) → arg_named n 9 a ≡ true
  named_9 a = split (eqb a 0) (λ e. rw e refl) (λ e. rw e refl)

  -- an element may stand behind x, which then stands before the next item too
  abbrev Stays : ℕ → ℕ → ℕ → Type 0
  Stays x o a = (may_follow x o ≡ true) × (arg_named n o a ≡ true) × (after x o ≡ x)

  -- behind a place's root, in the entry part; in a block; behind that of a note's place
  entry_stays : (o a : ℕ) → item_ok o a ≡ true → Stays 1 o a
  unfolding may_follow after follow_table
  entry_stays = element_cases (Stays 1) (refl, refl, refl) (λ a. (refl, named_2 a, refl)) (λ a. (refl, named_3 a, refl)) (refl, refl, refl)

  place_stays : (o a : ℕ) → item_ok o a ≡ true → Stays 3 o a
  unfolding may_follow after follow_table
  place_stays = element_cases (Stays 3) (refl, refl, refl) (λ a. (refl, named_2 a, refl)) (λ a. (refl, named_3 a, refl)) (refl, refl, refl)

  note_stays : (o a : ℕ) → item_ok o a ≡ true → Stays 5 o a
  unfolding may_follow after follow_table
  note_stays = element_cases (Stays 5) (refl, refl, refl) (λ a. (refl, named_2 a, refl)) (λ a. (refl, named_3 a, refl)) (refl, refl, refl)

  elements_lead : (x : ℕ) → ((o a : ℕ) → item_ok o a ≡ true → Stays x o a) → (es : Operand) → elements_ok es ≡ true → Leads n x es x
  unfolding elements_ok
  elements_lead x s [] h = leads_none
  elements_lead x s (e ∷ es) h =
      let (m, a, k) = s e.0 e.1 (and_left (item_ok e.0 e.1) (elements_ok es) h) in
      leads_more m a (subst (λ (y : ℕ). Leads n y es x) (sym k) (elements_lead x s es (and_right (item_ok e.0 e.1) (elements_ok es) h)))

  -- a place from where its root may stand, which x then stands for
  place_leads : (b x : ℕ) → may_follow b 0 ≡ true → after b 0 ≡ x → ((o a : ℕ) → item_ok o a ≡ true → Stays x o a) → (e : Entry) (es : Operand) → operand_ok (e ∷ es) ≡ true
      → Leads n b (e ∷ es) x
  place_leads b x m k s e es h =
      let g : eqb e.0 0 && elements_ok es ≡ true = sym (operand_places e es) ∙ h in
      let z : e.0 ≡ 0 = eqb-true e.0 0 (and_left (eqb e.0 0) (elements_ok es) g) in
      let r = elements_lead x s es (and_right (eqb e.0 0) (elements_ok es) g) in
      let named : arg_named n e.0 e.1 ≡ true = rw z (named_0 e.1) in
      leads_more {b = b} {e = e} (rw z m) named (subst (λ (y : ℕ). Leads n y es x) (sym (rw z k)) r)

  -- [place use], or nothing of a constant
  use_leads : (p : Operand) → operand_ok p ≡ true → Leads n 2 (acted 5 p) 2
  unfolding acted may_follow after follow_table
  use_leads [] h = leads_none
  use_leads (e ∷ es) h = leads_append (place_leads 2 3 refl refl place_stays e es h) (leads_more refl refl leads_none)

  -- [place read place note]
  read_leads : (p : Operand) → operand_ok p ≡ true → is_constant p ≡ false → Leads n 2 (acted 6 p) 4
  unfolding acted may_follow after follow_table
  read_leads [] h c = clash (cc)
  read_leads (e ∷ es) h c = leads_append (place_leads 2 3 refl refl place_stays e es h) (leads_more refl refl leads_none)

  note_leads : (p : Operand) → operand_ok p ≡ true → is_constant p ≡ false → Leads n 4 (acted 7 p) 2
  unfolding acted may_follow after follow_table
  note_leads [] h c = clash (cc)
  note_leads (e ∷ es) h c = leads_append (place_leads 4 5 refl refl note_stays e es h) (leads_more refl refl leads_none)

  -- a place with use, before start[0]
  used : (p : Operand) → operand_ok p ≡ true → Leads n 0 (operand p) 0
  unfolding acted may_follow after follow_table
  used [] h = leads_none
  used (e ∷ es) h = leads_append (place_leads 0 1 refl refl entry_stays e es h) (leads_more refl refl leads_none)

  -- and any number of them
  pub entry_leads : (ps : List Operand) → operands_ok ps ≡ true → Leads n 0 (each ps) 0
  unfolding operands_ok
  entry_leads [] h = leads_none
  entry_leads (p ∷ ps) h = leads_append (used p (and_left (operand_ok p) (operands_ok ps) h)) (entry_leads ps (and_right (operand_ok p) (operands_ok ps) h))

  -- AN ENDER

  -- [arm target], any number
  abbrev pub armed : List (ℕ × ℕ) → List Entry
  armed [] = []
  armed (a ∷ arms) = (9, a.0) ∷ (10, a.1) ∷ armed arms

  -- "one ender: target; return; stop; or [place, or none for a constant] switch, any number of [arm target], target"
  pub data Ender : List Entry → Type 0 where
    ends_target : {t : ℕ} → t < n → Ender ((10, t) ∷ [])
    ends_return : Ender ((11, 0) ∷ [])
    ends_stop : Ender ((12, 0) ∷ [])
    ends_switch : (p : Operand) (arms : List (ℕ × ℕ)) {t : ℕ} → operand_ok p ≡ true → Each (λ a. a.1 < n) arms → t < n
        → Ender (p ++ ((8, 0) ∷ (armed arms ++ ((10, t) ∷ []))))

  target_leads : (b c t : ℕ) → may_follow b 10 ≡ true → after b 10 ≡ c → t < n → Leads n b ((10, t) ∷ []) c
  target_leads b c t m k l = leads_more m (lt-ltb t n l) (subst (λ (x : ℕ). Leads n x [] c) (sym k) leads_none)

  arms_lead : (arms : List (ℕ × ℕ)) {t : ℕ} → Each (λ a. a.1 < n) arms → t < n → Leads n 6 (armed arms ++ ((10, t) ∷ [])) 8
  unfolding may_follow after follow_table
  arms_lead [] {t} each_none l = target_leads 6 8 t refl refl l
  arms_lead (a ∷ arms) (each_more h H) l = leads_more {e = (9, a.0)} refl (named_9 a.0) (leads_more {e = (10, a.1)} refl (lt-ltb a.1 n h) (arms_lead arms H l))

  switch_leads : (p : Operand) (arms : List (ℕ × ℕ)) {t : ℕ} → operand_ok p ≡ true → Each (λ a. a.1 < n) arms → t < n
      → Leads n 2 (p ++ ((8, 0) ∷ (armed arms ++ ((10, t) ∷ [])))) 8
  unfolding may_follow after follow_table
  switch_leads [] arms h H l = leads_more refl refl (arms_lead arms H l)
  switch_leads (e ∷ es) arms h H l = leads_append (place_leads 2 3 refl refl place_stays e es h) (leads_more refl refl (arms_lead arms H l))

  -- it ends the block
  pub ender_leads : {es : List Entry} → Ender es → Leads n 2 es 8
  unfolding may_follow after follow_table
  ender_leads (ends_target {t} l) = target_leads 2 8 t refl refl l
  ender_leads ends_return = leads_more refl refl leads_none
  ender_leads ends_stop = leads_more refl refl leads_none
  ender_leads (ends_switch p arms h H l) = switch_leads p arms h H l

  -- A STATEMENT

  -- of a kind other than 7 each operand
  operand_leads : (k f : ℕ) (p : Operand) → eqb k 7 ≡ false → operand_ok p ≡ true → Leads n 2 (operand_gives k f p) 2
  unfolding operand_gives
  operand_leads k f p s h = split (eqb k 2 && eqb f 1)
      (λ d. rw d leads_none)
      (λ d. split (eqb k 6 && eqb f 1) (λ c. rw (d, c, s) (use_leads (dereffed p) (dereffed_ok p h))) (λ c. rw (d, c, s) (use_leads p h)))

  operands_lead : (k f : ℕ) (ps : List Operand) → eqb k 7 ≡ false → operands_ok ps ≡ true → Leads n 2 (operands_give k f ps) 2
  unfolding operands_give operands_ok
  operands_lead k f [] s h = leads_none
  operands_lead k f (p ∷ ps) s h =
      leads_append (operand_leads k f p s (and_left (operand_ok p) (operands_ok ps) h)) (operands_lead k f ps s (and_right (operand_ok p) (operands_ok ps) h))

  -- kind 7: its one operand
  reads_lead : (f : ℕ) (ps : List Operand) → count_ok 7 (length ps) ≡ true → constants_ok 7 ps ≡ true → operands_ok ps ≡ true → Leads n 2 (operands_give 7 f ps) 4
  unfolding operands_give operand_gives count_ok constants_ok wants_place operands_ok
  reads_lead f [] k c h = clash (cc)
  reads_lead f (p ∷ []) k c h = split (is_constant p)
      (λ d. clash (cc))
      (λ d. leads_append (read_leads p (and_left (operand_ok p) true h) d) leads_none)
  reads_lead f (p ∷ q ∷ ps) k c h = absurd (omega (arith, eqb-true (length (p ∷ q ∷ ps)) 1 k))

-- a statement's items lead back to where a use may begin
pub gives_leads : (n : ℕ) (a : Assign) → known a ≡ true → operands_ok (a.operands ++ (a.destination ∷ [])) ≡ true → Leads n 2 (gives a) 2
unfolding gives operands_ok
gives_leads n a k h =
    let K = knows a k in
    let d = a.destination in
    let o : operands_ok a.operands && operands_ok (d ∷ []) ≡ true = sym (operands_append a.operands (d ∷ [])) ∙ h in
    let ps = and_left (operands_ok a.operands) (operands_ok (d ∷ [])) o in
    let ds = and_left (operand_ok d) true (and_right (operands_ok a.operands) (operands_ok (d ∷ [])) o) in
    split (eqb a.kind 7)
    (λ s.
    let z : a.kind ≡ 7 = eqb-true a.kind 7 s in
    rw z (leads_append (reads_lead n a.flag a.operands (rw z at K.counted) (rw z at K.constants) ps) (note_leads n d ds K.destined)))
    (λ s. rw s (leads_append (operands_lead n a.kind a.flag a.operands s ps) (use_leads n d ds)))

-- A LIST

pub given_leads : (n : ℕ) (ss : List Assign) → all_known ss ≡ true → operands_ok (places ss) ≡ true → Leads n 2 (given ss) 2
unfolding given all_known places operands_ok
given_leads n [] k h = leads_none
given_leads n (a ∷ ss) k h =
    let ps = a.operands ++ (a.destination ∷ []) in
    let o : operands_ok ps && operands_ok (places ss) ≡ true = sym (operands_append ps (places ss)) ∙ h in
    leads_append
    (gives_leads n a (and_left (known a) (all_known ss) k) (and_left (operands_ok ps) (operands_ok (places ss)) o))
    (given_leads n ss (and_right (known a) (all_known ss) k) (and_right (operands_ok ps) (operands_ok (places ss)) o))

-- what is given, where it is
given_is : (ss : List Assign) (room : ℕ) {es : List Entry} → all_known ss ≡ true
    → (require (all_known ss) 11 λ _. require (leb (1 + 2 * length (given ss)) room) 10 λ _. done (given ss)) ≡ done es → given ss ≡ es
given_is ss room k e = split (leb (1 + 2 * length (given ss)) room) (λ l. cc) (λ l. clash (cc))

-- so does what the call gives, whatever it is given
pub items_lead : (n : ℕ) (ws : List ℕ) (room : ℕ) {es : List Entry} → statement_items ws room ≡ done es → Leads n 2 es 2
unfolding statement_items statements_of
items_lead n ws room {es} e =
    let (ss, s, f) = then_done (statements_of ws) e in
    let (ts, r, g) = then_done (read_list (length ws) ws) s in
    split (all_known ss)
    (λ k. split (leb (items_in (places ts)) 16384 && operands_ok (places ts))
    (λ h.
    let z : ts ≡ ss = cc in
    let o = and_right (leb (items_in (places ts)) 16384) (operands_ok (places ts)) h in
    let y : given ss ≡ es = given_is ss room k f in
    subst (λ (x : List Entry). Leads n 2 x 2) y (given_leads n ss k (rw z at o)))
    (λ h. clash (cc)))
    (λ k. clash (cc))
