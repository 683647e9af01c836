-- What a place used records, as the first items of the place, with its mark: all of them for a fold, its walked place without the last
-- element for an unfold.
use mathlib.Core.Path.{◌≡◌, refl, sym, ap, ap₂, ◌∙◌}
use mathlib.Core.Bool.{Bool, true, false, cond}
use mathlib.Core.List.{List, [], ◌∷◌, map, append-nil}
use mathlib.Core.Option.{some}
use Prim.Native.Nat.{ℕ, suc, ◌+◌, ◌≤◌, ◌<◌}
use native.Mathlib.Numerals.{add-one}
use native.Mathlib.Omega.{arith}
use lib.ListN.{length, take, length-map}
use lib.Seq.{take_all}
use Rattle.model.specs.Answer.{done, ◌>>=◌}
use Rattle.model.specs.State.{pairs}
use Rattle.model.specs.Tree.{Forest, unfolded}
use Rattle.model.specs.Place.{Spot, Fold, Unfold, At, base}
use Rattle.model.specs.Walk.{projection, changed, reached, passed, pick}
use Rattle.model.specs.Frame.{mark}
use Rattle.model.specs.Record.{Entry, elem_entry, verb_entry, point_entry}
use Rattle.model.specs.Told.{of_use}
use Rattle.model.specs.Calls.{recorded_verb, recorded_as, spot_of}
use Rattle.base.specs.Tests.{clash}
use Rattle.base.specs.Answer.{good_at, then_done}
use Rattle.laws.specs.Places.{base_first, base_short}
use Rattle.laws.specs.Recorded.{numbered, projection_recording}
use Rattle.records.specs.Spots.{spot_entries, place_entries, spot_items}
use Rattle.records.specs.Pairs.{pairs_halves, take_pairs, take_map}
use Rattle.statements.specs.Marked.{mark_of, marked_line, marked}
use Rattle.statements.proofs.Marks.{mark_small}
use Rattle.blocks.proofs.Elements.{spot_ops, spot_args}
use Rattle.env.specs.Answers.{recorded, use_of}
use Rattle.env.specs.declared.project.Projected.TheVariants.{Nothing, Fold as Folds, Unfold as Unfolds}
use Rattle.env.specs.declared.project.Use.{Use}

-- THE ITEMS

module _ (ops args : List ℕ) (q : Spot) (is : spot_of ops args ≡ some q) where
  -- the first n items
  items_first : (n : ℕ) → pairs (take n ops) (take n args) ≡ take n (spot_entries q)
  items_first n =
      let I = spot_items ops args q is in
      sym (take_pairs n ops args) ∙ ap (take n) (ap₂ pairs I.ops_are I.args_are ∙ pairs_halves (spot_entries q))

  -- all items
  items_all : pairs (take (length ops) ops) (take (length ops) args) ≡ spot_entries q
  items_all = items_first (length ops) ∙ take_all (length ops) (spot_entries q) (rw length-map (omega (arith, spot_ops ops args q is)))

  -- those of the walked place without its last element
  items_base : pairs (take (length (base q.place) + 1) ops) (take (length (base q.place) + 1) args) ≡ (0, q.local) ∷ place_entries (base q.place)
  items_base =
      items_first (length (base q.place) + 1)
      ∙ rw add-one (ap (λ (l : List Entry). (0, q.local) ∷ l) (take_map elem_entry (length (base q.place)) q.place ∙ ap place_entries (base_first q.place)))

  -- an unfold's items are among the place's
  pub unfold_short : {n : ℕ} → n ≡ length (base q.place) → (n + 1 ≤ length ops) × (n + 1 ≤ length args)
  unfold_short d =
      (omega (arith, spot_ops ops args q is, base_short q.place), omega (arith, spot_ops ops args q is, spot_args ops args q is, base_short q.place))

-- THE ANSWERS

-- what is recorded, by the walk's number and its two flags
abbrev recorded_by : Spot → ℕ → Bool → Bool → List At
recorded_by q m b u = map (numbered q.local)
    (cond b (record { verb = Unfold; place = base q.place; told = m } ∷ []) (cond u (record { verb = Fold; place = q.place; told = 0 } ∷ []) []))

-- nothing, by the answer
by_nothing : (q : Spot) (m : ℕ) (b u : Bool) → recorded (recorded_as (recorded_by q m b u)) ≡ Nothing → recorded_by q m b u ≡ []
unfolding recorded_as recorded_verb
by_nothing q m true u e = clash (cc)
by_nothing q m false true e = clash (cc)
by_nothing q m false false e = refl

-- a fold
by_fold : (q : Spot) (m : ℕ) (b u : Bool) → recorded (recorded_as (recorded_by q m b u)) ≡ Folds → recorded_by q m b u ≡ of_use q Fold q.place 0 ∷ []
unfolding recorded_as recorded_verb
by_fold q m true u e = clash (cc)
by_fold q m false true e = refl
by_fold q m false false e = clash (cc)

-- an unfold
by_unfold : (q : Spot) (m : ℕ) (b u : Bool) (n : ℕ) → recorded (recorded_as (recorded_by q m b u)) ≡ Unfolds n
    → (recorded_by q m b u ≡ of_use q Unfold (base q.place) m ∷ []) × (n ≡ length (base q.place))
unfolding recorded_as recorded_verb
by_unfold q m true u n e = (refl, cc)
by_unfold q m false true n e = clash (cc)
by_unfold q m false false n e = clash (cc)

module _ (Γ : List ℕ) (q : Spot) (E : Forest) where
  -- the walk's number and its two flags
  abbrev pub number : ℕ
  number = passed Γ q.place (pick q.local E)

  abbrev opened : Bool
  opened = changed Γ q.place (pick q.local E)

  abbrev ended : Bool
  ended = unfolded (reached Γ q.place (pick q.local E))

  -- the place is used, and its statements are P
  abbrev pub Answers : (List At → Type 0) → Type 0
  Answers P = (w : Forest × List At) × (projection Γ q E ≡ done w) × P w.1

  module _ {u : Use} (e : done u ≡ projection Γ q E >>= λ w. done (use_of number (recorded_as w.1))) where
    -- u says which they are
    answer_value : Answers (λ as'. use_of number (recorded_as as') ≡ u)
    answer_value = let (w, d, k) = then_done (projection Γ q E) (sym e) in (w, d, cc)

    -- its number is the walk's
    pub answer_told : u.passed ≡ number
    answer_told = let (w, d, k) = answer_value in sym (ap (λ (x : Use). x.passed) k)

    -- what it records, by the number and the flags
    answer_recorded : Answers (λ as'. (as' ≡ recorded_by q number opened ended) × (recorded (recorded_as (recorded_by q number opened ended)) ≡ u.recorded))
    answer_recorded =
        let (w, d, k) = answer_value in
        let is = good_at (projection_recording Γ q E) d in
        (w, d, (is, ap (λ (l : List At). recorded (recorded_as l)) (sym is) ∙ ap (λ (x : Use). x.recorded) k))

    -- nothing
    pub answer_nothing : u.recorded ≡ Nothing → Answers (λ as'. as' ≡ [])
    answer_nothing k = let (w, d, (is, r)) = answer_recorded in (w, d, is ∙ by_nothing q number opened ended (r ∙ k))

    -- a fold
    pub answer_fold : u.recorded ≡ Folds → Answers (λ as'. as' ≡ of_use q Fold q.place 0 ∷ [])
    answer_fold k = let (w, d, (is, r)) = answer_recorded in (w, d, is ∙ by_fold q number opened ended (r ∙ k))

    -- an unfold
    pub answer_unfold : {n : ℕ} → u.recorded ≡ Unfolds n → Answers (λ as'. (as' ≡ of_use q Unfold (base q.place) number ∷ []) × (n ≡ length (base q.place)))
    answer_unfold {n} k =
        let (w, d, (is, r)) = answer_recorded in
        let (l, m) = by_unfold q number opened ended n (r ∙ k) in
        (w, d, (is ∙ l, m))

-- THE ENTRIES

module _ (ops args : List ℕ) (q : Spot) (is : spot_of ops args ≡ some q) (entry point : ℕ) where
  -- of a fold
  pub fold_entries : {as' : List At} → as' ≡ of_use q Fold q.place 0 ∷ []
      → (length (mark point as') ≡ 1) × (marked entry (mark point as') ≡ point_entry entry point ∷ (15, 1) ∷ pairs (take (length ops) ops) (take (length ops) args))
  unfolding mark marked marked_line verb_entry mark_of
  fold_entries e = rw (e, items_all ops args q is) (refl, rw append-nil)

  -- of an unfold
  pub unfold_entries : {as' : List At} {m n : ℕ} → as' ≡ of_use q Unfold (base q.place) m ∷ [] → m < 255 → n ≡ length (base q.place)
      → (length (mark point as') ≡ 1) × (marked entry (mark point as') ≡ point_entry entry point ∷ (16, suc m) ∷ pairs (take (n + 1) ops) (take (n + 1) args))
  unfolding mark marked marked_line verb_entry
  unfold_entries {m} e l d = rw (e, d, items_base ops args q is, mark_small l)
      (refl, ap (λ (es : List Entry). point_entry entry point ∷ (16, suc m) ∷ (0, q.local) ∷ es) (append-nil (place_entries (base q.place))))
