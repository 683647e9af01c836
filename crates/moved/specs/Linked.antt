-- The whole-function call over moved types: the same answer, statement record, numbers and store. So a function over the second of two
-- records answers over the merged one, its local types moved up, as it did, and one over the first as it is: `merged_links`.
use Rattle.std.specs.Prelude.{◌≡◌, true, leb, length}
use Rattle.std.proofs.Math.Path.{refl, sym, ap, fun_ext}
use Rattle.std.proofs.Common.{◌∙◌, arith, ext_get_or}
use mathlib.Core.List.{List, map}
use Rattle.std.proofs.Math.Option
use Rattle.std.proofs.Math.Option.{Option, none, some}
use Prim.Native.Nat.{ℕ, ◌*◌, ◌<◌}
use Rattle.std.proofs.lemmas.List.{length-map}
use Rattle.model.specs.Words.{word, collect_from}
use Rattle.model.specs.Answer.{Answer, refused, done}
use Rattle.model.specs.Types.{types_ok}
use Rattle.model.specs.Tree.{Forest, leaves}
use Rattle.model.specs.State.{State, local_ok, locals_ok, most}
use Rattle.model.specs.Place.{At}
use Rattle.model.specs.Function.{local_types, function_ok, nblocks}
use Rattle.model.specs.Block.{places_ok, entry_uses, entry_point, is_join_point, join_points}
use Rattle.model.specs.Passes.{Found}
use Rattle.model.specs.Body.{enter_uses}
use Rattle.model.specs.Record.{entries, writable}
use Rattle.model.specs.Whole.{passes, ghost_statements, with_buffer, share, joined, shares, accepted, denied, result, shorter, found, with_numbers, found_told, told_of, whole_told}
use Rattle.base.specs.Tests.{split}
use Rattle.base.specs.Answer.{split_answer, answer_map}
use Rattle.base.specs.Below.{all_same}
use Rattle.base.specs.Words.{map_word}
use Rattle.base.specs.Typed.{TypedLocals}
use Rattle.solver.specs.Along.{kept_map, found_map}
use Rattle.solver.proofs.AlongWhole.{analyse_along}
use Rattle.moved.specs.Moves.{Moves, Embeds}
use Rattle.moved.specs.Retyped.{retypes, leaves_moved, encode_moved}
use Rattle.moved.specs.Bodies.{enter_uses_moved, frame_along}
use Rattle.moved.specs.Alike.{Alike, places_ok_alike, entry_uses_alike, join_points_alike}
use Rattle.moved.specs.AlikeRun.{frame_alike, shares_alike}
use Rattle.moved.specs.Passing.{kept_at, kept_same}

module _ {f : ℕ → ℕ} {Γ Δ : List ℕ} (h : Moves f Γ Δ) where
  -- THE STORE

  -- one block's share
  share_moved : (part : State → List ℕ) (o : Option Forest) → share Δ part (Option.map (retypes f) o) ≡ share Γ part o
  unfolding share
  share_moved part none = refl
  share_moved part (some E) = ap part (encode_moved h E)

  -- those of all join points
  shares_moved : (fn : List ℕ) (part : State → List ℕ) (kept : ℕ → Option Forest) → shares Δ fn part (kept_map (retypes f) kept) ≡ shares Γ fn part kept
  unfolding shares
  shares_moved fn part kept =
      ap (λ (g : ℕ → List ℕ). joined (collect_from (is_join_point fn) g (nblocks fn) 0)) (fun_ext (λ b. share_moved part (kept b)))

  -- a function, and one that differs in its local types alone, which are moved
  module _ {fn gn : List ℕ} (a : Alike fn gn) (m : local_types gn ≡ map f (local_types fn)) where
    -- BOTH PASSES

    -- from the states at the entry to what both passes find
    passes_moved : passes Δ gn ≡ answer_map (found_map (retypes f)) (passes Γ fn)
    unfolding passes
    passes_moved =
        let start : leaves (local_types gn) ≡ retypes f (leaves (local_types fn)) = ap leaves m ∙ sym (leaves_moved f (local_types fn)) in
        let w = enter_uses_moved h (entry_uses fn) (leaves (local_types fn)) in
        rw (entry_uses_alike a, start, frame_alike a Δ)
        (split_answer (enter_uses Γ (entry_uses fn) (leaves (local_types fn)))
        (λ r e. cc)
        (λ x e. cc (analyse_along (frame_along h fn) x.1 x.0)))

    -- THE CALL

    module _ (tΓ : types_ok Γ ≡ true) (tΔ : types_ok Δ ≡ true) (o : function_ok Δ gn ≡ function_ok Γ fn) where
      -- with the tests before them
      ghosts_moved : (store : ℕ) → ghost_statements Δ gn store ≡ answer_map (found_map (retypes f)) (ghost_statements Γ fn store)
      unfolding ghost_statements
      ghosts_moved store =
          rw (tΓ, tΔ, o, places_ok_alike a, join_points_alike a)
          (split (function_ok Γ fn)
          (λ c. split (places_ok fn)
          (λ e. split (leb (most * join_points fn) store) (λ d. cc passes_moved) (λ d. cc))
          (λ e. cc))
          (λ c. cc))

      -- the lengths of what is lent
      module _ (nforms nwhats nout ntold : ℕ) where
        -- with the test of the buffer
        buffer_moved : (F : Found Forest At) → with_buffer gn nout (found_map (retypes f) F) ≡ answer_map (found_map (retypes f)) (with_buffer fn nout F)
        unfolding with_buffer
        buffer_moved F =
            rw a.items (split (writable nout (entries (entry_point fn) F.lines)) (λ e. cc) (λ e. cc))

        -- what the call finds
        found_moved : found Δ gn nforms nwhats nout ≡ answer_map (found_map (retypes f)) (found Γ fn nforms nwhats nout)
        unfolding found shorter
        found_moved =
            let w = ghosts_moved (shorter Γ fn nforms nwhats nout) in
            split_answer (ghost_statements Γ fn (shorter Γ fn nforms nwhats nout)) (λ r e. cc) (λ F e. cc (buffer_moved F))

        -- with the test of the array for the numbers
        numbers_moved : (F : Found Forest At)
            → with_numbers Δ gn nforms nwhats nout ntold (found_map (retypes f) F) ≡ answer_map (found_map (retypes f)) (with_numbers Γ fn nforms nwhats nout ntold F)
        unfolding with_numbers
        numbers_moved F = split (leb (length F.lines) ntold) (λ e. cc) (λ e. cc)

        -- what the call with its numbers finds
        told_moved : found_told Δ gn nforms nwhats nout ntold ≡ answer_map (found_map (retypes f)) (found_told Γ fn nforms nwhats nout ntold)
        unfolding found_told
        told_moved =
            let w = found_moved in
            split_answer (found Γ fn nforms nwhats nout) (λ r e. cc) (λ F e. cc (numbers_moved F))

        -- what it leaves
        accepted_moved : (F : Found Forest At) → accepted Δ gn nforms nwhats nout (found_map (retypes f) F) ≡ accepted Γ fn nforms nwhats nout F
        unfolding accepted
        accepted_moved F =
            let kept : (part : State → List ℕ) → shares Δ gn part (kept_map (retypes f) F.kept) ≡ shares Γ fn part F.kept =
            λ part. shares_alike a Δ part (kept_map (retypes f) F.kept) ∙ shares_moved fn part F.kept in
            rw (a.items, kept (λ s. s.forms), kept (λ s. s.whats)) refl

        -- of any answer
        result_moved : (A : Answer (Found Forest At)) → result Δ gn nforms nwhats nout (answer_map (found_map (retypes f)) A) ≡ result Γ fn nforms nwhats nout A
        unfolding result denied
        result_moved (refused r) = refl
        result_moved (done F) = accepted_moved F

        -- the numbers
        told_of_moved : (A : Answer (Found Forest At))
            → told_of Δ gn nforms nwhats nout ntold (answer_map (found_map (retypes f)) A) ≡ told_of Γ fn nforms nwhats nout ntold A
        unfolding told_of
        told_of_moved (refused r) = refl
        told_of_moved (done F) = refl

        -- ALL OF IT
        pub whole_moved : whole_told Δ gn nforms nwhats nout ntold ≡ whole_told Γ fn nforms nwhats nout ntold
        unfolding whole_told
        whole_moved =
            let A = found_told Γ fn nforms nwhats nout ntold in
            rw (told_moved, result_moved A, told_of_moved A) refl

-- LOCAL TYPES

-- moved ones pass exactly if they did
pub locals_moved : (f : ℕ → ℕ) (Γ Δ : List ℕ) → Embeds f Γ Δ → (ls : List ℕ) → locals_ok Δ (map f ls) ≡ locals_ok Γ ls
unfolding locals_ok local_ok
locals_moved f Γ Δ e ls =
    let each : (l : ℕ) → l < length ls → local_ok Δ (map f ls) l ≡ local_ok Γ ls l = λ l k.
    cc (map_word f ls l k, e.inside (word ls l), e.kinds (word ls l)) in
    rw (length-map ls f) (cc (all_same (local_ok Δ (map f ls)) (local_ok Γ ls) (length ls) each))

-- those of the first are as they were
pub kept_locals : {Γ : List ℕ} (Δ ls : List ℕ) → TypedLocals Γ ls → map (kept_at Γ Δ) ls ≡ ls
kept_locals {Γ} Δ ls t =
    ext_get_or 0 (map (kept_at Γ Δ) ls) ls (length-map ls (kept_at Γ Δ)) (λ l k.
    let m : l < length ls = omega (arith, length-map ls (kept_at Γ Δ)) in
    map_word (kept_at Γ Δ) ls l m ∙ kept_same Γ Δ (word ls l) (t.below l m))
