-- A function record whose local types are moved up differs from it in its local types alone, whatever its words are: `moved_alike`,
-- `moved_locals`.
use Rattle.std.specs.Prelude.{◌≡◌, ℕ, ◌+◌, ◌≤◌, ◌<◌, length, take, drop}
use Rattle.std.proofs.Math.Path.{refl, ap}
use Rattle.std.proofs.Common.{sym, ◌∙◌, arith, take_all, get_or-append-add}
use mathlib.Core.List.{List, ◌++◌, map, append_assoc, append-nil}
use Rattle.std.proofs.Math.Decide.{dec_lt}
use Rattle.std.proofs.Math.ListN.{length-append, length-take, length-drop, drop_of_length-le, get_or-append, get_or-eq_default}
use Rattle.std.proofs.lemmas.List.{length-map}
use Rattle.std.proofs.Math.Seq.{length-take-le, take-nil, take_at, drop_at, get_or-take, get_or-drop}
use Rattle.model.specs.Words.{word}
use Rattle.model.specs.Function.{nlocals, local_types}
use Rattle.model.specs.Merge.{moved_function}
use Rattle.moved.specs.Alike.{Alike}

-- a record is alike itself
pub alike_self : (fn : List ℕ) → Alike fn fn
alike_self fn = record { locals = refl; args = refl; blocks = refl; items = refl; long = refl; behind = λ i. refl }

module _ (n : ℕ) (fn : List ℕ) where
  -- the moved local types
  abbrev moved : List ℕ
  moved = map (λ t. n + t) (local_types fn)

  -- where not even the sizes are there nothing is moved
  short_same : length fn < 4 → moved_function n fn ≡ fn
  unfolding moved_function local_types
  short_same h =
      rw (take_all 4 fn (omega arith), drop_of_length-le fn {i = 4} (omega arith), take-nil {A = ℕ} (nlocals fn), drop_of_length-le fn {i = 4 + nlocals fn} (omega arith))
      (append-nil fn)

  module _ (h : 4 ≤ length fn) where
    -- the sizes are four
    front_long : length (take 4 fn) ≡ 4
    front_long = length-take-le 4 fn h

    -- as many moved types as there are
    moved_long : length moved ≡ length (local_types fn)
    moved_long = length-map (local_types fn) (λ t. n + t)

    -- a size stays
    size_same : (i : ℕ) → i < 4 → word (moved_function n fn) i ≡ word fn i
    unfolding moved_function
    size_same i l = get_or-append (take 4 fn) _ 0 i (rw front_long l) ∙ get_or-take 4 fn i 0 l

    -- the length stays
    long_same : length (moved_function n fn) ≡ length fn
    unfolding moved_function local_types
    long_same =
        rw (length-append, length-append, length-drop, front_long, moved_long)
        (omega (arith, length-take (nlocals fn) (drop 4 fn), length-drop 4 fn))

    -- where all local types are there, they are so many
    module _ (m : 4 + nlocals fn ≤ length fn) where
      types_long : length moved ≡ nlocals fn
      unfolding local_types
      types_long = moved_long ∙ length-take-le (nlocals fn) (drop 4 fn) (omega (arith, length-drop 4 fn))

      -- with the sizes
      head_long : length (take 4 fn ++ moved) ≡ 4 + nlocals fn
      head_long = rw (length-append, front_long, types_long)

      -- a word behind them stays
      behind_same : (i : ℕ) → word (moved_function n fn) (4 + nlocals fn + i) ≡ word fn (4 + nlocals fn + i)
      unfolding moved_function
      behind_same i = ap (λ (l : List ℕ). word l (4 + nlocals fn + i)) (sym (append_assoc (take 4 fn) _ _))
          ∙ (rw head_long at (get_or-append-add (take 4 fn ++ moved) (drop (4 + nlocals fn) fn) i 0))
          ∙ get_or-drop (4 + nlocals fn) fn i 0

    -- a word behind the local types stays; behind the record there is none
    any_behind : (i : ℕ) → word (moved_function n fn) (4 + nlocals fn + i) ≡ word fn (4 + nlocals fn + i)
    any_behind i = elim (dec_lt (length fn) (4 + nlocals fn)) [
      | yes l ↦ get_or-eq_default (moved_function n fn) 0 (omega (arith, long_same)) ∙ sym (get_or-eq_default fn 0 (omega arith))
      | no l ↦ behind_same (omega arith) i
    ]

    -- so they are alike
    sized_alike : Alike fn (moved_function n fn)
    sized_alike = record {
      locals = size_same 0 (omega arith);
      args = size_same 1 (omega arith);
      blocks = size_same 2 (omega arith);
      items = size_same 3 (omega arith);
      long = long_same;
      behind = any_behind;
    }

    -- the local types, as many as there are
    types_taken : take (nlocals fn) (moved ++ drop (4 + nlocals fn) fn) ≡ moved
    unfolding local_types
    types_taken = elim (dec_lt (length fn) (4 + nlocals fn)) [
      | yes l ↦ rw (drop_of_length-le fn {i = 4 + nlocals fn} (omega arith), append-nil moved)
          (take_all (nlocals fn) moved (omega (arith, moved_long, length-take (nlocals fn) (drop 4 fn))))
      | no l ↦ take_at moved _ (nlocals fn) (types_long (omega arith))
    ]

    -- and the local types are the moved ones
    sized_locals : local_types (moved_function n fn) ≡ moved
    unfolding local_types moved_function
    sized_locals = rw (size_same 0 (omega arith), drop_at (take 4 fn) _ 4 front_long) types_taken

  -- A FUNCTION MOVED UP differs in its local types alone
  pub moved_alike : Alike fn (moved_function n fn)
  moved_alike = elim (dec_lt (length fn) 4) [
    | yes l ↦ rw (short_same l) (alike_self fn)
    | no l ↦ sized_alike (omega arith)
  ]

  -- and those are moved up
  pub moved_locals : local_types (moved_function n fn) ≡ moved
  unfolding local_types
  moved_locals = elim (dec_lt (length fn) 4) [
    | yes l ↦ rw (short_same l, drop_of_length-le fn {i = 4} (omega arith), take-nil {A = ℕ} (nlocals fn)) refl
    | no l ↦ sized_locals (omega arith)
  ]
