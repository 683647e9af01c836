-- The calls on states, each on small records; the join both ways, for its flag.
use mathlib.Core.Path.{◌≡◌, refl}
use mathlib.Core.Bool.{true, false}
use mathlib.Core.List.{List, [], ◌∷◌}
use Prim.Native.Nat.{ℕ}
use Rattle.model.specs.Answer.{refused, done}
use Rattle.model.specs.State.{State}
use Rattle.model.specs.Place.{Fold, Unfold}
use Rattle.model.specs.Calls.{fold, unfold_at, call_projection, call_downcast, call_carry, call_join, call_collect, call_unfolds, call_folds}
use Rattle.model.proofs.Build.{opaque, mutable, struct, enum, variant, types_of, state_of}
use Rattle.model.proofs.Computed.{computed}

-- 0 opaque, 1 struct(0,0), 2 variant value 0 (0), 3 variant value 1 (0), 4 enum(2,3), 5 mutable reference to 1
abbrev types : List ℕ
types = types_of (opaque ∷ struct (0 ∷ 0 ∷ []) ∷ variant 0 (0 ∷ []) ∷ variant 1 (0 ∷ []) ∷ enum (2 ∷ 3 ∷ []) ∷ mutable 1 ∷ [])

-- the return place, _1 a mutable reference, _2 an enum, _3 a struct
abbrev locals : List ℕ
locals = 0 ∷ 5 ∷ 4 ∷ 1 ∷ []

abbrev folded : State
folded = state_of 4 [] []

-- _1 as *S(F,F); _2 as V1(F); _3 as S(F,F)
abbrev referred : State
referred = state_of 7 (0 ∷ 1 ∷ 2 ∷ []) []

abbrev chosen : State
chosen = state_of 5 (0 ∷ 0 ∷ 2 ∷ []) (0 ∷ 0 ∷ 1 ∷ [])

abbrev spread : State
spread = state_of 6 (0 ∷ 0 ∷ 0 ∷ 2 ∷ []) []

-- _1.*.0 is used: unfold _1.*, the place's first element
projection : call_projection types locals folded (0 ∷ 1 ∷ 2 ∷ []) (1 ∷ 0 ∷ 0 ∷ []) ≡ done (unfold_at 1, 0, referred)
unfolding computed
projection = refl

-- _3 is used
projection_folds : call_projection types locals spread (0 ∷ []) (3 ∷ []) ≡ done (fold, 0, folded)
unfolding computed
projection_folds = refl

downcast : call_downcast types locals folded (0 ∷ []) (2 ∷ []) 1 ≡ done chosen
unfolding computed
downcast = refl

-- fold _1, unfold _2.as1
fold_carried : call_carry types locals Fold referred (0 ∷ []) (1 ∷ []) ≡ done folded
unfolding computed
fold_carried = refl

unfold_carried : call_carry types locals Unfold folded (0 ∷ 3 ∷ []) (2 ∷ 1 ∷ []) ≡ done chosen
unfolding computed
unfold_carried = refl

-- a struct unfolds the folded one that it meets: which side has changed
join_changed : call_join types locals folded spread ≡ done (true, spread)
unfolding computed
join_changed = refl

join_kept : call_join types locals spread folded ≡ done (false, spread)
unfolding computed
join_kept = refl

-- fold _2, unfold _3: statement count, entry count, ops, args
collected : call_collect types locals chosen spread 64 ≡ done (2 ∷ 6 ∷ 14 ∷ 15 ∷ 0 ∷ 14 ∷ 16 ∷ 0 ∷ 0 ∷ 0 ∷ 2 ∷ 0 ∷ 0 ∷ 3 ∷ [])
unfolding computed
collected = refl

-- unfold _1.*; and at a return with the argument _1 fold _1.*, with no argument nothing
unfolds : call_unfolds types locals referred 64 ≡ done (1 ∷ 4 ∷ 14 ∷ 16 ∷ 0 ∷ 1 ∷ 0 ∷ 0 ∷ 1 ∷ 0 ∷ [])
unfolding computed
unfolds = refl

folds : call_folds types locals 1 referred 64 ≡ done (1 ∷ 4 ∷ 14 ∷ 15 ∷ 0 ∷ 1 ∷ 0 ∷ 0 ∷ 1 ∷ 0 ∷ [])
unfolding computed
folds = refl

folds_none : call_folds types locals 0 referred 64 ≡ done (0 ∷ 0 ∷ [])
unfolding computed
folds_none = refl

-- a buffer one word short of four entries; A not below L
folds_short : call_folds types locals 1 referred 9 ≡ refused 10
unfolding computed
folds_short = refl

folds_bad : call_folds types locals 4 referred 64 ≡ refused 3
unfolding computed
folds_bad = refl
