-- Lists of numbers and their members: what stands in a list, lists in which no number comes twice, what is left of the numbers below n;
-- and functions changed at one number. Nothing of the analysis.
use Rattle.std.specs.Prelude.{◌≡◌, refl, Bool, true, false, cond, List, [], ◌∷◌, map, ℕ, zero, suc, ◌≤◌, ◌<◌, eqb}
use Rattle.std.proofs.Common.{arith, ne_eqb}
use Rattle.model.specs.Words.{collect_from}
use Rattle.model.specs.Rounds.{put, elem, left}
use Rattle.base.specs.Tests.{split, clash, eqb_same, eqb_sym}
use Rattle.base.specs.Each.{Each, each_none, each_more}
use Rattle.base.specs.Below.{sum_grows, sum_falls, sum_ones}
use Rattle.base.specs.Collected.{collect_each}

-- MEMBERS

-- a stands in the list
pub data Has {A : Type 0} (a : A) : List A → Type 0 where
  here : {l : List A} → Has a (a ∷ l)
  later : {b : A} {l : List A} → Has a l → Has a (b ∷ l)

-- a member of a list is one of its image
pub has_map : {A B : Type 0} (f : A → B) {a : A} {l : List A} → Has a l → Has (f a) (map f l)
has_map f here = here
has_map f (later h) = later (has_map f h)

-- what stands in an image comes from somewhere
pub record Image {A B : Type 0} (f : A → B) (l : List A) (b : B) : Type 0 where
  pub from : A
  pub stands : Has from l
  pub goes : f from ≡ b

-- and a member of the image comes from one
pub has_image : {A B : Type 0} (f : A → B) (l : List A) {b : B} → Has b (map f l) → Image f l b
has_image f [] h = elim h [ ]
has_image f (a ∷ l) here = record { from = a; stands = here; goes = refl }
has_image f (a ∷ l) (later h) = let k = has_image f l h in record { from = k.from; stands = later k.stands; goes = k.goes }

-- what holds of each holds of a member
pub each_has : {A : Type 0} {P : A → Type 0} {a : A} {l : List A} → Each P l → Has a l → P a
each_has each_none h = elim h [ ]
each_has (each_more p ps) here = p
each_has (each_more p ps) (later h) = each_has ps h

-- and what holds of each member holds of each
pub each_of : {A : Type 0} {P : A → Type 0} (l : List A) → ((a : A) → Has a l → P a) → Each P l
each_of [] f = each_none
each_of (a ∷ l) f = each_more (f a here) (each_of l (λ c h. f c (later h)))

-- a member is found
pub elem_has : {x : ℕ} {l : List ℕ} → Has x l → elem x l ≡ true
unfolding elem
elem_has {x} here = cc (eqb_same x)
elem_has {x} (later {b = y} {l} h) = split (eqb x y) (λ e. cc) (λ e. cc (elem_has h))

-- a number that is in no image is apart from each
pub each_apart : {A : Type 0} (f : A → ℕ) (x : ℕ) {l : List A} → elem x (map f l) ≡ false → Each (λ a. eqb (f a) x ≡ false) l
unfolding elem
each_apart f x {l = []} e = each_none
each_apart f x {l = a ∷ l} e = split (eqb x (f a)) (λ d. clash (cc)) (λ d. each_more (cc (eqb_sym (f a) x)) (each_apart f x (cc)))

-- NO NUMBER TWICE

-- no number comes twice
pub data Once : List ℕ → Type 0 where
  once_none : Once []
  once_more : {x : ℕ} {xs : List ℕ} → elem x xs ≡ false → Once xs → Once (x ∷ xs)

-- the first is not among the others
pub once_head : {x : ℕ} {xs : List ℕ} → Once (x ∷ xs) → elem x xs ≡ false
once_head (once_more n o) = n

-- and none of the others comes twice
pub once_tail : {x : ℕ} {xs : List ℕ} → Once (x ∷ xs) → Once xs
once_tail (once_more n o) = o

-- a number that differs from each of a list is not in it
pub elem_none : (x : ℕ) {l : List ℕ} → Each (λ y. eqb x y ≡ false) l → elem x l ≡ false
unfolding elem
elem_none x each_none = refl
elem_none x (each_more e es) = cc (elem_none x es)

-- among the numbers collected from a range none comes twice
pub collect_once : (p : ℕ → Bool) (n i : ℕ) → Once (collect_from p (λ x. x) n i)
unfolding collect_from
collect_once p zero i = once_none
collect_once p (suc n) i = split (p i)
    (λ e. rw (e, collect_from) (once_more (elem_none i (collect_each p (λ x. x) n (suc i) (λ x l m c. ne_eqb i x (λ q. omega arith)))) (collect_once p n (suc i))))
    (λ e. rw (e, collect_from) (collect_once p n (suc i)))

-- WHAT IS LEFT

-- one less is left when a new number comes in
pub left_fall : (n c : ℕ) (w : List ℕ) → c < n → elem c w ≡ false → left n (c ∷ w) < left n w
unfolding left elem
left_fall n c w l e = sum_falls (λ x. cond (elem x (c ∷ w)) 0 1) (λ x. cond (elem x w) 0 1) n c l
    (rw (e, eqb_same c) (omega arith))
    (λ x m. split (eqb x c) (λ d. rw d (omega arith)) (λ d. rw d (omega arith)))

-- at most all are left
pub left_most : (n : ℕ) (w : List ℕ) → left n w ≤ n
unfolding left
left_most n w =
    let h = sum_grows (λ x. cond (elem x w) 0 1) (λ x. 1) n (λ x m. split (elem x w) (λ e. rw e (omega arith)) (λ e. rw e (omega arith))) in
    omega (arith, h, sum_ones n)

-- FUNCTIONS CHANGED AT ONE NUMBER

module _ {A : Type 0} (f : ℕ → A) (b : ℕ) (a : A) where
  -- at the number
  pub put_same : put f b a b ≡ a
  unfolding put
  put_same = cc (eqb_same b)

  -- at any other
  pub put_other : (x : ℕ) → eqb b x ≡ false → put f b a x ≡ f x
  unfolding put
  put_other x e = cc
