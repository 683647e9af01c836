-- s is above e when it absorbs e: join s e is s. The laws of this order, for any join that is idempotent, commutative and associative.
-- Nothing of any record or tree.
use Rattle.std.specs.Prelude.{◌≡◌}

-- the laws of a join on those that are `Ok`
pub record Semilattice (A : Type 0) (Ok : A → Type 0) (j : A → A → A) : Type 0 where
  pub ok : {a b : A} → Ok a → Ok b → Ok (j a b)
  pub self : (a : A) → j a a ≡ a
  pub comm : {a b : A} → Ok a → Ok b → j a b ≡ j b a
  pub assoc : {a b c : A} → Ok a → Ok b → Ok c → j (j a b) c ≡ j a (j b c)

-- b is absorbed by a
abbrev pub Above : {A : Type 0} → (A → A → A) → A → A → Type 0
Above j a b = j a b ≡ a

module _ {A : Type 0} {Ok : A → Type 0} {j : A → A → A} (L : Semilattice A Ok j) where
  -- each absorbs itself
  pub above_refl : (a : A) → Above j a a
  above_refl a = L.self a

  -- and what absorbs another absorbs all that the other does
  pub above_trans : {a b c : A} → Ok a → Ok b → Ok c → Above j a b → Above j b c → Above j a c
  above_trans f g h p q = cc (L.assoc f g h)

  -- two that absorb each other are equal
  pub above_antisym : {a b : A} → Ok a → Ok b → Above j a b → Above j b a → a ≡ b
  above_antisym f g p q = cc (L.comm f g)

  -- the join is above its first side
  pub above_first : {a b : A} → Ok a → Ok b → Above j (j a b) a
  above_first {a} {b} f g = cc (L.assoc f g f, L.comm g f, L.assoc f f g, L.self a)

  -- and its second
  pub above_second : {a b : A} → Ok a → Ok b → Above j (j a b) b
  above_second {a} {b} f g = cc (L.assoc f g g, L.self b)

  -- what is above both sides is above the join
  pub above_both : {a b c : A} → Ok a → Ok b → Ok c → Above j c a → Above j c b → Above j c (j a b)
  above_both f g h p q = cc (L.assoc h f g)

  -- what has once been absorbed stays absorbed
  pub above_join : {a b c : A} → Ok a → Ok b → Ok c → Above j a b → Above j (j a c) b
  above_join f g h p = above_trans (L.ok f h) f g (above_first f h) p

  -- and the join grows with either side
  pub above_mono : {a b c d : A} → Ok a → Ok b → Ok c → Ok d → Above j a b → Above j c d → Above j (j a c) (j b d)
  above_mono f g h i p q = above_both g i (L.ok f h) (above_join f g h p)
      (above_trans (L.ok f h) h i (above_second f h) q)
