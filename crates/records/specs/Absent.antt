-- Where no tree stands: one law for each refusal of code that checks a state. A reader has n words and may go d levels deep.
use Rattle.std.specs.Prelude.{◌≡◌, ◌≢◌, false, List, ◌∷◌, ℕ, suc, ◌+◌, ◌≤◌, get_or}
use Rattle.std.proofs.Common.{sym, ◌∙◌, subst, true≢false, arith}
use Rattle.std.proofs.Math.Path.{ap}
use Rattle.std.proofs.Math.Option.{none}
use Rattle.model.specs.Types.{kids}
use Rattle.model.specs.Tree.{Tree, Forest, size, sizes}
use Rattle.model.specs.Typing.{depth, depths}
use Rattle.model.specs.State.{State, levels, opens, decode}
use Rattle.base.specs.Tests.{split_option}
use Rattle.base.specs.Kinds.{Known}
use Rattle.records.specs.Here.{Coded, CodedAll, Shaped, Holds}
use Rattle.records.specs.Opens.{openable_opens}
use Rattle.records.specs.Codes.{size_pos}
use Rattle.records.specs.Coded.{Opened, coded_leaf, coded_folded, coded_opened, coded_split, coded_unique, codes_unique}
use Rattle.records.specs.Encode.{decode_holds}

-- no tree of the type t from i on that ends by word n and is open at d levels at the most
abbrev pub Absent : List ℕ → List ℕ → List ℕ → ℕ → ℕ → ℕ → ℕ → Type 0
Absent Γ fs ws n d i t = (x : Tree) → Coded Γ fs ws i t x → depth x ≤ d → i + size x ≤ n → ⊥

-- no trees of these types
abbrev pub AbsentAll : List ℕ → List ℕ → List ℕ → ℕ → ℕ → ℕ → List ℕ → Type 0
AbsentAll Γ fs ws n d i ts = (xs : Forest) → CodedAll Γ fs ws i ts xs → depths xs ≤ d → i + sizes xs ≤ n → ⊥

module _ {Γ fs ws : List ℕ} {n d i t : ℕ} where
  -- no word is left
  pub absent_end : n ≤ i → Absent Γ fs ws n d i t
  absent_end h x c l e = omega (arith, size_pos x)

  -- a folded node says something
  pub absent_said : Known Γ → get_or fs i 0 ≡ 0 → get_or ws i 0 ≢ 0 → Absent Γ fs ws n d i t
  absent_said known z f x c l e = f (coded_leaf (subst (Coded Γ fs ws i t) (coded_folded known c z) c)).1

  -- what is there does not open the type
  pub absent_shut : get_or fs i 0 ≢ 0 → opens Γ t (get_or fs i 0, get_or ws i 0) ≡ false → Absent Γ fs ws n d i t
  absent_shut f e x c l k =
      let o : Opened Γ fs ws i t x = coded_opened c f in
      true≢false (sym (openable_opens o.openable) ∙ ap (λ (a : ℕ). opens Γ t (a, get_or ws i 0)) (sym o.formed) ∙ e)

  -- too deep
  pub absent_deep : d ≡ 0 → get_or fs i 0 ≢ 0 → Absent Γ fs ws n d i t
  unfolding depth
  absent_deep z f x c l e =
      let o : Opened Γ fs ws i t x = coded_opened c f in
      absurd (omega (arith, ap depth o.is))

-- the children are not there
pub absent_children : {Γ fs ws : List ℕ} {n d i t : ℕ} → get_or fs i 0 ≢ 0 → AbsentAll Γ fs ws n d (i + 1) (kids Γ t (get_or ws i 0))
    → Absent Γ fs ws n (suc d) i t
unfolding depth
absent_children f g x c l e =
    let o = coded_opened c f in
    g o.children o.below (omega (arith, ap depth o.is)) (omega (arith, o.long))

module _ {Γ fs ws : List ℕ} {n d i t : ℕ} {ts : List ℕ} where
  -- the first tree is not there
  pub absent_first : Absent Γ fs ws n d i t → AbsentAll Γ fs ws n d i (t ∷ ts)
  unfolding depth
  absent_first f xs c l e =
      let s = coded_split c in
      f s.head s.here (omega (arith, ap depths s.is)) (omega (arith, s.long))

  -- it is, and the others are not there behind it
  pub absent_rest : {x : Tree} → Known Γ → Coded Γ fs ws i t x → AbsentAll Γ fs ws n d (i + size x) ts → AbsentAll Γ fs ws n d i (t ∷ ts)
  unfolding depth
  absent_rest {x} known h f xs c l e =
      let s = coded_split c in
      let same : s.head ≡ x = coded_unique known s.here h in
      let long : size s.head ≡ size x = ap size same in
      f s.tail (subst (λ (k : ℕ). CodedAll Γ fs ws (i + k) ts s.tail) long s.rest) (omega (arith, ap depths s.is)) (omega (arith, s.long))

-- A STATE RECORD REFUSED

module _ (Γ locals : List ℕ) (s : State) where
  -- it holds no state
  pub decode_refused : ((E : Forest) → Holds Γ locals s E → ⊥) → decode Γ locals s ≡ none
  decode_refused f = split_option (decode Γ locals s) (λ e. e) (λ E e. absurd (f E (decode_holds Γ locals s E e)))

  -- it has not the shape
  pub decode_misshapen : (Shaped s → ⊥) → decode Γ locals s ≡ none
  decode_misshapen f = decode_refused (λ E h. f h.shape)

  -- the locals' trees do not stand in its words
  pub decode_absent : AbsentAll Γ s.forms s.whats s.nodes levels 0 locals → decode Γ locals s ≡ none
  decode_absent f = decode_refused (λ E h. f E h.trees h.deep (omega arith))

  -- they do, and its count is another
  pub decode_miscounted : {E : Forest} → Known Γ → CodedAll Γ s.forms s.whats 0 locals E → s.nodes ≢ sizes E → decode Γ locals s ≡ none
  decode_miscounted known c f = decode_refused (λ D h. f (h.count ∙ ap sizes (codes_unique known h.trees c)))
