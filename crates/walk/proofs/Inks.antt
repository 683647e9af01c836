-- Codes written over zeros, one after another (`Inked`); and what is written over a folded node of a state (`Encoded`).
use mathlib.Core.Path.{◌≡◌, refl, sym, ◌∙◌, ap, ap₂}
use mathlib.Core.List.{List, [], ◌∷◌, ◌++◌, map, append_assoc, map-append}
use Prim.Native.Nat.{ℕ, zero, suc, ◌+◌, ◌-◌, ◌<◌, ◌≤◌}
use native.Mathlib.Omega.{arith}
use lib.ListN.{length, set, replicate, take, drop, length-append, length-map, length-replicate, replicate-append-replicate}
use lib.Seq.{set_at, take_at, drop_at}
use Rattle.model.specs.State.{Code, padded}
use Rattle.records.specs.Here.{firsts, seconds}
use Rattle.records.specs.Pairs.{length_padded, take_padded}
use Rattle.state.specs.Spliced.{fronted, splice}
use Rattle.state.proofs.Fronted.{padded_fronted}
use Rattle.state.specs.declared.nodes.State.{State}
use Rattle.walk.specs.Applied.{Encoded, Inked, filled}
use Rattle.walk.proofs.Frames.{zeros}

-- n numbers, of which m come first
replicate_split : {A : Type 0} (x : A) (m n : ℕ) → m ≤ n → replicate n x ≡ replicate m x ++ replicate (n - m) x
replicate_split {A} x m n h = let e : m + (n - m) ≡ n = omega arith in ap (λ (k : ℕ). replicate k x) (sym e) ∙ sym (replicate-append-replicate {A = A} m (n - m) x)

-- zeros say zeros
map_zeros : (h : Code → ℕ) → h (0, 0) ≡ 0 → (n : ℕ) → map h (zeros n) ≡ replicate n 0
map_zeros h e zero = refl
map_zeros h e (suc n) = ap₂ (λ (x : ℕ) (l : List ℕ). x ∷ l) e (map_zeros h e n)

module _ (h : Code → ℕ) (i n : ℕ) (l : List ℕ) where
  -- nothing is written
  pub inked_none : Inked h i n l l []
  inked_none a c e d = let z : n - 0 ≡ n = omega arith in e ∙ ap (λ (k : ℕ). a ++ (replicate k 0 ++ c)) (sym z)

  -- one code more
  pub inked_one : (l' : List ℕ) (cs : List Code) (p : ℕ) (x : Code) → Inked h i n l l' cs → length cs < n → p ≡ i + length cs
      → Inked h i n l (set l' p (h x)) (cs ++ (x ∷ []))
  inked_one l' cs p x k m q a c e d =
      let j : ℕ = n - suc (length cs) in
      let t : List ℕ = replicate j 0 ++ c in
      let ej : n - length cs ≡ suc j = omega arith in
      let long : length (a ++ map h cs) ≡ p = omega (arith, length-append a (map h cs), length-map cs h) in
      let more : n - length (cs ++ (x ∷ [])) ≡ j = omega (arith, length-append cs (x ∷ [])) in
      let here : l' ≡ (a ++ map h cs) ++ (0 ∷ t) =
      k a c e d ∙ ap (λ (y : ℕ). a ++ (map h cs ++ (replicate y 0 ++ c))) ej ∙ sym (append_assoc a (map h cs) (0 ∷ t)) in
      ap (λ (w : List ℕ). set w p (h x)) here
      ∙ set_at (a ++ map h cs) 0 t (h x) p long
      ∙ rw (more, map-append h cs (x ∷ [])) (simp append_assoc)

  -- zeros more
  pub inked_zeros : (l' : List ℕ) (cs : List Code) (k : ℕ) → h (0, 0) ≡ 0 → Inked h i n l l' cs → length cs + k ≤ n → Inked h i n l l' (cs ++ zeros k)
  inked_zeros l' cs k z r m a c e d =
      let long : length (cs ++ zeros k) ≡ length cs + k = length-append cs (zeros k) ∙ ap (λ (y : ℕ). length cs + y) (length-replicate k (0, 0)) in
      let left : n - length (cs ++ zeros k) ≡ n - length cs - k = omega (arith, long) in
      r a c e d
      ∙ ap (λ (w : List ℕ). a ++ (map h cs ++ (w ++ c))) (replicate_split 0 k (n - length cs) (omega arith))
      ∙ rw (left, map-append h cs (zeros k), map_zeros h z k) (simp append_assoc)

-- A STATE'S RECORD

-- a state that has codes has two full arrays
pub encoded_long : {s : State} {cs : List Code} → Encoded s cs → (length s.forms ≡ 512) × (length s.whats ≡ 512)
encoded_long {cs = cs} E = (
  ap length E.forms ∙ length_padded (firsts cs) (omega (arith, E.few, length-map cs (λ c. c.0))),
  ap length E.whats ∙ length_padded (seconds cs) (omega (arith, E.few, length-map cs (λ c. c.1))),
)

-- zeros stand behind its codes
pub encoded_fronted : {s : State} {cs : List Code} → Encoded s cs → (s.forms ≡ fronted s.forms s.nodes) × (s.whats ≡ fronted s.whats s.nodes)
encoded_fronted {s} {cs} E =
    let n = s.nodes in
    let f : length (firsts cs) ≡ n = length-map cs (λ c. c.0) ∙ sym E.nodes in
    let w : length (seconds cs) ≡ n = length-map cs (λ c. c.1) ∙ sym E.nodes in (
      E.forms ∙ sym (padded_fronted s.forms (firsts cs) n (ap (take n) E.forms ∙ take_padded (firsts cs) n f) f),
      E.whats ∙ sym (padded_fronted s.whats (seconds cs) n (ap (take n) E.whats ∙ take_padded (seconds cs) n w) w),
    )

-- codes between others, padded: what is before them
front_padded : (b y e : List ℕ) (i : ℕ) → length b ≡ i → take i (padded (b ++ (y ++ e))) ≡ b
unfolding padded
front_padded b y e i h = ap (take i) (append_assoc b (y ++ e) _) ∙ take_at b _ i h

-- and behind them
back_padded : (b y e : List ℕ) (j n : ℕ) → length b + length y ≡ j → n ≡ length (b ++ (y ++ e)) → take (n - j) (drop j (padded (b ++ (y ++ e)))) ≡ e
unfolding padded
back_padded b y e j n h m =
    let z : List ℕ = replicate (512 - length (b ++ (y ++ e))) 0 in
    let g : b ++ (y ++ e) ++ z ≡ (b ++ y) ++ (e ++ z) = simp append_assoc in
    let k : n - j ≡ length e = omega (arith, length-append b (y ++ e), length-append y e) in
    ap (λ (w : List ℕ). take (n - j) (drop j w)) g
    ∙ ap (take (n - j)) (drop_at (b ++ y) (e ++ z) j (length-append b y ∙ h))
    ∙ take_at e z (n - j) (sym k)

-- what stands between them replaced by k others
splice_padded : (b y e mid : List ℕ) (i k n : ℕ) → length b ≡ i → length mid ≡ k → n ≡ length (b ++ (y ++ e))
    → take i (padded (b ++ (y ++ e))) ++ (mid ++ (take (n - (i + length y)) (drop (i + length y) (padded (b ++ (y ++ e)))) ++ replicate (512 - (i + k + (n - (i + length y)))) 0))
    ≡ padded (b ++ (mid ++ e))
unfolding padded
splice_padded b y e mid i k n h m r =
    let j : ℕ = i + length y in
    let w : length (b ++ (mid ++ e)) ≡ i + k + (n - j) = omega (arith, length-append b (mid ++ e), length-append mid e, length-append b (y ++ e), length-append y e) in
    rw (front_padded b y e i h, back_padded b y e j n (ap (λ (a : ℕ). a + length y) h) r, ← w) (simp append_assoc)

-- codes between others, each as h says
map_between : (h : Code → ℕ) (b y e : List Code) → map h (b ++ (y ++ e)) ≡ map h b ++ (map h y ++ map h e)
map_between h b y e = map-append h b (y ++ e) ∙ ap (λ (l : List ℕ). map h b ++ l) (map-append h y e)

-- as many codes as are filled
pub length_filled : (cs : List Code) (n : ℕ) → length cs ≤ n → length (filled cs n) ≡ n
unfolding filled
length_filled cs n h = length-append cs (zeros (n - length cs)) ∙ ap (λ (k : ℕ). length cs + k) (length-replicate (n - length cs) (0, 0)) ∙ omega arith

module _ (h : Code → ℕ) (z : h (0, 0) ≡ 0) (b y e cs : List Code) (i k n : ℕ) (l l₁ l₂ : List ℕ) (full : l ≡ padded (map h (b ++ (y ++ e)))) (at : length b ≡ i)
    (all : n ≡ length (b ++ (y ++ e))) (gap : l₁ ≡ splice l i k (i + length y) n) where
  -- the array as a list of three
  parts : l ≡ padded (map h b ++ (map h y ++ map h e))
  parts = full ∙ ap padded (map_between h b y e)

  -- codes written over the gap stand between the others
  pub inked_padded : Inked h i k l₁ l₂ cs → length cs ≤ k → l₂ ≡ padded (map h (b ++ (filled cs k ++ e)))
  unfolding splice filled
  inked_padded w m =
      let hb : List ℕ = map h b in
      let hy : List ℕ = map h y in
      let he : List ℕ = map h e in
      let mid : List ℕ = map h cs ++ replicate (k - length cs) 0 in
      let lb : length hb ≡ i = length-map b h ∙ at in
      let ly : i + length hy ≡ i + length y = ap (λ (j : ℕ). i + j) (length-map y h) in
      let ln : n ≡ length (hb ++ (hy ++ he)) = all ∙ sym (length-map (b ++ (y ++ e)) h) ∙ ap length (map_between h b y e) in
      let lm : length mid ≡ k = omega (arith, length-append (map h cs) (replicate (k - length cs) 0), length-map cs h, length-replicate {A = ℕ} (k - length cs) 0) in
      let c : List ℕ = take (n - (i + length y)) (drop (i + length y) l) ++ replicate (512 - (i + k + (n - (i + length y)))) 0 in
      let la : length (take i l) ≡ i = ap (λ (w : List ℕ). length (take i w)) parts ∙ ap length (front_padded hb hy he i lb) ∙ lb in
      let f : map h (filled cs k) ≡ mid = map-append h cs (zeros (k - length cs)) ∙ ap (λ (w : List ℕ). map h cs ++ w) (map_zeros h z (k - length cs)) in
      w (take i l) c gap la
      ∙ ap (λ (w : List ℕ). take i l ++ w) (sym (append_assoc (map h cs) (replicate (k - length cs) 0) c))
      ∙ ap₂ (λ (w : List ℕ) (j : ℕ). take i w ++ (mid ++ (take (n - j) (drop j w) ++ replicate (512 - (i + k + (n - j))) 0))) parts (sym ly)
      ∙ splice_padded hb hy he mid i k n lb lm ln
      ∙ ap padded (sym (map_between h b (filled cs k) e ∙ ap (λ (w : List ℕ). hb ++ (w ++ he)) f))

-- in r the nodes of s from i up to j have given way to `gap` folded ones
pub record Replaced (s : State) (i j gap : ℕ) (r : State) : Type 0 where
  pub forms : r.forms ≡ splice s.forms i gap j s.nodes
  pub whats : r.whats ≡ splice s.whats i gap j s.nodes
  pub nodes : r.nodes ≡ i + gap + (s.nodes - j)

-- a state whose codes between others were replaced, and written over
pub inked_encoded : (s r : State) (fs ws : List ℕ) (b y e cs : List Code) (i j k : ℕ) → Encoded s (b ++ (y ++ e)) → length b ≡ i → j ≡ i + length y
    → Replaced s i j k r → Inked (λ c. c.0) i k r.forms fs cs → Inked (λ c. c.1) i k r.whats ws cs → length cs ≤ k → s.nodes + k ≤ 512 + length y
    → Encoded (record { forms = fs; whats = ws; nodes = r.nodes }) (b ++ (filled cs k ++ e))
inked_encoded s r fs ws b y e cs i j k E at ej R f w m room =
    let n : length (b ++ (filled cs k ++ e)) ≡ i + k + (s.nodes - j) =
    omega (arith, E.nodes, length-append b (filled cs k ++ e), length-append (filled cs k) e, length_filled cs k m, length-append b (y ++ e), length-append y e) in
    record {
      forms = inked_padded (λ c. c.0) refl b y e cs i k s.nodes s.forms r.forms fs E.forms at E.nodes (rw ej at R.forms) f m;
      whats = inked_padded (λ c. c.1) refl b y e cs i k s.nodes s.whats r.whats ws E.whats at E.nodes (rw ej at R.whats) w m;
      nodes = R.nodes ∙ sym n;
      few = omega (arith, n, E.nodes, length-append b (y ++ e), length-append y e);
    }

-- a state whose codes between others were replaced by one folded node's
pub folded_encoded : (s r : State) (b y e : List Code) (i j : ℕ) → Encoded s (b ++ (y ++ e)) → length b ≡ i → j ≡ i + length y → 0 < length y
    → Replaced s i j 1 r → Encoded r (b ++ ((0, 0) ∷ e))
unfolding filled
folded_encoded s r b y e i j E at ej p R =
    inked_encoded s r r.forms r.whats b y e [] i j 1 E at ej R (inked_none (λ c. c.0) i 1 r.forms) (inked_none (λ c. c.1) i 1 r.whats) (omega arith) (omega (arith, E.few, E.nodes))
