-- Small records written by their parts, and texts as bytes: what the examples are made of.
use mathlib.Core.List.{List, [], ◌∷◌, ◌++◌, map}
use Prim.Native.Nat.{ℕ, zero, suc, ◌+◌, ◌-◌}
use Prim.Native.Char.{code}
use Prim.Native.String.{String}
use lib.ListN.{length, replicate}
use Rattle.model.specs.State.{State, most}

abbrev pub bytes : String → List ℕ
bytes String.[] = []
bytes (String.◌∷◌ c s) = code c ∷ bytes s

abbrev pub joined : {A : Type 0} → List (List A) → List A
joined [] = []
joined (l ∷ ls) = l ++ joined ls

-- the numbers from i on, n of them
abbrev pub numbers : ℕ → ℕ → List ℕ
numbers i zero = []
numbers i (suc n) = i ∷ numbers (suc i) n

-- TYPES: the kind and the parts of each

abbrev pub Typed : Type 0
Typed = ℕ × List ℕ

abbrev pub opaque : Typed
opaque = (0, [])

abbrev pub plain : ℕ → Typed
plain t = (1, t ∷ [])

abbrev pub mutable : ℕ → Typed
mutable t = (2, t ∷ [])

abbrev pub box : ℕ → Typed
box t = (3, t ∷ [])

abbrev pub array : Typed
array = (4, [])

abbrev pub struct : List ℕ → Typed
struct ts = (6, ts)

abbrev pub enum : List ℕ → Typed
enum vs = (7, vs)

-- by its value and its fields
abbrev pub variant : ℕ → List ℕ → Typed
variant d ts = (8, d ∷ ts)

abbrev pub closure : List ℕ → Typed
closure ts = (9, ts)

abbrev pub types_of : List Typed → List ℕ
types_of ts =
    let parts = map (λ t. t.1) ts in
    length ts ∷ length (joined parts) ∷ (map (λ t. t.0) ts ++ (map length parts ++ joined parts))

-- FUNCTIONS: the items of each block

abbrev pub Item : Type 0
Item = ℕ × ℕ

abbrev pub root : ℕ → Item
root l = (0, l)

abbrev pub deref : Item
deref = (1, 0)

abbrev pub field : ℕ → Item
field i = (2, i)

abbrev pub downcast : ℕ → Item
downcast v = (3, v)

abbrev pub index : Item
index = (4, 0)

abbrev pub used : Item
used = (5, 0)

abbrev pub read : Item
read = (6, 0)

abbrev pub note : Item
note = (7, 0)

abbrev pub switch : Item
switch = (8, 0)

abbrev pub arm : ℕ → Item
arm x = (9, x)

abbrev pub target : ℕ → Item
target b = (10, b)

abbrev pub return : Item
return = (11, 0)

abbrev pub stop : Item
stop = (12, 0)

abbrev pub starts : ℕ → List (List Item) → List ℕ
starts i [] = []
starts i (b ∷ bs) = i ∷ starts (i + length b) bs

-- the types of the locals, all but local 0 arguments; the blocks, each of its number's rank
abbrev pub function_of : List ℕ → List (List Item) → List ℕ
function_of locals blocks =
    let items = joined blocks in
    length locals ∷ (length locals - 1) ∷ length blocks ∷ length items
    ∷ (locals ++ (starts 0 blocks ++ (numbers 0 (length blocks) ++ (map (λ i. i.0) items ++ map (λ i. i.1) items))))

-- STATES: the node count, then forms and whats, without the zeros behind

unfoldable pub state_of : ℕ → List ℕ → List ℕ → State
state_of n fs ws = record { forms = fs ++ replicate (most - length fs) 0; whats = ws ++ replicate (most - length ws) 0; nodes = n }
