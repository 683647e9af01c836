-- Items put one by one into a lent buffer (count, op[], arg[]), or only counted.
use Rattle.std.specs.Prelude.{◌≡◌, Bool, true, false, cond, Option, Some, None, List, [], ◌∷◌, ℕ, ◌+◌, ◌^◌, ◌≤◌, ◌<◌, length, set}
use Rattle.model.specs.Answer.{done}
use Rattle.model.specs.Record.{Entry}
use Rattle.model.specs.Assign.{Operand, Assign, acted, dereffed, given, statements_of}
use Rattle.assign.specs.declared.give.Pen.{Pen}

abbrev pub moved : Pen → ℕ → ℕ → Pen
moved p from at = record { from = from; at = at; total = p.total }

-- the item number `at` of so many, where it is written
unfoldable pub putting : Option ℕ → ℕ → Entry → List ℕ → List ℕ
putting (Some total) at e out = set (set out (1 + at) e.0) (1 + total + at) e.1
putting None at e out = out

-- and those behind it
unfoldable pub puttings : Option ℕ → ℕ → List Entry → List ℕ → List ℕ
puttings total at [] out = out
puttings total at (e ∷ es) out = puttings total (at + 1) es (putting total at e out)

-- n items more can be put
pub record Room (out : List ℕ) (p : Pen) (n : ℕ) : Type 0 where
  pub few : p.at + n < 2 ^ 63
  pub fits : (t : ℕ) → p.total ≡ Some t → p.at + n ≤ t
  pub long : (t : ℕ) → p.total ≡ Some t → 1 + t + t ≤ length out

-- es are put, and reading goes on at the word `from`
pub record Puts (out : List ℕ) (p : Pen) (out' : List ℕ) (r : Pen) (from : ℕ) (es : List Entry) : Type 0 where
  pub written : out' ≡ puttings p.total p.at es out
  pub pen : r ≡ moved p from (p.at + length es)

-- what is done with a place, or with its deref
abbrev pub ending : Bool → ℕ → List Entry
ending true action = (1, 0) ∷ (action, 0) ∷ []
ending false action = (action, 0) ∷ []

-- a place, or its deref, and what is done with it
abbrev pub acting : Bool → ℕ → Operand → List Entry
acting deref action p = acted action (cond deref (dereffed p) p)

-- all that the list gives can be put
abbrev pub RoomAll : List ℕ → List ℕ → Pen → Type 0
RoomAll ws out p = (ss : List Assign) → statements_of ws ≡ done ss → Room out p (length (given ss))

-- and is
abbrev pub PutsAll : List ℕ → List ℕ → Pen → List ℕ → Pen → Type 0
PutsAll ws out p out' r = (ss : List Assign) → statements_of ws ≡ done ss → Puts out p out' r (length ws) (given ss)
