-- One scan after the other: the source and reader that a scan takes, what its answer says, and the tokens that are left. Assumes nothing.
use Prim.Native.Nat.{ℕ, ◌≤◌, ◌<◌}
use Rattle.std.specs.Prelude.{◌≡◌, List, [], ◌∷◌, length, Some, None}
use Rattle.tokens.specs.declared.Token.{Token}
use Rattle.tokens.specs.Tokens.{tables_1}
use Rattle.tokens.specs.Scan.{scan, list_from}
use Rattle.reader.specs.declared.Reader.{Reader}
use Rattle.reader.specs.Reading.{source_limit, Answer, Ahead}
use Rattle.reader.specs.Reading as reading

-- a source and a reader that a scan takes
pub record Sound (src : List ℕ) (r : Reader) : Type 0 where
  pub limit : length src ≤ source_limit
  pub inside : r.place.0 ≤ length src

-- a token found, and the reader behind it
pub record Onward (src : List ℕ) (r : Reader) (x : Token) (next : Reader) : Type 0 where
  pub found : scan tables_1 src r.place.0 r.mode ≡ Some (x, next.mode)
  pub placed : next.place ≡ x.end
  pub further : r.place.0 < next.place.0
  pub sound : Sound src next

-- no token is left
abbrev pub Ends : List ℕ → Reader → Type 0
Ends src r = scan tables_1 src r.place.0 r.mode ≡ None

-- what a scan's answer says; a reader that can scan is not refused
abbrev pub Says : List ℕ → Reader → Answer → Type 0
Says src r (reading.ready q) = ⊥
Says src r reading.end = Ends src r
Says src r (reading.found x next) = Onward src r x next
Says src r (reading.refused n) = ⊥

-- all tokens that are left from a reader on
abbrev pub rest : List ℕ → Reader → List Token
rest src r = (list_from tables_1 src r.place.0 r.mode).tokens

-- none ahead
abbrev pub still : Reader → Ahead
still r = record { tokens = []; reader = r }

-- a token, and then what is ahead behind it
abbrev pub before : Token → Ahead → Ahead
before x a = record { tokens = x ∷ a.tokens; reader = a.reader }
