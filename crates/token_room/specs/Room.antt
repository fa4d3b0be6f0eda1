-- The lent room: token i stands as kind, start, end in slot i mod W, W being the number of slots lent; what is not written stays.
-- Assumes nothing.
use Rattle.std.specs.Prelude.{ℕ, ◌+◌, ◌*◌, ◌/◌, ◌%◌, cond, List, [], ◌∷◌, length, get_or, leb}
use Rattle.std.proofs.lemmas.List.Edits.{sets}
use Rattle.rooms.specs.declared.Slot.{Slot}
use Rattle.tokens.specs.declared.Token.{Token}
use Rattle.tokens.specs.declared.TokenIndex.{TokenIndex}
use Rattle.tokens.specs.Scan.{token}

-- The numbers of a slot, from a token and back.
abbrev pub width : ℕ
width = 3

abbrev pub numbers : Token → List ℕ
numbers x = x.kind ∷ x.start.0 ∷ x.end.0 ∷ []

abbrev pub from_numbers : (ℕ → ℕ) → Token
from_numbers f = token (f 0) (f 1) (f 2)

-- W, by the room's length; numbers that are left over are in no slot
abbrev pub slots_in : ℕ → ℕ
slots_in len = len / width

abbrev pub slot_of : TokenIndex → ℕ → Slot
slot_of i w = record { 0 = i.0 % w }

unfoldable pub write_at : List ℕ → Slot → Token → List ℕ
write_at room s x = sets room (s.0 * width) (numbers x)

unfoldable pub read_at : List ℕ → Slot → Token
read_at room s = from_numbers (λ j. get_or room (s.0 * width + j) 0)

-- W may be 0: then nothing is written, and zeros are read
unfoldable pub write : List ℕ → TokenIndex → Token → List ℕ
unfolding write_at
write room i x = cond (leb 1 (slots_in (length room))) (write_at room (slot_of i (slots_in (length room))) x) room

unfoldable pub read : List ℕ → TokenIndex → Token
unfolding read_at
read room i = cond (leb 1 (slots_in (length room))) (read_at room (slot_of i (slots_in (length room)))) (token 0 0 0)

-- Tokens one after the other, from the index i on.
abbrev pub nth : ℕ → TokenIndex
nth n = record { 0 = n }

unfoldable pub write_all : List ℕ → ℕ → List Token → List ℕ
unfolding write
write_all room i [] = room
write_all room i (x ∷ xs) = write_all (write room (nth i) x) (i + 1) xs
