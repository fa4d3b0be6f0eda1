-- Bytes in hexadecimal: two digits each, 0 to 9 and a to f. Assumes nothing.
use Rattle.std.specs.Prelude.{ℕ, zero, suc, ◌+◌, ◌-◌, ◌*◌, cond, ◌≡◌, Option, Some, None, List, [], ◌∷◌, ◌++◌, length, drop}
use Rattle.patterns.specs.Utf8.{between}
use Rattle.tokens.specs.Tokens.{dec}

-- The value of a digit, if the byte is one.
abbrev pub hex_value : ℕ → Option ℕ
hex_value b = cond (dec b) (Some (b - 48)) (cond (between 97 102 b) (Some (b - 97 + 10)) None)

-- The byte of two digits' values, and of the two digits at the front; nothing where one is missing.
abbrev pub byte_of : Option ℕ → Option ℕ → Option ℕ
byte_of None l = None
byte_of (Some h) None = None
byte_of (Some h) (Some l) = Some (h * 16 + l)

unfoldable pub pair : List ℕ → Option ℕ
pair [] = None
pair (h ∷ []) = None
pair (h ∷ l ∷ xs) = byte_of (hex_value h) (hex_value l)

-- a byte before others, if there is one
abbrev pub and_then : Option ℕ → List ℕ → List ℕ
and_then None bs = []
and_then (Some b) bs = b ∷ bs

-- The bytes at the front, up to n of them.
unfoldable pub decoded : ℕ → List ℕ → List ℕ
unfolding pair
decoded zero xs = []
decoded (suc n) xs = and_then (pair xs) (decoded n (drop 2 xs))

-- They stand at the front of a room, behind them the room is as it was; how many they are, and the place behind their digits.
pub record Decodes (text : List ℕ) (from : ℕ) (room after : List ℕ) (len end : ℕ) : Type 0 where
  pub counted : len ≡ length (decoded (length room) (drop from text))
  pub ended : end ≡ from + 2 * length (decoded (length room) (drop from text))
  pub filled : after ≡ decoded (length room) (drop from text) ++ drop (length (decoded (length room) (drop from text))) room
