-- UTF-8 as the Unicode Standard has it: which bytes are one character (Table 3-7), and how a scalar value is written (Table 3-6).
-- Assumes nothing.
use Rattle.std.specs.Prelude.{ℕ, zero, suc, ◌+◌, ◌*◌, ◌-◌, ◌/◌, ◌%◌, ◌≤◌, ◌<◌, Bool, cond, ◌&&◌, ◌⊎◌, List, [], ◌∷◌, leb, ltb, Option, Some, None}
use Rattle.patterns.specs.declared.Char.{Char}
use Rattle.patterns.specs.declared.Lead.{Lead}
use Rattle.patterns.specs.declared.Lead.TheVariants.{Alone, More, Bad}

-- a class of bytes, or of scalar values
abbrev pub Class : Type 0
Class = ℕ → Bool

abbrev pub between : ℕ → ℕ → Class
between low high v = leb low v && leb v high

-- Table 3-7, a line for each of its rows: the first byte, the second, how many more.
unfoldable pub lead : ℕ → Lead
lead b =
    cond (between 0x00 0x7F b) Alone
    (cond (between 0xC2 0xDF b) (More 0x80 0xBF 0 (b - 0xC0))
    (cond (between 0xE0 0xE0 b) (More 0xA0 0xBF 1 (b - 0xE0))
    (cond (between 0xE1 0xEC b) (More 0x80 0xBF 1 (b - 0xE0))
    (cond (between 0xED 0xED b) (More 0x80 0x9F 1 (b - 0xE0))
    (cond (between 0xEE 0xEF b) (More 0x80 0xBF 1 (b - 0xE0))
    (cond (between 0xF0 0xF0 b) (More 0x90 0xBF 2 (b - 0xF0))
    (cond (between 0xF1 0xF3 b) (More 0x80 0xBF 2 (b - 0xF0))
    (cond (between 0xF4 0xF4 b) (More 0x80 0x8F 2 (b - 0xF0))
    Bad))))))))

-- six more bits
abbrev pub join : ℕ → ℕ → ℕ
join bits b = bits * 64 + (b - 0x80)

-- one well-formed character, of the scalar value v, in n bytes
abbrev pub whole : ℕ → ℕ → Option Char
whole v n = Some (record { value = v; len = n })

-- the same character with one byte more in front
abbrev pub longer : Option Char → Option Char
longer (Some c) = whole c.value (suc c.len)
longer None = None

-- the rest of a character: a byte in low..high, and k more
unfoldable pub finish : ℕ → ℕ → ℕ → ℕ → List ℕ → Option Char
finish low high k bits [] = None
finish low high zero bits (b ∷ bs) = cond (between low high b) (whole (join bits b) 1) None
finish low high (suc k) bits (b ∷ bs) = cond (between low high b) (longer (finish 0x80 0xBF k (join bits b) bs)) None

unfoldable pub after_lead : ℕ → Lead → List ℕ → Option Char
unfolding finish
after_lead b Alone bs = whole b 1
after_lead b (More low high k bits) bs = longer (finish low high k bits bs)
after_lead b Bad bs = None

unfoldable pub decode : List ℕ → Option Char
unfolding lead after_lead
decode [] = None
decode (b ∷ bs) = after_lead b (lead b) bs

-- A scalar value: at most 10FFFF, and no surrogate.
abbrev pub Scalar : ℕ → Type 0
Scalar v = (v < 0xD800) ⊎ ((0xE000 ≤ v) × (v < 0x110000))

-- a byte in 80..BF with the value's last six bits
abbrev pub trail : ℕ → ℕ
trail v = 0x80 + v % 64

-- Table 3-6, row by row
abbrev pub encode : ℕ → List ℕ
encode v =
    cond (ltb v 0x80) (v ∷ [])
    (cond (ltb v 0x800) ((0xC0 + v / 64) ∷ trail v ∷ [])
    (cond (ltb v 0x10000) ((0xE0 + v / 64 / 64) ∷ trail (v / 64) ∷ trail v ∷ [])
    ((0xF0 + v / 64 / 64 / 64) ∷ trail (v / 64 / 64) ∷ trail (v / 64) ∷ trail v ∷ [])))
