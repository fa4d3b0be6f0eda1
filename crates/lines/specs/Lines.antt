-- A text of lines: where a byte comes next, as the LF that ends a line, and what a line asks for, which is its first letter and the
-- numbers behind its first three spaces. Assumes nothing.
use Rattle.std.specs.Prelude.{ℕ, suc, ◌+◌, Bool, not, List, get_or, drop, eqb}
use Rattle.patterns.specs.Walk.{span}
use Rattle.lines.specs.Decimals.{space, number}
use Rattle.lines.specs.declared.Asked.{Asked}

abbrev pub lf : ℕ
lf = 10

-- every byte but one
abbrev pub other_than : ℕ → ℕ → Bool
other_than b x = not (eqb x b)

-- The place of the next byte b from a place on: behind the run of other bytes there. Past the text there are none, and it is the place.
abbrev pub next_byte : List ℕ → ℕ → ℕ → ℕ
next_byte text from b = from + span (other_than b) (drop from text)

-- What stands behind the first space.
unfoldable pub behind_space : List ℕ → List ℕ
unfolding span
behind_space xs = drop (suc (span (other_than space) xs)) xs

-- What a line asks for.
unfoldable pub asked : List ℕ → Asked
unfolding behind_space number
asked xs =
    let a = behind_space xs in
    let b = behind_space a in
    record { letter = get_or xs 0 0; first = number 0 a; second = number 0 b; third = number 0 (behind_space b) }
