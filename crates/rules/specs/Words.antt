-- Whether a word of list 1 is a text of IDENT as a whole. Assumes nothing.
use Rattle.std.specs.Prelude.{Bool, ◌&&◌, length, leb, eqb}
use Rattle.patterns.specs.Pattern.{walk, longest}
use Rattle.tokens.specs.Unicode.{digits_16}
use Rattle.tokens.specs.Tokens.{Spelling, identifier}

unfoldable pub whole_word : Spelling → Bool
unfolding digits_16 walk
whole_word w = leb 1 (length w.bytes) && eqb (longest (identifier digits_16) w.bytes) (length w.bytes)
