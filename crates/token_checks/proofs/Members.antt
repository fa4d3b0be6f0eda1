-- The Unicode classes by their members: White_Space whole, and the first runs of Nd; and the order of the keywords. Each is computed by the
-- definition itself, over every value up to the last that is named. Assumes nothing.
use Rattle.std.specs.Prelude.{ℕ, ◌≡◌, refl, Bool, true, false, ◌&&◌, ◌||◌, List, [], ◌∷◌, eqb, ltb}
use Rattle.patterns.specs.Lists.{members}
use Rattle.tokens.specs.Unicode.{in_runs, digits_16, white}
use Rattle.tokens.specs.Tokens.{Spelling, ascii, words_1}
use Rattle.token_checks.specs.Members.{before, in_byte_order}

-- White_Space has 25 characters
white_space : members 0x3100 white
    ≡ 0x3000 ∷ 0x205F ∷ 0x202F ∷ 0x2029 ∷ 0x2028 ∷ 0x200A ∷ 0x2009 ∷ 0x2008 ∷ 0x2007 ∷ 0x2006 ∷ 0x2005 ∷ 0x2004 ∷ 0x2003 ∷
    0x2002 ∷ 0x2001 ∷ 0x2000 ∷ 0x1680 ∷ 0xA0 ∷ 0x85 ∷ 0x20 ∷ 0xD ∷ 0xC ∷ 0xB ∷ 0xA ∷ 0x9 ∷ []
unfolding members white
white_space = refl

-- a run has ten
nd_first : members 0x700 (in_runs digits_16)
    ≡ 0x6F9 ∷ 0x6F8 ∷ 0x6F7 ∷ 0x6F6 ∷ 0x6F5 ∷ 0x6F4 ∷ 0x6F3 ∷ 0x6F2 ∷ 0x6F1 ∷ 0x6F0 ∷
    0x669 ∷ 0x668 ∷ 0x667 ∷ 0x666 ∷ 0x665 ∷ 0x664 ∷ 0x663 ∷ 0x662 ∷ 0x661 ∷ 0x660 ∷ ascii "9876543210"
unfolding members digits_16
nd_first = refl

keywords_in_order : in_byte_order words_1 ≡ true
unfolding words_1 in_byte_order
keywords_in_order = refl
