-- Examples of what `list` answers and leaves (specs/Listed.antt). Assumes nothing.
use Rattle.std.specs.Prelude.{◌≡◌, refl}
use Rattle.refusals.specs.Calls.{reply}
use Rattle.tokens.specs.Tokens.{ascii}
use Rattle.listing_text.specs.Listed.{listed, refused, written}

-- Examples: the text at the front of what is lent, just room, and a byte too little.
in_place : listed (ascii "x=") (ascii "..........................") ≡ reply (written 23) (ascii "tokens 2\n72 0 1\n55 1 2\n...")
unfolding listed
in_place = refl

just_room : listed (ascii "x=") (ascii ".......................") ≡ reply (written 23) (ascii "tokens 2\n72 0 1\n55 1 2\n")
unfolding listed
just_room = refl

no_room : listed (ascii "x=") (ascii "......................") ≡ reply (refused 15) (ascii "......................")
unfolding listed
no_room = refl
