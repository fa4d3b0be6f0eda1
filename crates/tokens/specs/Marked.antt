-- The marked cases of document 01 that are proved, as one list with a single statement.
-- Each is computed by the definitions themselves. Assumes nothing.
use Rattle.std.specs.Prelude.{ℕ, List, [], ◌∷◌}
use Rattle.tokens.specs.declared.Mode.{Mode}
use Rattle.tokens.specs.declared.Mode.TheVariants.{Normal, HexPattern, HexJump}
use Rattle.tokens.specs.declared.Token.{Token}
use Rattle.tokens.specs.Tokens.{ascii}
use Rattle.tokens.specs.Scan.{token}

-- a source, the mode that it is opened in, its tokens, and the mode at its end
pub record Case : Type 0 where
  pub mode : Mode
  pub source : List ℕ
  pub tokens : List Token
  pub reached : Mode

abbrev pub case : Mode → List ℕ → List Token → Mode → Case
case m s ts m' = record { mode = m; source = s; tokens = ts; reached = m' }

unfoldable pub marked_cases : List Case
marked_cases =
    case Normal [] [] Normal
    ∷ case Normal (ascii "base64w") (token 72 0 7 ∷ []) Normal
    ∷ case Normal (ascii "base64wide") (token 7 0 10 ∷ []) Normal
    ∷ case Normal (ascii "1._") (token 73 0 3 ∷ []) Normal
    ∷ case Normal (ascii "1.") (token 74 0 1 ∷ token 54 1 2 ∷ []) Normal
    ∷ case Normal (ascii "0x_1") (token 74 0 1 ∷ token 72 1 4 ∷ []) Normal
    ∷ case Normal (ascii "\"\"\"") (token 75 0 2 ∷ token 82 2 3 ∷ []) Normal
    ∷ case Normal (ascii "\"a b") (token 82 0 2 ∷ token 78 2 3 ∷ token 72 3 4 ∷ []) Normal
    ∷ case Normal (ascii "!a=") (token 71 0 2 ∷ token 55 2 3 ∷ []) Normal
    ∷ case Normal (ascii "!=") (token 44 0 2 ∷ []) Normal
    ∷ case Normal (ascii "/a/isx") (token 76 0 5 ∷ token 72 5 6 ∷ []) Normal
    ∷ case Normal (0xFF ∷ 0x41 ∷ []) (token 81 0 1 ∷ token 72 1 2 ∷ []) Normal
    ∷ case Normal (0xE3 ∷ 0x80 ∷ 0x80 ∷ []) (token 82 0 1 ∷ token 81 1 2 ∷ token 81 2 3 ∷ []) Normal
    ∷ case Normal (0x61 ∷ 0xD9 ∷ 0xA3 ∷ []) (token 72 0 3 ∷ []) Normal
    ∷ case HexPattern (ascii "abc") (token 80 0 2 ∷ token 72 2 3 ∷ []) Normal
    ∷ case HexPattern (0x2F ∷ 0x2A ∷ 0xFF ∷ 0x2A ∷ 0x2F ∷ []) (token 77 0 5 ∷ []) Normal
    ∷ case HexJump (ascii "4]") (token 74 0 1 ∷ token 67 1 2 ∷ []) HexPattern
    ∷ []
