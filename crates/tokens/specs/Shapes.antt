-- The numbers as src/tokenizer/mod.rs writes them match exactly the texts of the shapes in Tokens.antt: both are a digit and then
-- digits and underscores in any order, which the Rust cuts into groups that each begin with a digit. Assumes nothing.
use Rattle.std.specs.Prelude.{[], ◌∷◌}
use Rattle.patterns.specs.Utf8.{Class}
use Rattle.patterns.specs.Pattern.{Pat, byte, seq, alt, star, plus, optional, row}
use Rattle.tokens.specs.Tokens.{dec, oct, hex, underscore, or_underscore, text, is}

-- [0-9]+_* and likewise for the other digits
abbrev pub group : Class → Pat
group p = seq (plus (byte p)) (star (byte underscore))

-- ([0-9]+_*)+
abbrev pub rust_number : Class → Pat
rust_number p = plus (group p)

-- ([0-9]+_*)+ \. ([0-9_]+_*)+
abbrev pub rust_float : Pat
rust_float = row (rust_number dec ∷ is "." ∷ rust_number (or_underscore dec) ∷ [])

-- 0x([a-fA-F0-9]+_*)+ | 0o([0-7]+_*)+ | ([0-9]+_*)+(KB|MB)?
abbrev pub rust_integer : Pat
rust_integer = alt (row (text "0x" ∷ rust_number hex ∷ [])) (alt (row (text "0o" ∷ rust_number oct ∷ [])) (row (rust_number dec ∷ optional (alt (text "KB") (text "MB")) ∷ [])))

-- Texts and rows of texts.
