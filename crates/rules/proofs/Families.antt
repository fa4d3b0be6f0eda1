-- What is left of a mode's rules at a first byte: a short list for each family of bytes, in the order of the rules. Each line is
-- computed; `suffice` carries it to a place of a source. Assumes nothing.
use Rattle.std.specs.Prelude.{ℕ, ◌≡◌, true, false, List, [], ◌∷◌, map, drop}
use Rattle.std.proofs.Math.Path.{refl}
use Rattle.std.proofs.Common.{sym, ap, ◌∙◌}
use borrow.Author.Tests.{ne_eqb}
use Rattle.tokens.specs.declared.Mode.{Mode}
use Rattle.tokens.specs.declared.Mode.TheVariants.{Normal, HexPattern, HexJump}
use Rattle.tokens.specs.Kinds.{IDENT, FLOAT_LIT, INTEGER_LIT, WHITESPACE, NEWLINE, HEX_BYTE}
use Rattle.tokens.specs.Tokens.{Rule, rule, spelled, tables_1, words_1, operators, dec, word_start, hex_byte, pattern_operators, jump_integer, jump_operators}
use Rattle.tokens.specs.Scan.{best, rules}
use Rattle.rules.specs.First.{only, spacing, hex_start, kinds_of, first_kinds, First}
use Rattle.rules.proofs.First.{by_first}
use Rattle.rules.specs.Families.{Suffice, number_rules, spacing_rules, word_rules}

module _ {s : List ℕ} {at b : ℕ} (p : First s at b) where
  suffice : (m : Mode) (ks : List ℕ) (rs : List Rule) → only ks (rules tables_1 m) ≡ rs → first_kinds m b ≡ ks → Suffice m s at rs
  suffice m ks rs e f = sym (by_first m p ∙ ap (λ (ks : List ℕ). best (only ks (rules tables_1 m)) (drop at s)) f ∙ ap (λ (rs : List Rule). best rs (drop at s)) e)

  -- one byte
  pub exact : (m : Mode) (x : ℕ) (rs : List Rule) → only (first_kinds m x) (rules tables_1 m) ≡ rs → b ≡ x → Suffice m s at rs
  exact m x rs e f = suffice m (first_kinds m x) rs e (ap (first_kinds m) f)

  -- blanks and newlines, in every mode
  pub at_spacing : (m : Mode) → spacing b ≡ true → Suffice m s at spacing_rules
  unfolding rules first_kinds
  at_spacing Normal e = suffice Normal (WHITESPACE ∷ NEWLINE ∷ []) spacing_rules refl (rw e)
  at_spacing HexPattern e = suffice HexPattern (WHITESPACE ∷ NEWLINE ∷ []) spacing_rules refl (rw e)
  at_spacing HexJump e = suffice HexJump (WHITESPACE ∷ NEWLINE ∷ []) spacing_rules refl (rw e)

  module _ (f : spacing b ≡ false) where
    -- pattern mode
    pub at_hex : hex_start b ≡ true → Suffice HexPattern s at (rule HEX_BYTE hex_byte ∷ [])
    unfolding rules first_kinds
    at_hex e = suffice HexPattern (HEX_BYTE ∷ []) (rule HEX_BYTE hex_byte ∷ []) refl (rw (f, e))

    pub at_pattern_operator : hex_start b ≡ false → (b ≡ 47 → ⊥) → Suffice HexPattern s at (map spelled pattern_operators)
    unfolding rules first_kinds
    at_pattern_operator e n = suffice HexPattern (kinds_of pattern_operators) (map spelled pattern_operators) refl (rw (f, e, ne_eqb b 47 n))

    -- jump mode
    pub at_jump_integer : dec b ≡ true → Suffice HexJump s at (rule INTEGER_LIT jump_integer ∷ [])
    unfolding rules first_kinds
    at_jump_integer e = suffice HexJump (INTEGER_LIT ∷ []) (rule INTEGER_LIT jump_integer ∷ []) refl (rw (f, e))

    pub at_jump_operator : dec b ≡ false → Suffice HexJump s at (map spelled jump_operators)
    unfolding rules first_kinds
    at_jump_operator e = suffice HexJump (kinds_of jump_operators) (map spelled jump_operators) refl (rw (f, e))

    -- normal mode
    pub at_word : word_start b ≡ true → Suffice Normal s at word_rules
    unfolding rules first_kinds
    at_word e = suffice Normal (IDENT ∷ kinds_of words_1) word_rules refl (rw (f, e))

    module _ (g : word_start b ≡ false) where
      pub at_number : dec b ≡ true → Suffice Normal s at number_rules
      unfolding rules first_kinds
      at_number e = suffice Normal (FLOAT_LIT ∷ INTEGER_LIT ∷ []) number_rules refl (rw (f, g, e))

      pub at_operator : dec b ≡ false → (b ≡ 34 → ⊥) → (b ≡ 47 → ⊥) → (b ≡ 36 → ⊥) → (b ≡ 35 → ⊥) → (b ≡ 64 → ⊥)
          → (b ≡ 33 → ⊥) → Suffice Normal s at (map spelled operators)
      unfolding rules first_kinds
      at_operator e h i j k l n =
          suffice Normal (kinds_of operators) (map spelled operators) refl
          (rw (
            f,
            g,
            e,
            ne_eqb b 34 h,
            ne_eqb b 47 i,
            ne_eqb b 36 j,
            ne_eqb b 35 k,
            ne_eqb b 64 l,
            ne_eqb b 33 n,
          ))
