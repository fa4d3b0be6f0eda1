-- The turns of a walk over a word tail: a byte below 0x80 by its own test, any other character by the table of digits. Among the bytes
-- below 0x80 only 0 to 9 are digits, which is computed, and no letter is beyond them. Assumes nothing.
use Rattle.std.specs.Prelude.{ℕ, ◌+◌, ◌≤◌, ◌<◌, ◌≡◌, refl, true, false, ◌||◌, List, length, eqb, get_or, drop}
use Rattle.std.specs.Char.{is_ascii_alphanumeric}
use Rattle.std.proofs.Common.{◌∙◌, arith, le-leb, ne_eqb}
use Rattle.std.proofs.lemmas.Bool.{lt-leb}
use Rattle.patterns.specs.Utf8.{Class, decode, whole}
use Rattle.utf8.specs.Ranges.{same_at}
use Rattle.utf8.specs.Runs.{run_end, run_in, run_out, ascii, beyond}
use Rattle.tokens.specs.Unicode.{in_runs, digits_16}
use Rattle.tokens.specs.Tokens.{word_start, word_part, dec}

-- a part of a word that is one byte
abbrev pub word_byte : Class
word_byte b = word_start b || dec b

byte_part : (b : ℕ) → b < 0x80 → word_part digits_16 b ≡ word_byte b
unfolding digits_16
byte_part b h = same_at (word_part digits_16) word_byte 0 0x7F b refl (omega arith) (omega arith)

-- what `is_part` tests in ASCII is word_part, which is computed
pub ascii_part : (b : ℕ) → b < 0x80 → (is_ascii_alphanumeric b || eqb b 95) ≡ word_part digits_16 b
unfolding digits_16
ascii_part b h = same_at (λ b. is_ascii_alphanumeric b || eqb b 95) (word_part digits_16) 0 0x7F b refl (omega arith) (omega arith)

beyond_part : (v : ℕ) → 0x80 ≤ v → word_part digits_16 v ≡ in_runs digits_16 v
beyond_part v h =
    rw (le-leb 65 v (omega arith), lt-leb v 90 (omega arith), le-leb 97 v (omega arith), lt-leb v 122 (omega arith), ne_eqb v 95 (omega arith))

-- where the tail at i ends
abbrev pub tail_end : List ℕ → ℕ → ℕ
tail_end = run_end (word_part digits_16)

module _ (s : List ℕ) (i : ℕ) (h : i < length s) where
  module _ (l : get_or s i 0 < 0x80) where
    pub byte_in : word_byte (get_or s i 0) ≡ true → tail_end s (i + 1) ≡ tail_end s i
    byte_in e = run_in (word_part digits_16) s i (ascii s i h l) (byte_part (get_or s i 0) l ∙ e)

    pub byte_out : word_byte (get_or s i 0) ≡ false → i ≡ tail_end s i
    byte_out e = run_out (word_part digits_16) s i (ascii s i h l) (byte_part (get_or s i 0) l ∙ e)

  module _ (l : 0x80 ≤ get_or s i 0) {v n : ℕ} (d : decode (drop i s) ≡ whole v n) where
    pub digit_in : in_runs digits_16 v ≡ true → tail_end s (i + n) ≡ tail_end s i
    digit_in e = run_in (word_part digits_16) s i d (beyond_part v (beyond s i h d l) ∙ e)

    pub digit_out : in_runs digits_16 v ≡ false → i ≡ tail_end s i
    digit_out e = run_out (word_part digits_16) s i d (beyond_part v (beyond s i h d l) ∙ e)
