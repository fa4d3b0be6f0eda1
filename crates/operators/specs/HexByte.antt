-- Hex bytes: perhaps `~`, then two nibbles, a nibble being `?` or a hex digit. The laws go byte by byte (Walk's `Came`); past the end
-- the byte is taken as 0, which is no nibble. Assumes nothing.
use Rattle.std.specs.Prelude.{ℕ, ◌+◌, ◌<◌, ◌≡◌, Bool, false, ◌&&◌, List, length, get_or, drop}
use Rattle.std.proofs.Math.Path.{refl}
use Rattle.std.proofs.Common.{sym, ap, ◌∙◌, arith}
use Rattle.std.proofs.Math.Bool.{true}
use Rattle.std.proofs.lemmas.Bool.{false≢true}
use borrow.Author.Tests.{ne_eqb}
use Rattle.patterns.proofs.Bools.{and_first, and_second, by_test}
use Rattle.patterns.specs.Pattern.{Pat, byte, seq, deriv, longest}
use Rattle.patterns.specs.Walk.{Came}
use Rattle.patterns.proofs.Walk.{start, move, halt, swap, done}
use Rattle.tokens.specs.Tokens.{hex_or_mark, hex_byte}
use Rattle.places.specs.Signs.{Byte, inside}

-- One nibble.

nibble_inside : (s : List ℕ) (i : ℕ) → hex_or_mark (get_or s i 0) ≡ true → i < length s
nibble_inside s i e = inside {s = s} {i = i} (record { is = refl }) (λ z. false≢true (ap hex_or_mark (sym z) ∙ e))

-- Two nibbles, for any pattern that has come to them.

abbrev nibbles : Pat
nibbles = seq (byte hex_or_mark) (byte hex_or_mark)

abbrev both : List ℕ → ℕ → Bool
both s i = hex_or_mark (get_or s i 0) && hex_or_mark (get_or s (i + 1) 0)

module _ {p : Pat} {s : List ℕ} {at i b : ℕ} (c : Came p s at nibbles i b) where
  second : hex_or_mark (get_or s i 0) ≡ true → Came p s at (byte hex_or_mark) (i + 1) b
  unfolding deriv
  second e = move c refl (nibble_inside s i e) (rw e)

  there : both s i ≡ true → i + 2 ≡ at + longest p (drop at s)
  unfolding deriv
  there e =
      let f : hex_or_mark (get_or s i 0) ≡ true = and_first (hex_or_mark (get_or s i 0)) (hex_or_mark (get_or s (i + 1) 0)) e in
      let g : hex_or_mark (get_or s (i + 1) 0) ≡ true = and_second (hex_or_mark (get_or s i 0)) (hex_or_mark (get_or s (i + 1) 0)) e in
      omega (arith, done (move (second f) refl (nibble_inside s (i + 1) g) (rw g)))

  not_there : both s i ≡ false → b ≡ at + longest p (drop at s)
  unfolding deriv
  not_there e = by_test (hex_or_mark (get_or s i 0)) (λ f. halt (second f) (λ h. rw (rw f at e))) (λ f. halt c (λ h. rw f))

-- whether two nibbles stand at the place i
pub record Nibbles (s : List ℕ) (i : ℕ) (r : Bool) : Type 0 where
  pub is : r ≡ both s i

pub nibbles_inside : {s : List ℕ} {i : ℕ} {r : Bool} → Nibbles s i r → r ≡ true → i < length s
nibbles_inside {s} {i} n p = nibble_inside s i (and_first (hex_or_mark (get_or s i 0)) (hex_or_mark (get_or s (i + 1) 0)) (sym n.is ∙ p))

-- told by the first byte, and then by the second
module _ {s : List ℕ} {i a : ℕ} {t : Bool} (r : Byte s i a) (e : t ≡ hex_or_mark a) where
  pub first_inside : t ≡ true → i < length s
  first_inside p = nibble_inside s i (rw (← r.is) (sym e ∙ p))

  pub by_second : {b : ℕ} {u : Bool} → t ≡ true → Byte s (i + 1) b → u ≡ hex_or_mark b → Nibbles s i u
  by_second p n f = record { is = f ∙ rw (← r.is, ← n.is, ← e, p) }

  pub by_first : t ≡ false → Nibbles s i false
  by_first p = record { is = rw (← r.is, ← e, p) }

-- A hex byte at a place: the byte there is `~`, or it is not.
module _ {s : List ℕ} {at a : ℕ} (r : Byte s at a) {t : Bool} where
  module _ (e : a ≡ 126) (n : Nibbles s (at + 1) t) where
    behind : Came hex_byte s at nibbles (at + 1) at
    unfolding deriv
    behind = move (start hex_byte s at) refl (inside r (λ z. omega arith)) (rw (← r.is, e))

    pub tilde_yes : t ≡ true → at + 3 ≡ at + longest hex_byte (drop at s)
    tilde_yes p = omega (arith, there behind (sym n.is ∙ p))

    pub tilde_no : t ≡ false → at ≡ at + longest hex_byte (drop at s)
    tilde_no p = not_there behind (sym n.is ∙ p)

  module _ (e : a ≡ 126 → ⊥) (n : Nibbles s at t) where
    alone : Came hex_byte s at nibbles at at
    unfolding deriv
    alone = swap (start hex_byte s at) nibbles refl (λ h. rw (← r.is, ne_eqb a 126 e))

    pub plain_yes : t ≡ true → at + 2 ≡ at + longest hex_byte (drop at s)
    plain_yes p = there alone (sym n.is ∙ p)

    pub plain_no : t ≡ false → at ≡ at + longest hex_byte (drop at s)
    plain_no p = not_there alone (sym n.is ∙ p)
