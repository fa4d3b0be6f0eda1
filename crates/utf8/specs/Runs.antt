-- Runs of characters of one class, as a scanning loop meets them: a character of the class, one outside it, a broken one, the end.
-- A run goes on behind a character of the class as if it began there, since it may be empty. Assumes nothing.
use Rattle.std.specs.Prelude.{ℕ, ◌+◌, ◌≤◌, ◌<◌, ◌≡◌, Bool, true, false, List, [], ◌∷◌, length, get_or, drop, ltb, None}
use Rattle.std.proofs.Math.Path.{refl}
use Rattle.std.proofs.Common.{sym, ap, ◌∙◌, arith, length-drop, drop-cons}
use borrow.Author.Tests.{le-leb, lt-ltb, ltb-true, ltb-false}
use Rattle.patterns.specs.Utf8.{Class, Scalar, decode, encode, whole}
use Rattle.patterns.proofs.Bools.{by_test}
use Rattle.patterns.specs.Utf8Laws.{Encoded}
use Rattle.patterns.proofs.Utf8Laws.{decoded, decoded_size}
use Rattle.patterns.specs.Pattern.{Pat, char, star, plus, deriv, longest}
use Rattle.patterns.proofs.Walk.{start, over, onto, walk_char, char_in, char_out, char_broken}

-- characters of the class, perhaps none
abbrev pub run : Class → Pat
run f = star (char f)

-- where the run at i ends
abbrev pub run_end : Class → List ℕ → ℕ → ℕ
run_end f s i = i + longest (run f) (drop i s)

-- what is answered of each scalar value is whether it is in the class
abbrev pub Decided : Class → (ℕ → Bool → Type 0) → Type 0
Decided f answer = (v : ℕ) (r : Bool) → Scalar v → answer v r → r ≡ f v

-- with one character at least it is as long
pub plus_run : (f : Class) (s : List ℕ) → longest (run f) s ≡ longest (plus (char f)) s
unfolding deriv
plus_run f s = walk_char f (run f) (run f) s 0 0 refl ∙ sym (walk_char f (run f) (plus (char f)) s 0 0 refl)

module _ (f : Class) (s : List ℕ) (i : ℕ) where
  pub run_over : length s ≤ i → i ≡ run_end f s i
  run_over h = over (start (run f) s i) h

  pub run_broken : decode (drop i s) ≡ None → i ≡ run_end f s i
  unfolding deriv
  run_broken d = char_broken f (run f) (start (run f) s i) refl d

  module _ {v n : ℕ} (d : decode (drop i s) ≡ whole v n) where
    pub run_out : f v ≡ false → i ≡ run_end f s i
    unfolding deriv
    run_out e = char_out f (run f) (start (run f) s i) refl d e

    pub run_in : f v ≡ true → run_end f s (i + n) ≡ run_end f s i
    unfolding deriv
    run_in e = onto (char_in f (run f) (start (run f) s i) refl d e) refl

module _ (s : List ℕ) (i : ℕ) where
  -- a character takes bytes of the source
  pub char_within : {v n : ℕ} → decode (drop i s) ≡ whole v n → (1 ≤ n) × (i + n ≤ length s)
  char_within {v} {n} d = omega (arith, decoded_size (drop i s) v n d, length-drop i s)

module _ (s : List ℕ) (i : ℕ) (h : i < length s) where
  -- a byte below 0x80 is a character
  pub ascii : get_or s i 0 < 0x80 → decode (drop i s) ≡ whole (get_or s i 0) 1
  unfolding decode
  ascii l = rw (drop-cons s i 0, le-leb 0 (get_or s i 0) (omega arith), le-leb (get_or s i 0) 0x7F (omega arith))

  -- the same of a byte that was read as b, and widened to v
  pub ascii_read : {v b : ℕ} → b ≡ get_or s i 0 → b < 0x80 → v ≡ b → decode (drop i s) ≡ whole v 1
  ascii_read e l p = ascii (omega arith) ∙ ap (λ (v : ℕ). whole v 1) (sym (p ∙ e))

  -- any other byte begins a character beyond ASCII
  pub beyond : {v n : ℕ} → decode (drop i s) ≡ whole v n → 0x80 ≤ get_or s i 0 → 0x80 ≤ v
  beyond {v} {n} d l = by_test (ltb v 0x80) (λ t. absurd (one (ltb-true v 0x80 t) (decoded (drop i s) v n d))) (λ t. ltb-false v 0x80 t)
    where
      one : v < 0x80 → Encoded (drop i s) v n → ⊥
      one k e =
          let written : encode v ≡ v ∷ [] = rw (lt-ltb v 0x80 k) in
          let size : n ≡ 1 = e.size ∙ ap length written in
          let read : get_or s i 0 ∷ [] ≡ v ∷ [] = rw (size, drop-cons s i 0) at (e.bytes ∙ written) in
          let same : get_or s i 0 ≡ v = cc in
          omega arith
