-- The values of digits by the tests of the definitions, and the pair at a place: one look at the front of the rest.
-- Assumes nothing.
use Rattle.std.specs.Prelude.{ℕ, suc, ◌+◌, ◌-◌, ◌*◌, ◌≤◌, ◌<◌, ◌≡◌, refl, true, false, Option, Some, None, List, [], ◌∷◌, length, get_or, drop, leb}
use Rattle.std.proofs.Common.{sym, ◌∙◌, arith, length-drop, drop-cons, leb-true, leb-false}
use Rattle.std.proofs.lemmas.Option.{none-some}
use Rattle.patterns.proofs.Bools.{by_test}
use Rattle.patterns.specs.Utf8.{between}
use Rattle.tokens.specs.Tokens.{dec}
use Rattle.lines.specs.Hex.{hex_value, byte_of, pair}

-- the values of digits, by the tests of the definitions
module _ (b : ℕ) where
  pub value_dec : dec b ≡ true → Some (b - 48) ≡ hex_value b
  value_dec e = rw e

  pub value_letter : dec b ≡ false → between 97 102 b ≡ true → Some (b - 97 + 10) ≡ hex_value b
  value_letter e f = rw (e, f)

  pub value_none : dec b ≡ false → between 97 102 b ≡ false → None ≡ hex_value b
  value_none e f = rw (e, f)

module _ (h l : ℕ) where
  pub byte_there : Some (h * 16 + l) ≡ byte_of (Some h) (Some l)
  byte_there = refl

pub no_high : (l : Option ℕ) → None ≡ byte_of None l
no_high l = refl

pub no_low : (h : Option ℕ) → None ≡ byte_of h None
no_low None = refl
no_low (Some h) = refl

-- the pair at a place
pub pair_there : (text : List ℕ) (at : ℕ) {h l v : Option ℕ} → at + 2 ≤ length text → h ≡ hex_value (get_or text at 0) → l ≡ hex_value (get_or text (at + 1) 0)
    → v ≡ byte_of h l → v ≡ pair (drop at text)
unfolding pair
pair_there text at b eh el ev =
    let e : suc at ≡ at + 1 = omega arith in
    rw (ev, eh, el, drop-cons text at 0 (omega arith)) (rw (e, drop-cons text (at + 1) 0 (omega arith)))

pub pair_none : (text : List ℕ) (at : ℕ) → length text < at + 2 → None ≡ pair (drop at text)
unfolding pair
pair_none text at h = go (drop at text) (length-drop at text)
  where
    go : (xs : List ℕ) → length xs ≡ length text - at → None ≡ pair xs
    go [] e = refl
    go (x ∷ []) e = refl
    go (x ∷ y ∷ xs) e = absurd (omega (arith, e))

pub pair_inside : (text : List ℕ) (at : ℕ) {v : ℕ} → Some v ≡ pair (drop at text) → at + 2 ≤ length text
pair_inside text at h =
    by_test (leb (at + 2) (length text)) (λ e. leb-true (at + 2) (length text) e)
    (λ e. absurd (none-some _ (pair_none text at (leb-false (at + 2) (length text) e) ∙ sym h)))
