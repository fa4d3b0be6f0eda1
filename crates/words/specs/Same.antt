-- The laws by which a comparison of two texts of one length goes: the first i bytes are alike, and the rests decide.
-- Each law is one turn of `same`. Assumes nothing.
use Rattle.std.specs.Prelude.{ℕ, ◌+◌, ◌≤◌, ◌<◌, ◌≡◌, refl, true, false, List, get_or, drop}
use Rattle.std.proofs.Math.Path.{sym}
use Rattle.std.proofs.Common.{◌∙◌, add-one}
use native.Mathlib.Omega.{arith}
use Rattle.std.proofs.Math.ListN.{length, drop_of_length-le}
use Rattle.std.proofs.Math.Seq.{drop-cons}
use borrow.Author.Tests.{eq-eqb, ne_eqb}
use Rattle.words.specs.Keywords.{same}

pub record Alike (w t : List ℕ) (i : ℕ) : Type 0 where
  pub rest : same w t ≡ same (drop i w) (drop i t)

pub alike_start : {w t : List ℕ} → Alike w t 0
alike_start = record { rest = refl }

module _ {w t : List ℕ} {i : ℕ} (a : Alike w t i) (q : length w ≡ length t) where
  pub alike_done : length w ≤ i → true ≡ same w t
  unfolding same
  alike_done h = let g : length t ≤ i = omega arith in sym (a.rest ∙ rw (drop_of_length-le w h, drop_of_length-le t g))

  pub alike_no : i < length w → (get_or w i 0 ≡ get_or t i 0 → ⊥) → false ≡ same w t
  unfolding same
  alike_no h n = let g : i < length t = omega arith in sym (a.rest ∙ rw (drop-cons w i 0, drop-cons t i 0, ne_eqb (get_or w i 0) (get_or t i 0) n))

  pub alike_yes : i < length w → get_or w i 0 ≡ get_or t i 0 → Alike w t (i + 1)
  unfolding same
  alike_yes h e =
      let g : i < length t = omega arith in
      record { rest = a.rest ∙ rw (add-one, drop-cons w i 0, drop-cons t i 0, eq-eqb (get_or w i 0) (get_or t i 0) e) }
