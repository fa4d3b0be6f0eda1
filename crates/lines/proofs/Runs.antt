-- Runs of bytes by the library's list functions: how many bytes of one class stand at the front, the number that digits there spell, the
-- place of a byte; and the first line of a text, with the lines behind it. By induction on the text. Assumes nothing.
use Rattle.std.specs.Prelude.{ℕ, suc, ◌+◌, ◌≤◌, ◌<◌, ◌≡◌, refl, Bool, true, false, not, cond, Option, Some, None, unwrap_or, List, [], ◌∷◌, length, get_or, take, drop, fold, eqb, ltb}
use Rattle.std.specs.List.{prefix_len, position, position_or_len}
use Rattle.std.proofs.Common.{ap, arith, ltb-false}
use Rattle.std.proofs.lemmas.List.Sums.{prefix_len-le-length}
use Rattle.std.proofs.lemmas.List.Recursion.{is_position_or_len}
use Rattle.patterns.specs.Utf8.{Class}
use Rattle.patterns.specs.Walk.{span}
use Rattle.tokens.specs.Tokens.{dec}
use Rattle.lines.specs.Decimals.{grown, number}
use Rattle.lines.specs.Hex.{hex_value, byte_of, pair}
use Rattle.lines.specs.Lines.{lf, other_than, next_byte}
use Rattle.lines.specs.Split.{onto_first, lines_of}

-- how many of a class stand at the front
pub prefix_is_span : (f : Class) (xs : List ℕ) → prefix_len f xs ≡ span f xs
unfolding span
prefix_is_span f [] = refl
prefix_is_span f (x ∷ xs) = go (f x) (prefix_is_span f xs)
  where
    go : (t : Bool) → prefix_len f xs ≡ span f xs → cond t (1 + prefix_len f xs) 0 ≡ cond t (suc (span f xs)) 0
    go true e = omega (arith, e)
    go false e = refl

-- the number that the digits at the front spell
pub digits_spell : (n : ℕ) (xs : List ℕ) → fold grown n (take (span dec xs) xs) ≡ number n xs
unfolding span number
digits_spell n [] = refl
digits_spell n (x ∷ xs) = go (dec x) (digits_spell (grown n x) xs)
  where
    go : (t : Bool) → fold grown (grown n x) (take (span dec xs) xs) ≡ number (grown n x) xs → fold grown n (take (cond t (suc (span dec xs)) 0) (x ∷ xs)) ≡ cond t (number (grown n x) xs) n
    go true e = e
    go false e = refl

-- the place of a byte, or the end
pub span_is_place : (b : ℕ) (xs : List ℕ) → span (other_than b) xs ≡ position_or_len (λ x. eqb x b) xs
unfolding span
span_is_place b = is_position_or_len (span (other_than b)) (λ x. eqb x b) refl (λ x xs. go (eqb x b) (span (other_than b) xs))
  where
    go : (t : Bool) (n : ℕ) → cond (not t) (suc n) 0 ≡ cond t 0 (1 + n)
    go true n = refl
    go false n = omega arith

pub place_or_end : (p : ℕ → Bool) (xs : List ℕ) {r : Option ℕ} → r ≡ position p xs → unwrap_or r (length xs) ≡ position_or_len p xs
place_or_end p xs e = rw e (go (ltb (position_or_len p xs) (length xs)) (λ f. ltb-false (position_or_len p xs) (length xs) f) (prefix_len-le-length (λ x. not (p x)) xs))
  where
    go : (t : Bool) → (t ≡ false → length xs ≤ position_or_len p xs) → position_or_len p xs ≤ length xs
        → unwrap_or (cond t (Some (position_or_len p xs)) None) (length xs) ≡ position_or_len p xs
    go true f l = refl
    go false f l = omega (arith, f refl, l)

-- the pair at the front
pub pair_front : (xs : List ℕ) → 2 ≤ length xs → pair xs ≡ byte_of (hex_value (get_or xs 0 0)) (hex_value (get_or xs 1 0))
unfolding pair
pair_front [] l = absurd (omega (arith, l))
pair_front (x ∷ []) l = absurd (omega (arith, l))
pair_front (x ∷ y ∷ xs) l = refl

-- no line, of no text
pub no_lines : (xs : List ℕ) → length xs ≡ 0 → lines_of xs ≡ []
unfolding lines_of
no_lines [] e = refl
no_lines (x ∷ xs) e = absurd (omega (arith, e))

-- the first line, and those behind it
pub lines_first : (xs : List ℕ) → 0 < length xs → lines_of xs ≡ take (span (other_than lf) xs) xs ∷ lines_of (drop (suc (span (other_than lf) xs)) xs)
unfolding span lines_of
lines_first [] l = absurd (omega (arith, l))
lines_first (x ∷ []) l = go (eqb x lf)
  where
    go : (t : Bool) → cond t ([] ∷ []) ((x ∷ []) ∷ []) ≡ take (cond (not t) 1 0) (x ∷ []) ∷ lines_of (drop (suc (cond (not t) 1 0)) (x ∷ []))
    go true = refl
    go false = refl
lines_first (x ∷ y ∷ ys) l = go (eqb x lf) (lines_first (y ∷ ys) (omega arith))
  where
    rest : List ℕ
    rest = y ∷ ys

    n : ℕ
    n = span (other_than lf) rest

    go : (t : Bool) → lines_of rest ≡ take n rest ∷ lines_of (drop (suc n) rest) → cond t ([] ∷ lines_of rest) (onto_first x (lines_of rest)) ≡ take (cond (not t) (suc n) 0) (x ∷ rest) ∷ lines_of (drop (suc (cond (not t) (suc n) 0)) (x ∷ rest))
    go true e = refl
    go false e = ap (onto_first x) e

pub lines_from : (xs : List ℕ) {n : ℕ} → n ≡ next_byte xs 0 lf → 0 < length xs → lines_of xs ≡ take n xs ∷ lines_of (drop (n + 1) xs)
lines_from xs {n = n} e l =
    let k : n ≡ span (other_than lf) xs = omega (arith, e) in
    let m : n + 1 ≡ suc (span (other_than lf) xs) = omega (arith, k) in
    rw (m, k) (lines_first xs l)
