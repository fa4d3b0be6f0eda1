-- Of the spellings only those count that are as long as the word: by induction on the list, since texts of different lengths differ.
-- Assumes nothing.
use Rattle.std.specs.Prelude.{ℕ, suc, ◌≡◌, refl, Bool, true, false, cond, List, [], ◌∷◌, length, eqb}
use Rattle.std.proofs.Common.{sym, ap, ◌∙◌, true≢false}
use Rattle.std.proofs.Math.Bool.{and-false}
use Rattle.std.proofs.lemmas.Bool.{eqb-false}
use Rattle.patterns.proofs.Bools.{and_first, and_second}
use Rattle.patterns.specs.Lists.{each}
use Rattle.tokens.specs.Kinds.{IDENT}
use Rattle.tokens.specs.Tokens.{Spelling, words_1, one_of}
use Rattle.tokens.specs.NoneOf.{NoneOf}
use Rattle.tokens.proofs.NoneOf.{not_one}
use Rattle.words.specs.Keywords.{same, keyword_of}

-- the spellings of n bytes
unfoldable pub as_long : ℕ → List Spelling → List Spelling
as_long n [] = []
as_long n (x ∷ xs) = elim (eqb (length x.bytes) n) [ true ↦ x ∷ as_long n xs | false ↦ as_long n xs ]

pub same_differs : (w t : List ℕ) → (length w ≡ length t → ⊥) → false ≡ same w t
unfolding same
same_differs [] [] h = absurd (h refl)
same_differs [] (y ∷ t) h = refl
same_differs (x ∷ w) [] h = refl
same_differs (x ∷ w) (y ∷ t) h = rw (← same_differs w t (λ e. h (ap suc e))) (sym (and-false (eqb x y)))

by_length : (xs : List Spelling) (w : List ℕ) → keyword_of (as_long (length w) xs) w ≡ keyword_of xs w
unfolding keyword_of as_long
by_length [] w = refl
by_length (x ∷ xs) w = go (eqb (length x.bytes) (length w)) refl (by_length xs w)
  where
    go : (b : Bool) → eqb (length x.bytes) (length w) ≡ b → keyword_of (as_long (length w) xs) w ≡ keyword_of xs w
        → keyword_of (elim b [ true ↦ x ∷ as_long (length w) xs | false ↦ as_long (length w) xs ]) w ≡ cond (same w x.bytes) x.kind (keyword_of xs w)
    go true e h = rw h
    go false e h = rw (← same_differs w x.bytes (λ q. eqb-false (length x.bytes) (length w) e (sym q))) h

-- a word of n bytes
pub at_length : (w : List ℕ) (n : ℕ) {k : ℕ} → k ≡ keyword_of (as_long n words_1) w → length w ≡ n → k ≡ keyword_of words_1 w
at_length w n q e = q ∙ ap (λ (n : ℕ). keyword_of (as_long n words_1) w) (sym e) ∙ by_length words_1 w

-- the lengths of the keywords
abbrev lengths : List ℕ
lengths = 11 ∷ 10 ∷ 9 ∷ 8 ∷ 7 ∷ 6 ∷ 5 ∷ 4 ∷ 3 ∷ 2 ∷ []

all_lengths : each (λ (x : Spelling). one_of lengths (length x.bytes)) words_1 ≡ true
unfolding words_1
all_lengths = refl

other_length : (xs : List Spelling) (w : List ℕ) → each (λ (x : Spelling). one_of lengths (length x.bytes)) xs ≡ true → one_of lengths (length w) ≡ false → IDENT ≡ keyword_of xs w
unfolding keyword_of
other_length [] w e h = refl
other_length (x ∷ xs) w e h =
    let f : (Spelling → Bool) = λ x. one_of lengths (length x.bytes) in
    rw (← same_differs w x.bytes (λ q. true≢false (sym (and_first (f x) (each f xs) e) ∙ ap (one_of lengths) (sym q) ∙ h))) (other_length xs w (and_second (f x) (each f xs) e) h)

-- a word of any other length is none
pub no_keyword : (w : List ℕ) → NoneOf lengths (length w) → IDENT ≡ keyword_of words_1 w
no_keyword w h = other_length words_1 w all_lengths (not_one lengths (length w) h)
