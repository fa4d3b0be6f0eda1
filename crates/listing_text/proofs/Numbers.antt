-- The digits of a number: below ten the number itself, else those of its tenth part and then the last one. A number of turns above
-- the number is enough, and more change nothing. How long the texts are follows from there. Assumes nothing.
use Rattle.std.specs.Prelude.{ℕ, zero, suc, ◌+◌, ◌-◌, ◌*◌, ◌/◌, ◌%◌, ◌^◌, ◌≤◌, ◌<◌, ◌≡◌, refl, List, [], ◌∷◌, ◌++◌, length, drop, set, ltb, leb, map}
use Rattle.std.proofs.Common.{ap, sym, ◌∙◌, append_assoc, add-one, pow-suc, arith, length-append, ltb-true, ltb-false, lt-ltb, le-ltb, leb-true, leb-false, le-leb}
use Rattle.std.specs.List.{prefix_len}
use Rattle.std.proofs.lemmas.Bool.{lt-leb}
use Rattle.std.proofs.lemmas.List.{drop-set}
use Rattle.patterns.proofs.Bools.{by_test}
use Rattle.tokens.specs.declared.Token.{Token}
use Rattle.listing_text.specs.Listing.{digit, digits, decimal, space, lf, field, line, lines, head, text}

enough : (k j n : ℕ) → n < k → n < j → digits k n ≡ digits j n
unfolding digits
enough zero j n h g = absurd (omega arith)
enough (suc k) zero n h g = absurd (omega arith)
enough (suc k) (suc j) n h g = by_test (ltb n 10) (λ e. rw (digits, e)) (λ e. let l : 10 ≤ n = ltb-false n 10 e in rw (digits, e, enough k j (n / 10) (omega arith) (omega arith)))

pub decimal_one : (n : ℕ) → n < 10 → decimal n ≡ digit n ∷ []
unfolding decimal
decimal_one n h = rw (digits, lt-ltb n 10 h)

pub decimal_more : (n : ℕ) → 10 ≤ n → decimal n ≡ decimal (n / 10) ++ (digit (n % 10) ∷ [])
unfolding decimal
decimal_more n h = rw (digits, le-ltb n 10 h, enough n (suc (n / 10)) (n / 10) (omega arith) (omega arith))

-- Lengths.

pub length_one : (n : ℕ) → n < 10 → length (decimal n) ≡ 1
length_one n h = rw (decimal_one n h)

pub length_more : (n : ℕ) → 10 ≤ n → length (decimal n) ≡ length (decimal (n / 10)) + 1
length_more n h = rw (decimal_more n h) (length-append (decimal (n / 10)) (digit (n % 10) ∷ []))

-- where n is below 10 to the k + 1, it has at most k + 1 digits
pub decimal_short : (k n : ℕ) → n < 10 ^ suc k → length (decimal n) ≤ suc k
decimal_short zero n h = omega (arith, length_one n h)
decimal_short (suc k) n h =
    by_test (ltb n 10) (λ e. omega (arith, length_one n (ltb-true n 10 e)))
    (λ e. let p : 10 ^ suc (suc k) ≡ 10 ^ suc k * 10 = pow-suc 10 (suc k) in
    let l : n / 10 < 10 ^ suc k = omega arith in omega (arith, length_more n (ltb-false n 10 e), decimal_short k (n / 10) l))

pub decimal_some : (n : ℕ) → 0 < length (decimal n)
decimal_some n = by_test (ltb n 10) (λ e. omega (arith, length_one n (ltb-true n 10 e))) (λ e. omega (arith, length_more n (ltb-false n 10 e)))

-- as many places as a number has digits, filled from the last one on
abbrev pub places : ℕ → ℕ → List ℕ
places zero n = []
places (suc k) n = places k (n / 10) ++ (digit (n % 10) ∷ [])

pub places_all : (k n : ℕ) → k ≡ length (decimal n) → places k n ≡ decimal n
places_all zero n e = absurd (omega (arith, decimal_some n))
places_all (suc k) n e =
    by_test (ltb n 10)
    (λ t. let h : n < 10 = ltb-true n 10 t in
    let z : k ≡ zero = omega (arith, length_one n h) in
    let m : n % 10 ≡ n = omega arith in rw (z, m, decimal_one n h))
    (λ t. let h : 10 ≤ n = ltb-false n 10 t in rw (decimal_more n h, places_all k (n / 10) (omega (arith, length_more n h))))

-- where a number has more than one digit, its tenth part has one fewer
pub tenth_shorter : (i n : ℕ) → i ≡ length (decimal n) → 1 < i → i - 1 ≡ length (decimal (n / 10))
tenth_shorter i n e h =
    by_test (ltb n 10) (λ t. absurd (omega (arith, length_one n (ltb-true n 10 t))))
    (λ t. omega (arith, length_more n (ltb-false n 10 t)))

-- a number of one digit is below ten
pub one_below : (i n : ℕ) → i ≡ length (decimal n) → i ≤ 1 → n < 10
one_below i n e h =
    by_test (ltb n 10) (λ t. ltb-true n 10 t)
    (λ t. absurd (omega (arith, length_more n (ltb-false n 10 t), decimal_some (n / 10))))

-- and it is put as the first byte
pub first_put : (i n : ℕ) (out : List ℕ) → i ≡ length (decimal n) → i ≤ 1 → 0 < length out → set out 0 (digit n) ≡ places i n ++ drop i out
first_put i n [] e h p = absurd (omega arith)
first_put i n (b ∷ out) e h p =
    let z : i ≡ 1 = omega (arith, decimal_some n) in
    let m : n % 10 ≡ n = omega (arith, one_below i n e h) in rw (z, m) refl

-- a digit more is put in front of those that are
pub places_step : (i n : ℕ) (out : List ℕ) → 0 < i → i ≤ length out
    → places (i - 1) (n / 10) ++ drop (i - 1) (set out (i - 1) (digit (n % 10))) ≡ places i n ++ drop i out
places_step zero n out p h = absurd (omega arith)
places_step (suc k) n out p h =
    let e : suc k - 1 ≡ k = omega arith in
    rw (e, drop-set out k (digit (n % 10)) (omega arith), add-one k) (sym (append_assoc (places k (n / 10)) (digit (n % 10) ∷ []) (drop (suc k) out)))

-- where it is not below 10 to the k, it has more than k
decimal_long : (k n : ℕ) → 10 ^ k ≤ n → k < length (decimal n)
decimal_long zero n h = decimal_some n
decimal_long (suc k) n h =
    let p : 10 ^ suc k ≡ 10 ^ k * 10 = pow-suc 10 k in
    let q : 1 ≤ 10 ^ k = pow_pos k in
    let l : 10 ^ k ≤ n / 10 = omega arith in omega (arith, length_more n (omega arith), decimal_long k (n / 10) l)
  where
    pow_pos : (k : ℕ) → 1 ≤ 10 ^ k
    pow_pos zero = omega arith
    pow_pos (suc k) = omega (arith, pow-suc 10 k, pow_pos k)

pub decimal_length : (k n : ℕ) → 10 ^ k ≤ n → n < 10 ^ suc k → suc k ≡ length (decimal n)
decimal_length k n h l = omega (arith, decimal_long k n h, decimal_short k n l)

-- the first k powers of ten above 1; a number has one digit more than there are up to it
abbrev pub tens : ℕ → List ℕ
tens zero = []
tens (suc k) = 10 ∷ map (λ p. p * 10) (tens k)

tens_scaled : (n : ℕ) (ps : List ℕ) → prefix_len (λ p. leb p n) (map (λ p. p * 10) ps) ≡ prefix_len (λ p. leb p (n / 10)) ps
tens_scaled n [] = refl
tens_scaled n (p ∷ ps) = rw (scaled, tens_scaled n ps)
  where
    scaled : leb (p * 10) n ≡ leb p (n / 10)
    scaled =
        by_test (leb p (n / 10)) (λ e. le-leb (p * 10) n (omega (arith, leb-true p (n / 10) e)) ∙ sym e)
        (λ e. lt-leb (p * 10) n (omega (arith, leb-false p (n / 10) e)) ∙ sym e)

pub length_tens : (k n : ℕ) → n < 10 ^ suc k → length (decimal n) ≡ prefix_len (λ p. leb p n) (tens k) + 1
length_tens zero n h = length_one n h
length_tens (suc k) n h =
    by_test (ltb n 10) (λ e. let i : n < 10 = ltb-true n 10 e in rw (lt-leb 10 n i) (length_one n i))
    (λ e. let i : 10 ≤ n = ltb-false n 10 e in
    let p : 10 ^ suc (suc k) ≡ 10 ^ suc k * 10 = pow-suc 10 (suc k) in
    let l : n / 10 < 10 ^ suc k = omega arith in
    rw (le-leb 10 n i, tens_scaled n (tens k)) (omega (arith, length_more n i, length_tens k (n / 10) l)))

pub length_field : (n b : ℕ) → length (field n b) ≡ length (decimal n) + 1
unfolding field
length_field n b = length-append (decimal n) (b ∷ [])

pub length_line : (x : Token) → length (line x) ≡ length (decimal x.kind) + length (decimal x.start.0) + length (decimal x.end.0) + 3
unfolding line
length_line x =
    simp length-append (omega (arith, length_field x.kind space, length_field x.start.0 space, length_field x.end.0 lf))

pub length_head : (n : ℕ) → length (head n) ≡ length (decimal n) + 8
unfolding head
length_head n = omega (arith, length_field n lf)

pub head_least : (n : ℕ) → 9 ≤ length (head n)
head_least n = omega (arith, length_head n, decimal_some n)

pub length_lines : (x : Token) (xs : List Token) → length (lines (x ∷ xs)) ≡ length (line x) + length (lines xs)
unfolding lines
length_lines x xs = length-append (line x) (lines xs)

pub length_left : {left next : List Token} {x : Token} → left ≡ x ∷ next → length (lines left) ≡ length (line x) + length (lines next)
length_left {next = next} {x} e = ap (λ l. length (lines l)) e ∙ length_lines x next

-- the first line and then the others
pub text_parts : (xs : List Token) → text xs ≡ head (length xs) ++ lines xs
unfolding text
text_parts xs = refl

pub length_text : (xs : List Token) → length (text xs) ≡ length (head (length xs)) + length (lines xs)
length_text xs = rw (text_parts xs) (length-append (head (length xs)) (lines xs))
