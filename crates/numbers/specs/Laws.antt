-- How the parts make up integers and floats: a prefix leaves the digits of its base; decimal digits leave a suffix or a fraction. Each
-- residual is computed at a fixed byte, or follows from the classes that it does not begin with. Assumes nothing.
use Rattle.std.specs.Prelude.{ℕ, suc, cond, ◌+◌, ◌<◌, ◌≤◌, ◌≡◌, Bool, false, ◌||◌, ◌&&◌, List, [], ◌∷◌, ◌⊎◌, get_or, drop}
use Rattle.std.specs.List.{prefix_len, take_while}
use Rattle.std.proofs.lemmas.List.Folds.{length-prefix_len}
use Rattle.std.proofs.Math.Path.{refl}
use Rattle.std.proofs.Common.{sym, ap, ◌∙◌, true≢false, arith, ne_eqb, eqb-true}
use Rattle.std.proofs.Math.Bool.{true, or-false}
use Rattle.std.proofs.Math.Logic.{⊎_elim}
use Rattle.std.proofs.Math.ListN.{length}
use Rattle.std.proofs.Math.Dec.{eqb}
use Rattle.patterns.specs.Utf8.{Class}
use Rattle.patterns.specs.Pattern.{Pat, nothing, byte, seq, alt, star, plus, is_nothing, nullable, deriv, walk, longest}
use Rattle.patterns.proofs.Bools.{by_test}
use Rattle.patterns.specs.Walk.{Came, span}
use Rattle.patterns.proofs.Walk.{start, halt, swap, done, both}
use Rattle.tokens.specs.Tokens.{ascii, one_of, dec, or_underscore, float}
use Rattle.numbers.specs.declared.Base.{Base}
use Rattle.numbers.specs.declared.Base.TheVariants.{Octal, Decimal, Hex}
use Rattle.numbers.specs.Parts.{digit, run, digits, base_by, base_at, suffix, fraction, integer_tail, jump_tail, any_base}
use Rattle.numbers.specs.Onward.{inside, accept, present, absent, plus_end, plus_none}

-- What tests come to that are taken one after the other.

pub or_here : {r x : Bool} (y : Bool) → r ≡ x → r ≡ true → r ≡ (x || y)
or_here y e h = h ∙ sym (ap (λ (x : Bool). x || y) (sym e ∙ h))

pub or_there : {r x q y : Bool} → r ≡ x → r ≡ false → q ≡ y → q ≡ (x || y)
or_there {y} e h g = g ∙ sym (ap (λ (x : Bool). x || y) (sym e ∙ h))

pub and_here : {x : Bool} (y : Bool) → x ≡ false → x ≡ (x && y)
and_here y h = rw h

pub and_there : {x : Bool} (y : Bool) → x ≡ true → y ≡ (x && y)
and_there y h = rw h

pub run_is : (base : Base) (t : Bool) (x : ℕ) → (digit base x || (t && eqb x 95)) ≡ run base t x
unfolding run
run_is base true x = refl
run_is base false x = or-false (digit base x)

-- as many bytes as are taken while they stand in the run
span_is : (f : Class) (xs : List ℕ) → prefix_len f xs ≡ span f xs
unfolding span
span_is f [] = refl
span_is f (x ∷ xs) = go (f x) (span_is f xs)
  where
    go : (t : Bool) {n m : ℕ} → n ≡ m → cond t (1 + n) 0 ≡ cond t (suc m) 0
    go true e = omega arith
    go false e = refl

pub run_counted : (f : Class) (xs : List ℕ) → length (take_while f xs) ≡ span f xs
run_counted f xs = length-prefix_len f xs ∙ span_is f xs

-- Suffixes and fractions.

-- a byte of a class is none that is not
apart : (f : Class) (x n : ℕ) → f x ≡ true → f n ≡ false → eqb x n ≡ false
apart f x n h k = ne_eqb x n (λ e. true≢false (sym h ∙ ap f e ∙ k))

pub suffix_apart : (x : ℕ) → or_underscore dec x ≡ true → deriv x suffix ≡ nothing
unfolding deriv
suffix_apart x h = simp (apart (or_underscore dec) x 75 h refl, apart (or_underscore dec) x 77 h refl)

pub fraction_apart : (x : ℕ) → or_underscore dec x ≡ true → deriv x fraction ≡ nothing
unfolding deriv
fraction_apart x h = simp (apart (or_underscore dec) x 46 h refl)

-- what is left of a suffix after its first letter
abbrev pub last : Pat
last = byte (λ x. eqb x 66)

module _ (s : List ℕ) (at : ℕ) where
  pub suffix_none : eqb (get_or s at 0) 75 ≡ false → eqb (get_or s at 0) 77 ≡ false → at ≡ at + longest suffix (drop at s)
  unfolding deriv
  suffix_none e f = halt (start suffix s at) (λ l. simp (e, f))

  pub suffix_first : (eqb (get_or s at 0) 75 ≡ true) ⊎ (eqb (get_or s at 0) 77 ≡ true) → (at < length s) × Came suffix s at last (at + 1) at
  unfolding deriv
  suffix_first = ⊎_elim (by 75 (omega arith) refl) (by 77 (omega arith) refl)
    where
      by : (n : ℕ) → 0 < n → deriv n suffix ≡ last → eqb (get_or s at 0) n ≡ true → (at < length s) × Came suffix s at last (at + 1) at
      by n l d e = (inside s at n e l, accept (start suffix s at) n l e d)

  module _ (c : Came suffix s at last (at + 1) at) where
    pub suffix_broken : eqb (get_or s (at + 1) 0) 66 ≡ false → at ≡ at + longest suffix (drop at s)
    unfolding deriv
    suffix_broken e = halt c (λ l. simp e)

    pub suffix_both : eqb (get_or s (at + 1) 0) 66 ≡ true → at + 1 + 1 ≡ at + longest suffix (drop at s)
    unfolding deriv
    suffix_both e = done (accept c 66 (omega arith) e refl)

module _ (s : List ℕ) (at b : ℕ) where
  abbrev dot : Class
  dot = one_of (ascii ".")

  abbrev decimals : Class
  decimals = or_underscore dec

  pub fraction_none : eqb (get_or s at 0) 46 ≡ false → b ≡ walk fraction (drop at s) at b
  fraction_none e = absent dot (plus (byte decimals)) s at b (λ l. or-false (eqb (get_or s at 0) 46) ∙ e)

  module _ {e : ℕ} (d : eqb (get_or s at 0) 46 ≡ true) (h : e ≡ at + 1 + span decimals (drop (at + 1) s)) where
    past_dot : walk fraction (drop at s) at b ≡ walk (plus (byte decimals)) (drop (at + 1) s) (at + 1) b
    past_dot = present dot (plus (byte decimals)) s at b (inside s at 46 d (omega arith)) (or-false (eqb (get_or s at 0) 46) ∙ d)

    pub fraction_bare : e ≤ at + 1 → b ≡ walk fraction (drop at s) at b
    fraction_bare l = plus_none decimals s (at + 1) b h l ∙ sym past_dot

    pub fraction_end : at + 1 < e → e ≡ walk fraction (drop at s) at b
    fraction_end l = plus_end decimals s (at + 1) b h l ∙ sym past_dot

-- Prefixes.

pub base_is : (s : List ℕ) (at : ℕ) {t u v : Bool} → eqb (get_or s at 0) 48 ≡ t → eqb (get_or s (at + 1) 0) 120 ≡ u → eqb (get_or s (at + 1) 0) 111 ≡ v
    → base_by t u v ≡ base_at s at
unfolding base_at
base_is s at e f g = rw (e, f, g)

-- at `at` stands a 0, and behind it x
record Prefix (s : List ℕ) (at x : ℕ) : Type 0 where
  zero : eqb (get_or s at 0) 48 ≡ true
  letter : eqb (get_or s (at + 1) 0) x ≡ true

-- what stands there, by the base that it announces
abbrev Announced : List ℕ → ℕ → Base → Type 0
Announced s at Hex = Prefix s at 120
Announced s at Octal = Prefix s at 111
Announced s at Decimal = eqb (get_or s at 0) 48 ≡ true → (eqb (get_or s (at + 1) 0) 120 ≡ false) × (eqb (get_or s (at + 1) 0) 111 ≡ false)

announced : (s : List ℕ) (at : ℕ) → Announced s at (base_at s at)
unfolding base_at
announced s at = go (eqb (get_or s at 0) 48) (eqb (get_or s (at + 1) 0) 120) (eqb (get_or s (at + 1) 0) 111) refl refl refl
  where
    go : (t u v : Bool) → eqb (get_or s at 0) 48 ≡ t → eqb (get_or s (at + 1) 0) 120 ≡ u → eqb (get_or s (at + 1) 0) 111 ≡ v
        → Announced s at (base_by t u v)
    go true true v e f g = record { zero = e; letter = f }
    go true false true e f g = record { zero = e; letter = g }
    go true false false e f g = λ z. (f, g)
    go false u v e f g = λ z. absurd (true≢false (sym z ∙ e))

-- what may follow the first digit of a decimal integer: it can be empty, and does not begin with the letter of a prefix
pub record Tail (t : Pat) : Type 0 where
  pub alive : is_nothing t ≡ false
  pub short : nullable t ≡ true
  pub no_x : deriv 120 t ≡ nothing
  pub no_o : deriv 111 t ≡ nothing

pub integer_ends : Tail integer_tail
unfolding deriv
integer_ends = record { alive = refl; short = refl; no_x = refl; no_o = refl }

pub jump_ends : Tail jump_tail
unfolding deriv
jump_ends = record { alive = refl; short = refl; no_x = refl; no_o = refl }

-- Integers of any base, with underscores or without, over any tail of the decimal ones.
module _ (u : Bool) {t : Pat} (tail : Tail t) where
  -- what is left after a 0
  abbrev after_zero : Pat
  after_zero = alt (seq (byte (λ x. eqb x 120)) (digits Hex u)) (alt (seq (byte (λ x. eqb x 111)) (digits Octal u)) t)

  zero_on : deriv 48 (any_base u t) ≡ after_zero
  unfolding deriv digits
  zero_on = rw tail.alive

  x_on : deriv 120 after_zero ≡ digits Hex u
  unfolding deriv digits
  x_on = rw tail.no_x

  o_on : deriv 111 after_zero ≡ digits Octal u
  unfolding deriv digits
  o_on = rw tail.no_o

  no_zero : (x : ℕ) → eqb x 48 ≡ false → deriv x (any_base u t) ≡ deriv x (seq (byte dec) t)
  unfolding deriv
  no_zero x h = simp h

  no_letter : (x : ℕ) → eqb x 120 ≡ false → eqb x 111 ≡ false → deriv x after_zero ≡ deriv x t
  unfolding deriv
  no_letter x h k = simp (h, k)

  module _ (s : List ℕ) (at : ℕ) where
    zero_at : eqb (get_or s at 0) 48 ≡ true → Came (any_base u t) s at after_zero (at + 1) at
    zero_at z = accept (start (any_base u t) s at) 48 (omega arith) z zero_on

    -- a 0 is a digit
    digit_at : (q : Pat) → eqb (get_or s at 0) 48 ≡ true → Came (seq (byte dec) q) s at q (at + 1) at
    unfolding deriv
    digit_at q z = accept (start (seq (byte dec) q) s at) 48 (omega arith) z refl

    -- Past a prefix the digits of its base are left, and the 0 alone is the match so far. No float begins so.
    pub record Prefixed (base : Base) : Type 0 where
      pub within : at + 1 < length s
      pub left : Came (any_base u t) s at (digits base u) (at + 2) (at + 1)
      pub no_float : at ≡ at + longest float (drop at s)

    pub prefixed : {base : Base} → base ≡ base_at s at → (base ≡ Decimal → ⊥) → Prefixed base
    unfolding deriv
    prefixed {base} e n = go base n (rw (sym e) at (announced s at))
      where
        rest : Pat
        rest = seq (star (byte (or_underscore dec))) fraction

        by : (x : ℕ) (base : Base) → 0 < x → deriv x after_zero ≡ digits base u → deriv x rest ≡ nothing → Prefix s at x → Prefixed base
        by x base l e f p =
            let two : at + 1 + 1 ≡ at + 2 = omega arith in
            record {
              within = inside s (at + 1) x p.letter l;
              left = rw (two, tail.short) at (accept (zero_at p.zero) x l p.letter e);
              no_float = halt (digit_at rest p.zero) (λ h. ap (λ (y : ℕ). deriv y rest) (eqb-true (get_or s (at + 1) 0) x p.letter) ∙ f);
            }

        go : (base : Base) → (base ≡ Decimal → ⊥) → Announced s at base → Prefixed base
        go Hex n p = by 120 Hex (omega arith) x_on refl p
        go Octal n p = by 111 Octal (omega arith) o_on refl p
        go Decimal n p = absurd (n refl)

    -- Without a prefix the integer is decimal.
    pub plain : Decimal ≡ base_at s at → at + longest (seq (byte dec) t) (drop at s) ≡ at + longest (any_base u t) (drop at s)
    plain e =
        by_test (eqb (get_or s at 0) 48) (λ z. behind z (rw (sym e) at (announced s at) z))
        (λ z. both (start (seq (byte dec) t) s at) (swap (start (any_base u t) s at) (seq (byte dec) t) refl (λ l. no_zero (get_or s at 0) z)))
      where
        behind : eqb (get_or s at 0) 48 ≡ true → (eqb (get_or s (at + 1) 0) 120 ≡ false) × (eqb (get_or s (at + 1) 0) 111 ≡ false)
            → at + longest (seq (byte dec) t) (drop at s) ≡ at + longest (any_base u t) (drop at s)
        behind z a = both (digit_at t z) (swap (zero_at z) t refl (λ l. no_letter (get_or s (at + 1) 0) a.0 a.1))
