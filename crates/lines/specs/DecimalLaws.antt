-- A number goes on digit by digit, and where a space stands it is what is spelled behind it: one look at the front of the rest.
-- Assumes nothing.
use Rattle.std.specs.Prelude.{ℕ, ◌+◌, ◌≤◌, ◌<◌, ◌≡◌, refl, Bool, true, false, cond, ◌&&◌, Some, None, List, length, get_or, drop, leb, eqb}
use Rattle.std.proofs.Common.{sym, ap, ◌∙◌, arith, drop_of_length-le, leb-true, ne_eqb}
use Rattle.std.proofs.lemmas.Bool.{false≢true}
use Rattle.std.proofs.Math.Numerals.{add-one}
use Rattle.std.proofs.Math.Decide.{dec_lt}
use Rattle.std.proofs.Math.Seq.{drop-cons}
use Rattle.patterns.proofs.Bools.{and_first, and_second}
use Rattle.patterns.specs.Walk.{span}
use Rattle.patterns.proofs.Walk.{span_yes, span_no, span_over, byte_within}
use Rattle.tokens.specs.Tokens.{dec}
use Rattle.lines.specs.declared.decimals.Number.{Number}
use Rattle.lines.specs.Decimals.{space, grown, number, spelled, starts, behind, value_or_zero}

-- a digit's value is below ten
pub digit_least : (b : ℕ) → dec b ≡ true → 48 ≤ b
digit_least b e = leb-true 48 b (and_first (leb 48 b) (leb b 57) e)

pub digit_most : (b : ℕ) → dec b ≡ true → b ≤ 57
digit_most b e = leb-true b 57 (and_second (leb 48 b) (leb b 57) e)

-- A number was read up to a place: with its value so far, the rest spells it, and its digits end where the rest's do.
pub record Spelling (text : List ℕ) (from value end : ℕ) : Type 0 where
  pub so_far : number 0 (drop from text) ≡ number value (drop end text)
  pub ending : from + span dec (drop from text) ≡ end + span dec (drop end text)

pub spelling_start : (text : List ℕ) (from : ℕ) → Spelling text from 0 from
spelling_start text from = record { so_far = refl; ending = refl }

stops : (text : List ℕ) (n at : ℕ) → (at < length text → dec (get_or text at 0) ≡ false) → n ≡ number n (drop at text)
unfolding number
stops text n at e = go (dec_lt at (length text))
  where
    go : Dec (at < length text) → n ≡ number n (drop at text)
    go (yes h) = rw (drop-cons text at 0) (rw (e h))
    go (no h) = let l : length text ≤ at = omega arith in rw (drop_of_length-le text l)

module _ {text : List ℕ} {from value end : ℕ} (s : Spelling text from value end) where
  goes_on : {m : ℕ} → end < length text → dec (get_or text end 0) ≡ true → m ≡ grown value (get_or text end 0)
      → number value (drop end text) ≡ number m (drop (end + 1) text)
  unfolding number
  goes_on h e g = rw (g, add-one, drop-cons text end 0) (rw e)

  pub spelling_on : {m : ℕ} → end < length text → dec (get_or text end 0) ≡ true → m ≡ grown value (get_or text end 0) → Spelling text from m (end + 1)
  spelling_on h e g = record { so_far = s.so_far ∙ goes_on h e g; ending = s.ending ∙ span_yes dec text end h e }

  both : {v w : ℕ} → value ≡ v → end ≡ w → ◌≡◌ {A = Number} (record { value = value; end = end }) (record { value = v; end = w })
  both e f = rw (e, f)

  pub spelling_stops : end < length text → dec (get_or text end 0) ≡ false
      → ◌≡◌ {A = Number} (record { value = value; end = end }) (spelled text from)
  spelling_stops h e = both (stops text value end (λ l. e) ∙ sym s.so_far) (span_no dec text end h e ∙ sym s.ending)

  pub spelling_over : length text ≤ end → ◌≡◌ {A = Number} (record { value = value; end = end }) (spelled text from)
  spelling_over h = both (stops text value end (λ l. absurd (omega arith)) ∙ sym s.so_far) (span_over dec text end h ∙ sym s.ending)

-- whether a number starts at a place, by the byte there and the next one
module _ (text : List ℕ) (at : ℕ) {a : ℕ} (e : a ≡ get_or text at 0) where
  pub starts_behind : {b : ℕ} {t : Bool} → a ≡ space → b ≡ get_or text (at + 1) 0 → t ≡ dec b → t ≡ starts text at
  starts_behind h f g = rw (← e, h, g, f)

  pub starts_nowhere : (a ≡ space → ⊥) → false ≡ starts text at
  starts_nowhere h = rw (← e, ne_eqb a space h)

-- a number starts within the text
pub starts_within : (text : List ℕ) (at : ℕ) → starts text at ≡ true → at < length text
starts_within text at e =
    byte_within text at (λ z. let f : eqb 0 space ≡ true = ap (λ b. eqb b space) (sym z) ∙ and_first (eqb (get_or text at 0) space) (dec (get_or text (at + 1) 0)) e in absurd (false≢true f))

-- behind a place where a space stands, or where the text is over, it is what is spelled there
pub behind_value : (text : List ℕ) (at : ℕ) → (at < length text → eqb (get_or text at 0) space ≡ true) → value_or_zero (behind text at) ≡ number 0 (drop (at + 1) text)
behind_value text at e = go (eqb (get_or text at 0) space) (dec (get_or text (at + 1) 0)) digit (λ d. stops text 0 (at + 1) (λ l. d))
  where
    digit : dec (get_or text (at + 1) 0) ≡ true → eqb (get_or text at 0) space ≡ true
    digit d =
        let l : at + 1 < length text = byte_within text (at + 1) (λ z. absurd (omega (arith, z, digit_least (get_or text (at + 1) 0) d))) in
        e (omega arith)

    go : (a b : Bool) → (b ≡ true → a ≡ true) → (b ≡ false → 0 ≡ number 0 (drop (at + 1) text))
        → value_or_zero (cond (a && b) (Some (spelled text (at + 1))) None) ≡ number 0 (drop (at + 1) text)
    go true true p q = refl
    go true false p q = q refl
    go false true p q = absurd (false≢true (p refl))
    go false false p q = q refl

-- the number behind a place, by that test
module _ (text : List ℕ) (at : ℕ) {t : Bool} (e : t ≡ starts text at) where
  pub behind_there : {n : Number} → t ≡ true → n ≡ spelled text (at + 1) → Some n ≡ behind text at
  behind_there h f = rw (← e, h, f)

  pub behind_nothing : t ≡ false → None ≡ behind text at
  behind_nothing h = rw (← e, h)
