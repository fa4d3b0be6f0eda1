-- Laws for scanning a pattern part by part, from any place and with any best end so far: a byte, a run of a class, and a run that is
-- followed by what begins with no byte of the class. Each is a turn of `walk`, or a law of Walk.antt. Assumes nothing.
use Rattle.std.specs.Prelude.{ℕ, suc, ◌+◌, ◌≤◌, ◌<◌, ◌≡◌, refl, true, false, cond, List, length, get_or, drop, eqb}
use Rattle.std.proofs.Common.{sym, ap, ◌∙◌, add-one, arith, eqb-true}
use Rattle.std.proofs.Math.Decide.{dec_lt}
use Rattle.std.proofs.Math.Seq.{drop-cons}
use Rattle.patterns.specs.Utf8.{Class}
use Rattle.patterns.specs.Pattern.{Pat, nothing, byte, seq, star, plus, nullable, deriv, walk, longest}
use Rattle.patterns.proofs.Bools.{by_test}
use Rattle.patterns.specs.Walk.{Came, span}
use Rattle.patterns.proofs.Walk.{byte_within, ends, start, step, free, swap, span_yes, span_no, span_over, span_stops, skip, through}

-- past its end a source reads as 0: any other byte stands within it
pub inside : (s : List ℕ) (i n : ℕ) → eqb (get_or s i 0) n ≡ true → 0 < n → i < length s
inside s i n e l = byte_within s i (λ z. omega (arith, eqb-true (get_or s i 0) n e))

module _ {p : Pat} {s : List ℕ} {at : ℕ} {q : Pat} {i b : ℕ} (c : Came p s at q i b) where
  -- the byte n stands at i
  pub accept : {q' : Pat} (n : ℕ) → 0 < n → eqb (get_or s i 0) n ≡ true → deriv n q ≡ q' → Came p s at q' (i + 1) (cond (nullable q) i b)
  accept n l e d = step c (inside s i n e l) (ap (λ (x : ℕ). deriv x q) (eqb-true (get_or s i 0) n e) ∙ d)

-- A byte of the class f and then q.
module _ (f : Class) (q : Pat) where
  yes_byte : (x : ℕ) → f x ≡ true → deriv x (seq (byte f) q) ≡ q
  unfolding deriv
  yes_byte x h = simp h

  no_byte : (x : ℕ) → f x ≡ false → deriv x (seq (byte f) q) ≡ nothing
  unfolding deriv
  no_byte x h = simp h

  module _ (s : List ℕ) (i b : ℕ) where
    pub present : i < length s → f (get_or s i 0) ≡ true → walk (seq (byte f) q) (drop i s) i b ≡ walk q (drop (i + 1) s) (i + 1) b
    unfolding walk
    present l h = rw (add-one, drop-cons s i 0) (ap (λ (r : Pat). walk r (drop (suc i) s) (suc i) b) (yes_byte (get_or s i 0) h))

    pub absent : (i < length s → f (get_or s i 0) ≡ false) → b ≡ walk (seq (byte f) q) (drop i s) i b
    absent h = ends (seq (byte f) q) s i b (λ l. no_byte (get_or s i 0) (h l))

-- A run of the class f.
module _ (f : Class) where
  on : (x : ℕ) → f x ≡ true → deriv x (star (byte f)) ≡ star (byte f)
  unfolding deriv
  on x h = simp h

  off : (x : ℕ) → f x ≡ false → deriv x (star (byte f)) ≡ nothing
  unfolding deriv
  off x h = simp h

  run_end : (s : List ℕ) (i b : ℕ) → walk (star (byte f)) (drop i s) i b ≡ i + span f (drop i s)
  run_end s i b = sym (through f (start (star (byte f)) s i) refl on off ∙ (free (start (star (byte f)) s i) {b' = b} refl).same)

-- A byte of the class d and then a run of the class f.
pub head_end : (d f : Class) (s : List ℕ) (i b : ℕ) {e : ℕ} → i < length s → d (get_or s i 0) ≡ true → e ≡ i + 1 + span f (drop (i + 1) s)
    → e ≡ walk (seq (byte d) (star (byte f))) (drop i s) i b
head_end d f s i b l h g = g ∙ sym (present d (star (byte f)) s i b l h ∙ run_end f s (i + 1) b)

-- A run that must not be empty.
module _ (f : Class) (s : List ℕ) (i b : ℕ) {e : ℕ} (h : e ≡ i + span f (drop i s)) where
  pub plus_end : i < e → e ≡ walk (plus (byte f)) (drop i s) i b
  plus_end n = go (dec_lt i (length s))
    where
      go : Dec (i < length s) → e ≡ walk (plus (byte f)) (drop i s) i b
      go (yes l) =
          by_test (f (get_or s i 0)) (λ t. head_end f f s i b l t (h ∙ span_yes f s i l t)) (λ t. absurd (omega (arith, span_no f s i l t)))
      go (no l) = let g : length s ≤ i = omega arith in absurd (omega (arith, span_over f s i g))

  pub plus_none : e ≤ i → b ≡ walk (plus (byte f)) (drop i s) i b
  plus_none n =
      let g : e ≡ i = omega arith in
      absent f (star (byte f)) s i b (λ l. rw g at (span_stops f s i h (omega arith)))

-- A run of the class f and then r, which begins with no byte of it.
module _ (f : Class) (r : Pat) (apart : (x : ℕ) → f x ≡ true → deriv x r ≡ nothing) where
  then_on : (x : ℕ) → f x ≡ true → deriv x (seq (star (byte f)) r) ≡ seq (star (byte f)) r
  unfolding deriv
  then_on x h = simp (h, apart x h)

  then_off : (x : ℕ) → f x ≡ false → deriv x (seq (star (byte f)) r) ≡ deriv x r
  unfolding deriv
  then_off x h = simp h

  past : {p : Pat} {s : List ℕ} {at i j b : ℕ} → Came p s at (seq (star (byte f)) r) i b → j ≡ i + span f (drop i s) → Came p s at r j b
  past {s} {i} {j} c e = swap (skip f c e then_on) r refl (λ h. then_off (get_or s j 0) (span_stops f s i e h))

-- A byte of the class d, a run of the class f and then r, where the byte and the run alone end at e.
module _ (d f : Class) (r : Pat) (s : List ℕ) (at : ℕ) {e : ℕ} (h : e ≡ walk (seq (byte d) (star (byte f))) (drop at s) at at) where
  abbrev whole : Pat
  whole = seq (byte d) (seq (star (byte f)) r)

  -- there is no such byte
  pub head_none : e ≤ at → at ≡ at + longest whole (drop at s)
  head_none n = absent d (seq (star (byte f)) r) s at at first ∙ sym (start whole s at).same
    where
      first : at < length s → d (get_or s at 0) ≡ false
      first l = by_test (d (get_or s at 0)) (λ t. absurd (omega (arith, head_end d f s at at l t refl))) (λ t. t)

  -- there is one, and r is left
  pub head_then : ((x : ℕ) → f x ≡ true → deriv x r ≡ nothing) → at < e → Came whole s at r e at
  head_then apart n = go (dec_lt at (length s))
    where
      none : (at < length s → d (get_or s at 0) ≡ false) → Came whole s at r e at
      none g = absurd (omega (arith, absent d (star (byte f)) s at at g))

      one : at < length s → d (get_or s at 0) ≡ true → Came whole s at r e at
      one l t =
          past f r apart (record { same = (start whole s at).same ∙ present d (seq (star (byte f)) r) s at at l t }) (h ∙ sym (head_end d f s at at l t refl))

      go : Dec (at < length s) → Came whole s at r e at
      go (yes l) = by_test (d (get_or s at 0)) (one l) (λ t. none (λ k. t))
      go (no l) = none (λ k. absurd (l k))
