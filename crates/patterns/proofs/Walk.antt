-- The laws by which the proof of a scanning loop goes. The loop's invariant is `Came`: of the pattern p, sought from the place `at`,
-- q is left at the place i, and b is the end of the longest match so far; each law is one turn of `walk`. Assumes nothing.
use Prim.Native.Nat.{ℕ, zero, suc, ◌+◌, ◌≤◌, ◌<◌}
use Rattle.std.specs.Prelude.{◌≡◌, Bool, ◌&&◌, get_or, drop, eqb, Option, Some, None}
use Rattle.std.proofs.Math.Path.{refl, sym, ap}
use Rattle.std.proofs.Common.{◌∙◌, zero-add, add-suc, suc-add, length-drop, drop-drop, get_or-drop}
use Rattle.std.proofs.Math.Bool.{true, false, cond}
use Rattle.std.proofs.lemmas.Bool.{false≢true}
use mathlib.Core.List.{List, [], ◌∷◌}
use Rattle.std.proofs.Math.Nat.{add-zero}
use Rattle.std.proofs.Math.Numerals.{add-one}
use native.Mathlib.Omega.{arith}
use Rattle.std.proofs.Math.Decide.{dec_lt}
use Rattle.std.proofs.Math.ListN.{length, drop_of_length-le, get_or-eq_default}
use Rattle.std.proofs.Math.Seq.{drop-cons}
use borrow.Author.Tests.{eq-eqb, ne_eqb}
use Rattle.patterns.specs.declared.Char.{Char}
use Rattle.patterns.specs.declared.Lead.{Lead}
use Rattle.patterns.specs.declared.Lead.TheVariants.{Alone, More, Bad}
use Rattle.patterns.specs.Utf8.{Class, between, lead, join, longer, finish, after_lead, decode, whole}
use Rattle.patterns.proofs.Bools.{and_second}
use Rattle.patterns.specs.Pattern.{Pat, nothing, empty, part, seq, literal, follow, nullable, if_in, char_after, part_after, deriv, walk, longest}
use Rattle.patterns.specs.Walk.{Came, Text, char_then, next, prefix, read, span}

-- The walk itself.

-- it may begin at any place
walk_from : (r : Pat) (s : List ℕ) (at k b : ℕ) → walk r s (at + k) (at + b) ≡ at + walk r s k b
unfolding walk
walk_from r [] at k b = go (nullable r)
  where
    go : (t : Bool) → cond t (at + k) (at + b) ≡ at + cond t k b
    go true = refl
    go false = refl
walk_from r (x ∷ s) at k b = go (nullable r) ∙ walk_from (deriv x r) s at (suc k) (cond (nullable r) k b)
  where
    go : (t : Bool) → walk (deriv x r) s (suc (at + k)) (cond t (at + k) (at + b)) ≡ walk (deriv x r) s (at + suc k) (at + cond t k b)
    go true = rw add-suc
    go false = rw add-suc

-- nothing is left
pub dead : (s : List ℕ) (k b : ℕ) → walk nothing s k b ≡ b
unfolding walk
dead [] k b = refl
dead (x ∷ s) k b = dead s (suc k) b

spent : (s : List ℕ) (k b : ℕ) → walk empty s k b ≡ k
unfolding walk
spent [] k b = refl
spent (x ∷ s) k b = dead s (suc k) k

-- a pattern that matches the empty text has its best end here, whatever came before
best_free : (q : Pat) (s : List ℕ) (k b b' : ℕ) → nullable q ≡ true → walk q s k b ≡ walk q s k b'
unfolding walk
best_free q [] k b b' e = rw e
best_free q (x ∷ s) k b b' e = rw e

-- past its end a source reads as 0: any other byte stands within it
pub byte_within : (s : List ℕ) (i : ℕ) → (get_or s i 0 ≡ 0 → ⊥) → i < length s
byte_within s i h = go (dec_lt i (length s))
  where
    go : Dec (i < length s) → i < length s
    go (yes l) = l
    go (no l) = absurd (h (get_or-eq_default s 0 (omega arith)))

-- what stands at i, if anything does, ends q
pub ends : (q : Pat) (s : List ℕ) (i b : ℕ) → (i < length s → deriv (get_or s i 0) q ≡ nothing) → cond (nullable q) i b ≡ walk q (drop i s) i b
unfolding walk
ends q s i b e = go (dec_lt i (length s))
  where
    go : Dec (i < length s) → cond (nullable q) i b ≡ walk q (drop i s) i b
    go (yes h) =
        rw (drop-cons s i 0)
        (sym (ap (λ (r : Pat). walk r (drop (suc i) s) (suc i) (cond (nullable q) i b)) (e h) ∙ dead (drop (suc i) s) (suc i) (cond (nullable q) i b)))
    go (no h) = let l : length s ≤ i = omega arith in rw (drop_of_length-le s l)

-- The invariant, and its laws.

pub start : (p : Pat) (s : List ℕ) (at : ℕ) → Came p s at p at at
start p s at = record { same = sym (walk_from p (drop at s) at 0 0) ∙ rw add-zero }

module _ {p : Pat} {s : List ℕ} {at : ℕ} {q : Pat} {i b : ℕ} (c : Came p s at q i b) where
  -- a byte more
  pub step : {q' : Pat} → i < length s → deriv (get_or s i 0) q ≡ q' → Came p s at q' (i + 1) (cond (nullable q) i b)
  unfolding walk
  step h e = record { same = c.same ∙ rw (add-one, drop-cons s i 0) (ap (λ (r : Pat). walk r (drop (suc i) s) (suc i) (cond (nullable q) i b)) e) }

  -- the same where q does not match the empty text
  pub move : {q' : Pat} → nullable q ≡ false → i < length s → deriv (get_or s i 0) q ≡ q' → Came p s at q' (i + 1) b
  move {q'} n h e = rw n at (step h e)

  -- the byte at i ends it
  pub stop : i < length s → deriv (get_or s i 0) q ≡ nothing → cond (nullable q) i b ≡ at + longest p (drop at s)
  stop h e = sym ((step h e).same ∙ dead (drop (i + 1) s) (i + 1) (cond (nullable q) i b))

  -- the source ends
  pub over : length s ≤ i → cond (nullable q) i b ≡ at + longest p (drop at s)
  unfolding walk
  over h = sym (c.same ∙ rw (drop_of_length-le s h))

  -- either of the two
  pub halt : (i < length s → deriv (get_or s i 0) q ≡ nothing) → cond (nullable q) i b ≡ at + longest p (drop at s)
  halt e = ends q s i b e ∙ sym c.same

  -- q may be exchanged for a pattern that treats alike what stands at i
  pub swap : (q' : Pat) → nullable q ≡ nullable q' → (i < length s → deriv (get_or s i 0) q ≡ deriv (get_or s i 0) q') → Came p s at q' i b
  unfolding walk
  swap q' n e = go (dec_lt i (length s))
    where
      go : Dec (i < length s) → Came p s at q' i b
      go (yes h) = record {
        same = c.same ∙ rw (drop-cons s i 0)
            (ap (λ (r : Pat). walk r (drop (suc i) s) (suc i) (cond (nullable q) i b)) (e h)
            ∙ ap (λ (t : Bool). walk (deriv (get_or s i 0) q') (drop (suc i) s) (suc i) (cond t i b)) n);
      }
      go (no h) =
          let l : length s ≤ i = omega arith in
          record { same = sym (over l) ∙ rw (drop_of_length-le s l) (ap (λ (t : Bool). cond t i b) n) }

  -- where q matches the empty text, the best end is i whatever it was
  pub free : {b' : ℕ} → nullable q ≡ true → Came p s at q i b'
  free {b'} e = record { same = c.same ∙ best_free q (drop i s) i b b' e }

  -- and another loop may go on for q alone
  pub onto : nullable q ≡ true → i + longest q (drop i s) ≡ at + longest p (drop at s)
  onto e = (start q s i).same ∙ best_free q (drop i s) i i b e ∙ sym c.same

-- two patterns that have come to the same end alike
pub both : {p p' : Pat} {s : List ℕ} {at : ℕ} {q : Pat} {i b : ℕ} → Came p s at q i b → Came p' s at q i b → at + longest p (drop at s) ≡ at + longest p' (drop at s)
both c d = c.same ∙ sym d.same

-- nothing can follow
pub done : {p : Pat} {s : List ℕ} {at i b : ℕ} → Came p s at empty i b → i ≡ at + longest p (drop at s)
done {s} {i} {b} c = sym (c.same ∙ spent (drop i s) i b)

-- A run of bytes of one class.

module _ (f : Class) where
  pub span_yes : (s : List ℕ) (i : ℕ) → i < length s → f (get_or s i 0) ≡ true → i + span f (drop i s) ≡ i + 1 + span f (drop (i + 1) s)
  unfolding span
  span_yes s i h e = rw (add-one, drop-cons s i 0) (rw e (rw (add-suc, suc-add)))

  pub span_no : (s : List ℕ) (i : ℕ) → i < length s → f (get_or s i 0) ≡ false → i ≡ i + span f (drop i s)
  unfolding span
  span_no s i h e = rw (drop-cons s i 0) (rw e (rw add-zero))

  pub span_over : (s : List ℕ) (i : ℕ) → length s ≤ i → i ≡ i + span f (drop i s)
  unfolding span
  span_over s i h = rw (drop_of_length-le s h) (rw add-zero)

  span_le : (xs : List ℕ) → span f xs ≤ length xs
  unfolding span
  span_le [] = omega arith
  span_le (x ∷ xs) = go (f x) (span_le xs)
    where
      go : (t : Bool) → span f xs ≤ length xs → cond t (suc (span f xs)) 0 ≤ suc (length xs)
      go true h = omega arith
      go false h = omega arith

  span_after : (xs : List ℕ) → span f xs < length xs → f (get_or xs (span f xs) 0) ≡ false
  unfolding span
  span_after [] h = absurd (omega arith)
  span_after (x ∷ xs) h = go (f x) refl (span_after xs) h
    where
      go : (t : Bool) → f x ≡ t → (span f xs < length xs → f (get_or xs (span f xs) 0) ≡ false)
          → cond t (suc (span f xs)) 0 < suc (length xs) → f (get_or (x ∷ xs) (cond t (suc (span f xs)) 0) 0) ≡ false
      go true e r h = r (omega arith)
      go false e r h = e

  -- the run ends where the source does, or before a byte that is not of the class
  pub span_within : (s : List ℕ) (i : ℕ) {j : ℕ} → j ≡ i + span f (drop i s) → i ≤ length s → j ≤ length s
  span_within s i e h = omega (arith, span_le (drop i s), length-drop i s)

  pub span_stops : (s : List ℕ) (i : ℕ) {j : ℕ} → j ≡ i + span f (drop i s) → j < length s → f (get_or s j 0) ≡ false
  span_stops s i {j} e h = rw e (ap f (sym (get_or-drop i s (span f (drop i s)) 0)) ∙ span_after (drop i s) (omega (arith, length-drop i s)))

  stay : (t : Bool) (q : Pat) (xs : List ℕ) (k k' b : ℕ) → nullable q ≡ t → walk q xs k' (cond t k b) ≡ walk q xs k' b
  stay true q xs k k' b e = best_free q xs k' k b e
  stay false q xs k k' b e = refl

  walk_span : (q : Pat) → ((x : ℕ) → f x ≡ true → deriv x q ≡ q) → (xs : List ℕ) (k b : ℕ) → walk q xs k b ≡ walk q (drop (span f xs) xs) (k + span f xs) b
  unfolding span walk
  walk_span q h [] k b = rw add-zero
  walk_span q h (x ∷ xs) k b = go (f x) refl (walk_span q h xs (suc k) b)
    where
      go : (t : Bool) → f x ≡ t → walk q xs (suc k) b ≡ walk q (drop (span f xs) xs) (suc k + span f xs) b
          → walk q (x ∷ xs) k b ≡ walk q (drop (cond t (suc (span f xs)) 0) (x ∷ xs)) (k + cond t (suc (span f xs)) 0) b
      go true e r = rw (add-suc, ← suc-add) (rw (h x e) (stay (nullable q) q xs k (suc k) b refl ∙ r))
      go false e r = rw add-zero refl

  -- what each byte of the class leaves as it is, the run from i to j leaves as it is
  pub skip : {p : Pat} {s : List ℕ} {at : ℕ} {q : Pat} {i j b : ℕ} → Came p s at q i b → j ≡ i + span f (drop i s)
      → ((x : ℕ) → f x ≡ true → deriv x q ≡ q) → Came p s at q j b
  skip {s} {q} {i} {b} c e h = record { same = c.same ∙ walk_span q h (drop i s) i b ∙ rw (drop-drop, e) }

  -- where any other byte ends the match, its end is known
  pub through : {p : Pat} {s : List ℕ} {at : ℕ} {q : Pat} {i j b : ℕ} → Came p s at q i b → j ≡ i + span f (drop i s)
      → ((x : ℕ) → f x ≡ true → deriv x q ≡ q) → ((x : ℕ) → f x ≡ false → deriv x q ≡ nothing) → cond (nullable q) j b ≡ at + longest p (drop at s)
  through {p} {s} {at} {q} {i} {j} {b} c e on off = go (dec_lt j (length s))
    where
      go : Dec (j < length s) → cond (nullable q) j b ≡ at + longest p (drop at s)
      go (yes h) = stop (skip c e on) h (off (get_or s j 0) (span_stops s i e h))
      go (no h) = over (skip c e on) (omega arith)

-- One character.

module _ (f : Class) (r : Pat) where
  then_longer : (d : Option Char) (x : ℕ) (xs : List ℕ) (k b : ℕ) → char_then f r d xs (suc k) b ≡ char_then f r (longer d) (x ∷ xs) k b
  unfolding char_then
  then_longer (Some c) x xs k b = rw (suc-add, ← add-suc)
  then_longer None x xs k b = refl

  then_last : (v x : ℕ) (xs : List ℕ) (k b : ℕ) → walk (follow (if_in (f v)) r) xs (suc k) b ≡ char_then f r (whole v 1) (x ∷ xs) k b
  unfolding char_then
  then_last v x xs k b = rw add-one (go (f v))
    where
      go : (t : Bool) → walk (follow (if_in t) r) xs (suc k) b ≡ cond t (walk r xs (suc k) b) b
      go true = refl
      go false = dead xs (suc k) b

  walk_part : (xs : List ℕ) (low high m bits k b : ℕ) → walk (seq (part f low high m bits) r) xs k b ≡ char_then f r (finish low high m bits xs) xs k b
  unfolding walk finish char_then
  walk_part [] low high m bits k b = refl
  walk_part (x ∷ xs) low high zero bits k b = go (between low high x) (join bits x)
    where
      go : (t : Bool) (w : ℕ) → walk (follow (part_after t f 0 w) r) xs (suc k) b ≡ char_then f r (cond t (whole w 1) None) (x ∷ xs) k b
      go true w = then_last w x xs k b
      go false w = dead xs (suc k) b
  walk_part (x ∷ xs) low high (suc m) bits k b = go (between low high x) (join bits x) (walk_part xs 0x80 0xBF m (join bits x) (suc k) b)
    where
      go : (t : Bool) (w : ℕ) → walk (seq (part f 0x80 0xBF m w) r) xs (suc k) b ≡ char_then f r (finish 0x80 0xBF m w xs) xs (suc k) b
          → walk (follow (part_after t f (suc m) w) r) xs (suc k) b ≡ char_then f r (cond t (longer (finish 0x80 0xBF m w xs)) None) (x ∷ xs) k b
      go true w e = e ∙ then_longer (finish 0x80 0xBF m w xs) x xs k b
      go false w e = dead xs (suc k) b

  walk_lead : (l : Lead) (x : ℕ) (xs : List ℕ) (k b : ℕ) → walk (follow (char_after f x l) r) xs (suc k) b ≡ char_then f r (after_lead x l xs) (x ∷ xs) k b
  unfolding after_lead char_then
  walk_lead Alone x xs k b = then_last x x xs k b
  walk_lead (More low high m bits) x xs k b = walk_part xs low high m bits (suc k) b ∙ then_longer (finish low high m bits xs) x xs k b
  walk_lead Bad x xs k b = dead xs (suc k) b

  -- after the byte x, a pattern is left with the rest of a character of the class and then r
  abbrev pub Opens : Pat → ℕ → Type 0
  Opens q x = deriv x q ≡ follow (char_after f x (lead x)) r

  pub walk_char : (q : Pat) (xs : List ℕ) (k b : ℕ) → Opens q (get_or xs 0 0) → walk q xs k b ≡ char_then f r (decode xs) xs k (cond (nullable q) k b)
  unfolding walk decode char_then
  walk_char q [] k b e = refl
  walk_char q (x ∷ xs) k b e = ap (λ (d : Pat). walk d xs (suc k) (cond (nullable q) k b)) e ∙ walk_lead (lead x) x xs k (cond (nullable q) k b)

  module _ {p : Pat} {s : List ℕ} {at : ℕ} {q : Pat} {i b : ℕ} (c : Came p s at q i b) (o : Opens q (get_or s i 0)) where
    char_front : at + longest p (drop at s) ≡ char_then f r (decode (drop i s)) (drop i s) i (cond (nullable q) i b)
    char_front = c.same ∙ walk_char q (drop i s) i b (rw (get_or-drop i s 0 0, add-zero) o)

    -- a character of the class
    pub char_in : {v n : ℕ} → decode (drop i s) ≡ whole v n → f v ≡ true → Came p s at r (i + n) (cond (nullable q) i b)
    unfolding char_then
    char_in {v} {n} d e = record { same = char_front ∙ rw (d, e, drop-drop) }

    -- another, or none
    pub char_out : {v n : ℕ} → decode (drop i s) ≡ whole v n → f v ≡ false → cond (nullable q) i b ≡ at + longest p (drop at s)
    unfolding char_then
    char_out d e = sym (char_front ∙ rw (d, e))

    pub char_broken : decode (drop i s) ≡ None → cond (nullable q) i b ≡ at + longest p (drop at s)
    unfolding char_then
    char_broken d = sym (char_front ∙ rw d)

-- A spelling.

-- the steps of a comparison
module _ (ys : List ℕ) (j : ℕ) (s : List ℕ) (i : ℕ) where
  pub prefix_done : length ys ≤ j → true ≡ prefix (drop j ys) (drop i s)
  unfolding prefix
  prefix_done h = rw (drop_of_length-le ys h)

  pub prefix_short : j < length ys → length s ≤ i → false ≡ prefix (drop j ys) (drop i s)
  unfolding prefix
  prefix_short h l = rw (drop-cons ys j 0, drop_of_length-le s l)

  pub prefix_no : j < length ys → i < length s → (get_or s i 0 ≡ get_or ys j 0 → ⊥) → false ≡ prefix (drop j ys) (drop i s)
  unfolding prefix
  prefix_no h l e = rw (drop-cons ys j 0, drop-cons s i 0, ne_eqb (get_or s i 0) (get_or ys j 0) e)

  pub prefix_yes : j < length ys → i < length s → get_or s i 0 ≡ get_or ys j 0 → prefix (drop j ys) (drop i s) ≡ prefix (drop (j + 1) ys) (drop (i + 1) s)
  unfolding prefix
  prefix_yes h l e = rw (add-one, add-one, drop-cons ys j 0, drop-cons s i 0, eq-eqb (get_or s i 0) (get_or ys j 0) e)

pub prefix_long : (ys xs : List ℕ) → prefix ys xs ≡ true → length ys ≤ length xs
unfolding prefix
prefix_long [] xs e = omega arith
prefix_long (y ∷ ys) [] e = absurd (false≢true e)
prefix_long (y ∷ ys) (x ∷ xs) e = omega (arith, prefix_long ys xs (and_second (eqb x y) (prefix ys xs) e))

pub prefix_within : (ys s : List ℕ) (i : ℕ) → prefix ys (drop i s) ≡ true → 0 < length ys → i + length ys ≤ length s
prefix_within ys s i e h = omega (arith, prefix_long ys (drop i s) e, length-drop i s)

pub text_alone : (ys : List ℕ) → Text empty ys (literal ys)
unfolding deriv
text_alone [] = read
text_alone (y ∷ []) = next refl (λ x. go (eqb x y)) read
  where
    go : (t : Bool) → if_in t ≡ follow (if_in t) empty
    go true = refl
    go false = refl
text_alone (y ∷ z ∷ ys) = next refl (λ x. refl) (text_alone (z ∷ ys))

pub text_then : (q : Pat) (ys : List ℕ) → Text q ys (follow (literal ys) q)
unfolding deriv
text_then q [] = read
text_then q (y ∷ []) = next refl (λ x. refl) read
text_then q (y ∷ z ∷ ys) = next refl (λ x. refl) (text_then q (z ∷ ys))

walk_text : {q w : Pat} {ys : List ℕ} → Text q ys w → (xs : List ℕ) (k b : ℕ) → walk w xs k b ≡ cond (prefix ys xs) (walk q (drop (length ys) xs) (k + length ys) b) b
unfolding walk prefix
walk_text read xs k b = rw add-zero
walk_text (next n d t) [] k b = rw n
walk_text {q} (next {y} {ys} {w} {w'} n d t) (x ∷ xs) k b = rw (n, d x) (go (eqb x y) (walk_text t xs (suc k) b))
  where
    go : (u : Bool) → walk w' xs (suc k) b ≡ cond (prefix ys xs) (walk q (drop (length ys) xs) (suc k + length ys) b) b
        → walk (follow (if_in u) w') xs (suc k) b ≡ cond (u && prefix ys xs) (walk q (drop (length ys) xs) (k + suc (length ys)) b) b
    go true e = e ∙ rw (suc-add, ← add-suc)
    go false e = dead xs (suc k) b

-- a spelling alone matches itself
pub literal_longest : (ys xs : List ℕ) → longest (literal ys) xs ≡ cond (prefix ys xs) (length ys) 0
literal_longest ys xs = walk_text (text_alone ys) xs 0 0 ∙ ap (λ (n : ℕ). cond (prefix ys xs) n 0) (spent (drop (length ys) xs) (0 + length ys) 0 ∙ zero-add (length ys))

module _ {p : Pat} {s : List ℕ} {at : ℕ} {q w : Pat} {ys : List ℕ} {i b : ℕ} (t : Text q ys w) (c : Came p s at w i b) where
  pub text_yes : prefix ys (drop i s) ≡ true → Came p s at q (i + length ys) b
  text_yes e = record { same = c.same ∙ walk_text t (drop i s) i b ∙ rw (e, drop-drop) }

  pub text_no : prefix ys (drop i s) ≡ false → b ≡ at + longest p (drop at s)
  text_no e = sym (c.same ∙ walk_text t (drop i s) i b ∙ rw e)
