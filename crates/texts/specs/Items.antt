-- Rows of items: backslash pairs, and bytes of a class without the backslash. Each item leaves the row as it was, and what is no item
-- ends it; so what follows the row in a pattern begins where the longest row ends (`past`). Assumes nothing.
use Rattle.std.specs.Prelude.{ℕ, zero, suc, ◌+◌, ◌≤◌, ◌<◌, ◌≡◌, refl, Bool, true, false, cond, ◌&&◌, List, [], ◌∷◌, length, get_or, drop, eqb}
use Rattle.std.proofs.Common.{sym, ◌∙◌, true≢false, ne_eqb, eqb-true}
use Rattle.std.proofs.Math.Path.{ap}
use Rattle.std.proofs.Math.Bool.{or-false}
use native.Mathlib.Omega.{arith}
use Rattle.std.proofs.Math.Decide.{dec_lt}
use Rattle.patterns.specs.Utf8.{Class}
use Rattle.patterns.proofs.Bools.{and_first, and_second, by_test}
use Rattle.patterns.specs.Pattern.{Pat, nothing, byte, seq, alt, star, follow, nullable, either, deriv, longest}
use Rattle.patterns.specs.Walk.{Came, Text, next}
use Rattle.patterns.proofs.Walk.{start, step, stop, over, onto, swap}
use Rattle.tokens.specs.Tokens.{one_of, none_of, pair}
use Rattle.places.specs.Places.{stands, stands_within, stands_yes, stands_no, takes, lacks, byte_reads, failed}

abbrev pub items : Class → Pat
items f = star (alt pair (byte f))

abbrev pub backslash : Class
backslash = one_of (92 ∷ [])

-- a pair stands at i
unfoldable pub pair_at : List ℕ → ℕ → Bool
pair_at s i = stands backslash s i && stands (none_of "\n") s (i + 1)

pub pair_within : (s : List ℕ) (i : ℕ) → pair_at s i ≡ true → i + 1 < length s
unfolding pair_at
pair_within s i e = stands_within (none_of "\n") s (i + 1) (and_second (stands backslash s i) _ e)

-- r is left behind each byte of the class, and behind each pair
pub record Goes (f : Class) (r : Pat) : Type 0 where
  plain : (x : ℕ) → f x ≡ true → deriv x r ≡ r
  back : (x : ℕ) → backslash x ≡ true → deriv x r ≡ seq (byte (none_of "\n")) r

module _ {p : Pat} {s : List ℕ} {at : ℕ} {r : Pat} {i b : ℕ} (c : Came p s at r i b) {f : Class} (g : Goes f r) where
  pub on_plain : i < length s → f (get_or s i 0) ≡ true → Came p s at r (i + 1) (cond (nullable r) i b)
  on_plain h e = step c h (g.plain (get_or s i 0) e)

  on_back : stands backslash s i ≡ true → Came p s at (seq (byte (none_of "\n")) r) (i + 1) (cond (nullable r) i b)
  on_back e = step c (stands_within backslash s i e) (g.back (get_or s i 0) (stands_yes backslash s i e))

  pub on_pair : pair_at s i ≡ true → Came p s at r (i + 2) (cond (nullable r) i b)
  unfolding pair_at
  on_pair e =
      let two : i + 1 + 1 ≡ i + 2 = omega arith in
      rw two at (takes (byte_reads (none_of "\n") r) (on_back (and_first (stands backslash s i) _ e)) (and_second (stands backslash s i) _ e))

  -- a backslash before LF or the end
  on_broken : stands backslash s i ≡ true → pair_at s i ≡ false → cond (nullable r) i b ≡ at + longest p (drop at s)
  unfolding pair_at
  on_broken e n = lacks (byte_reads (none_of "\n") r) (on_back e) (rw e at n)

module _ (f : Class) (bare : f 92 ≡ false) where
  back_plain : (x : ℕ) → backslash x ≡ true → f x ≡ false
  back_plain x e = ap f (eqb-true x 92 (sym (or-false (eqb x 92)) ∙ e)) ∙ bare

  plain_back : (x : ℕ) → f x ≡ true → backslash x ≡ false
  plain_back x e = by_test (backslash x) (λ d. absurd (true≢false (sym e ∙ back_plain x d))) (λ d. d)

  pub items_go : Goes f (items f)
  unfolding deriv
  items_go = record { plain = λ x e. simp (e, plain_back x e); back = λ x e. simp (e, back_plain x e) }

  -- any other byte
  other : {x : ℕ} → f x ≡ false → backslash x ≡ false → deriv x (items f) ≡ nothing
  unfolding deriv
  other e d = simp (e, d)

  -- where no item stands the row ends
  pub items_end : {p : Pat} {s : List ℕ} {at i b : ℕ} → Came p s at (items f) i b → i < length s → f (get_or s i 0) ≡ false → pair_at s i ≡ false
      → i ≡ at + longest p (drop at s)
  items_end {s} {i} c h e n = by_test (stands backslash s i) (λ x. on_broken c items_go x n) (λ x. stop c h (other e (stands_no backslash s i h x)))

  -- A row of items, and then a text that begins with a byte which is no item.
  module _ {q r : Pat} {y : ℕ} {ys : List ℕ} (t : Text r (y ∷ ys) q) (close : f y ≡ false) (no_back : backslash y ≡ false) where
    not_empty : nullable q ≡ false
    not_empty = go t
      where
        go : Text r (y ∷ ys) q → nullable q ≡ false
        go (next n d u) = n

    -- q begins with no byte of a class without y
    begins : (g : Class) → g y ≡ false → (x : ℕ) → g x ≡ true → deriv x q ≡ nothing
    begins g l x e = go t
      where
        go : Text r (y ∷ ys) q → deriv x q ≡ nothing
        go (next n d u) = d x ∙ rw (ne_eqb x y (λ z. true≢false (sym e ∙ ap g z ∙ l)))

    after : (x : ℕ) {a : Pat} → deriv x (items f) ≡ a → deriv x (seq (items f) q) ≡ either (follow a q) (deriv x q)
    unfolding deriv
    after x e = ap (λ (d : Pat). either (follow d q) (deriv x q)) e

    then_go : Goes f (seq (items f) q)
    then_go = record {
      plain = λ x e. after x (items_go.plain x e) ∙ rw (begins f close x e);
      back = λ x e. after x (items_go.back x e) ∙ rw (begins backslash no_back x e);
    }

    module _ (p : Pat) (s : List ℕ) (at b : ℕ) where
      abbrev Past : ℕ → Type 0
      Past i = Came p s at (seq (items f) q) i b → (j : ℕ) → j ≡ i + longest (items f) (drop i s) → Came p s at q j b

      past_end : (i : ℕ) → length s ≤ i → Past i
      past_end i h c j e =
          rw (e ∙ sym (over (start (items f) s i) h)) (failed (rw not_empty at (over c h)) q i not_empty (λ l. absurd (omega arith)))

      past_none : (i : ℕ) → i < length s → f (get_or s i 0) ≡ false → pair_at s i ≡ false → Past i
      past_none i h e n c j d = rw (d ∙ sym (items_end (start (items f) s i) h e n)) (by_test (stands backslash s i) broken ended)
        where
          broken : stands backslash s i ≡ true → Came p s at q i b
          broken x =
              failed (rw not_empty at (on_broken c then_go x n)) q i not_empty (λ l. begins backslash no_back (get_or s i 0) (stands_yes backslash s i x))

          ended : stands backslash s i ≡ false → Came p s at q i b
          ended x = swap c q refl (λ l. after (get_or s i 0) (other e (stands_no backslash s i h x)))

      -- an item is taken off both the row and the whole
      past_from : (n i : ℕ) → length s ≤ i + n → Past i
      past_from zero i l = past_end i (omega arith)
      past_from (suc n) i l = go (dec_lt i (length s)) (past_from n)
        where
          go : Dec (i < length s) → ((i : ℕ) → length s ≤ i + n → Past i) → Past i
          go (no h) more = past_end i (omega arith)
          go (yes h) more = by_test (f (get_or s i 0)) one (λ e. by_test (pair_at s i) two (past_none i h e))
            where
              one : f (get_or s i 0) ≡ true → Past i
              one e c j d =
                  more (i + 1) (omega arith) (rw not_empty at (on_plain c then_go h e)) j (d ∙ sym (onto (on_plain (start (items f) s i) items_go h e) refl))

              two : pair_at s i ≡ true → Past i
              two e c j d =
                  more (i + 2) (omega arith) (rw not_empty at (on_pair c then_go e)) j (d ∙ sym (onto (on_pair (start (items f) s i) items_go e) refl))

    pub past : {p : Pat} {s : List ℕ} {at i j b : ℕ} → Came p s at (seq (items f) q) i b → j ≡ i + longest (items f) (drop i s) → Came p s at q j b
    past {p} {s} {at} {i} {j} {b} c e = past_from p s at b (length s) i (omega arith) c j e
