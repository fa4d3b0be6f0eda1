-- Scanning laws that hold for any text: one byte of a class at a place, read or missed, and a match that has failed.
-- Each is one turn of `walk`, or none. Assumes nothing.
use Rattle.std.specs.Prelude.{ℕ, ◌+◌, ◌≤◌, ◌<◌, ◌≡◌, Bool, ◌&&◌, List, [], ◌∷◌, length, get_or, drop, ltb, eqb}
use Rattle.std.proofs.Math.Path.{refl, fun_ext}
use Rattle.std.proofs.Common.{sym, ap, ◌∙◌, arith, drop-cons, ltb-true, lt-ltb, ne_eqb, eqb-true}
use Rattle.std.proofs.Math.Bool.{true, false, cond, and-true, or-false}
use Rattle.std.proofs.Math.Decide.{dec_lt}
use Rattle.std.proofs.Math.ListN.{get_or-eq_default}
use Rattle.patterns.specs.Utf8.{Class}
use Rattle.std.proofs.lemmas.Bool.{eqb-false}
use Rattle.std.specs.List.{starts_with}
use Rattle.patterns.proofs.Bools.{and_first, and_second, by_test}
use Rattle.patterns.specs.Pattern.{Pat, nothing, byte, seq, star, literal, nullable, follow, if_in, deriv, longest}
use Rattle.patterns.specs.Walk.{Came, prefix}
use Rattle.patterns.proofs.Walk.{ends, step, halt, prefix_short}
use Rattle.tokens.specs.Tokens.{one_of}

-- a byte of the class f stands at i
abbrev pub stands : Class → List ℕ → ℕ → Bool
stands f s i = ltb i (length s) && f (get_or s i 0)

module _ (f : Class) (s : List ℕ) (i : ℕ) where
  pub stands_within : stands f s i ≡ true → i < length s
  stands_within e = ltb-true i (length s) (and_first (ltb i (length s)) (f (get_or s i 0)) e)

  pub stands_yes : stands f s i ≡ true → f (get_or s i 0) ≡ true
  stands_yes e = and_second (ltb i (length s)) (f (get_or s i 0)) e

  pub stands_no : i < length s → stands f s i ≡ false → f (get_or s i 0) ≡ false
  stands_no h e = rw (lt-ltb i (length s) h) at e

-- q reads a byte of the class f and no other, and q' is left
pub record Reads (f : Class) (q q' : Pat) : Type 0 where
  pub after : (x : ℕ) → deriv x q ≡ cond (f x) q' nothing

module _ {f : Class} {q q' : Pat} (r : Reads f q q') where
  pub reads_yes : (x : ℕ) → f x ≡ true → deriv x q ≡ q'
  reads_yes x e = r.after x ∙ rw e

  pub reads_no : (x : ℕ) → f x ≡ false → deriv x q ≡ nothing
  reads_no x e = r.after x ∙ rw e

  module _ {p : Pat} {s : List ℕ} {at i b : ℕ} (c : Came p s at q i b) where
    pub takes : stands f s i ≡ true → Came p s at q' (i + 1) (cond (nullable q) i b)
    takes e = step c (stands_within f s i e) (reads_yes (get_or s i 0) (stands_yes f s i e))

    pub lacks : stands f s i ≡ false → cond (nullable q) i b ≡ at + longest p (drop at s)
    lacks e = halt c (λ h. reads_no (get_or s i 0) (stands_no f s i h e))

module _ (f : Class) where
  pub byte_reads : (q : Pat) → Reads f (seq (byte f) q) q
  unfolding deriv
  byte_reads q = record { after = λ x. go (f x) }
    where
      go : (t : Bool) → follow (if_in t) q ≡ cond t q nothing
      go true = refl
      go false = refl

  pub run_reads : Reads f (star (byte f)) (star (byte f))
  unfolding deriv
  run_reads = record { after = (byte_reads (star (byte f))).after }

-- a class of one byte is its spelling
pub one_byte : (y : ℕ) → byte (one_of (y ∷ [])) ≡ literal (y ∷ [])
one_byte y = ap byte (fun_ext (λ x. or-false (eqb x y)))

pub prefix_byte : (y : ℕ) (s : List ℕ) (i : ℕ) → i < length s → prefix (y ∷ []) (drop i s) ≡ eqb (get_or s i 0) y
unfolding prefix
prefix_byte y s i h = rw (drop-cons s i 0) (and-true (eqb (get_or s i 0) y))

eqb_sym : (x y : ℕ) → eqb x y ≡ eqb y x
eqb_sym x y = by_test (eqb x y) (λ e. rw (eqb-true x y e)) (λ e. e ∙ sym (ne_eqb y x (λ q. eqb-false x y e (sym q))))

-- a text that starts with ys has ys at its front
pub starts_is : (ys xs : List ℕ) → starts_with eqb xs ys ≡ prefix ys xs
unfolding prefix
starts_is [] xs = refl
starts_is (y ∷ ys) [] = refl
starts_is (y ∷ ys) (x ∷ xs) = rw (starts_is ys xs, eqb_sym y x)

-- r tells whether the byte b stands at i
pub record Has (s : List ℕ) (i b : ℕ) (r : Bool) : Type 0 where
  pub told : r ≡ prefix (b ∷ []) (drop i s)

-- past its end a source reads as 0, so any other byte stands where it is read
pub has_read : {s : List ℕ} {i b : ℕ} {r : Bool} → Has s i b r → 0 < b → eqb (get_or s i 0) b ≡ r
has_read {s} {i} {b} h n = sym (h.told ∙ go (dec_lt i (length s)))
  where
    go : Dec (i < length s) → prefix (b ∷ []) (drop i s) ≡ eqb (get_or s i 0) b
    go (yes l) = prefix_byte b s i l
    go (no l) =
        let past : length s ≤ i = omega arith in
        sym (prefix_short (b ∷ []) 0 s i (omega arith) past) ∙ sym (ne_eqb (get_or s i 0) b (λ e. omega (arith, get_or-eq_default s 0 past)))

-- where the match has failed, any pattern that fails at i may be what is left there
pub failed : {p : Pat} {s : List ℕ} {at b : ℕ} → b ≡ at + longest p (drop at s) → (q : Pat) (i : ℕ) → nullable q ≡ false
    → (i < length s → deriv (get_or s i 0) q ≡ nothing) → Came p s at q i b
failed {s} {b} e q i n d = record { same = sym e ∙ rw n at (ends q s i b d) }
