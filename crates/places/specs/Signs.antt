-- Spellings of one or two bytes, none of them 0: which stands at a place is told by the byte there and the next one, 0 standing for
-- the end. By induction on the spellings: a literal's longest match is all of it or nothing (literal_longest). Assumes nothing.
use Rattle.std.specs.Prelude.{ℕ, ◌+◌, ◌<◌, ◌≡◌, refl, Bool, true, false, cond, ◌&&◌, List, [], ◌∷◌, map, length, get_or, drop, eqb, leb, Option, Some, None}
use Rattle.std.proofs.Common.{sym, ap, ◌∙◌, true≢false, add-zero, arith, get_or-drop, ne_eqb, leb-true}
use Rattle.std.proofs.Math.Bool.{and-true}
use Rattle.std.proofs.lemmas.Bool.{false≢true}
use Rattle.patterns.proofs.Bools.{and_first, and_second}
use Rattle.patterns.specs.Lists.{each}
use Rattle.patterns.specs.Pattern.{literal, longest}
use Rattle.patterns.specs.Walk.{prefix}
use Rattle.patterns.proofs.Walk.{byte_within, literal_longest}
use Rattle.tokens.specs.declared.Hit.{Hit}
use Rattle.tokens.specs.Tokens.{Spelling, spelled, one_of}
use Rattle.tokens.specs.NoneOf.{NoneOf}
use Rattle.tokens.proofs.NoneOf.{not_one}
use Rattle.tokens.specs.Scan.{hit, better, best}

-- how many bytes a spelling takes where the bytes a and b stand
abbrev taken : List ℕ → ℕ → ℕ → ℕ
taken [] a b = 0
taken (x ∷ []) a b = cond (eqb a x) 1 0
taken (x ∷ y ∷ []) a b = cond (eqb a x && eqb b y) 2 0
taken (x ∷ y ∷ z ∷ zs) a b = 0

-- a hit as the code has it: none where nothing is matched
abbrev pub matched : Hit → Option Hit
matched h = cond (leb 1 h.len) (Some h) None

-- and as the definition has it: a kind and a length, both 0 where there is none
abbrev pub hit_of : Option Hit → Hit
hit_of None = hit 0 0
hit_of (Some h) = h

-- the best of some spellings where they stand
abbrev pub told : List Spelling → ℕ → ℕ → Hit
told [] a b = hit 0 0
told (w ∷ ws) a b = better (hit w.kind (taken w.bytes a b)) (told ws a b)

-- one or two bytes, none of them 0
abbrev pub short : List ℕ → Bool
short [] = false
short (x ∷ []) = leb 1 x
short (x ∷ y ∷ []) = leb 1 x && leb 1 y
short (x ∷ y ∷ z ∷ zs) = false

-- 0 is no byte of a spelling
no_end : (x : ℕ) → leb 1 x ≡ true → eqb 0 x ≡ false
no_end x h = ne_eqb 0 x (λ e. omega (arith, leb-true 1 x h))

literal_taken : (ys s : List ℕ) → short ys ≡ true → longest (literal ys) s ≡ taken ys (get_or s 0 0) (get_or s 1 0)
unfolding prefix
literal_taken [] s h = absurd (false≢true h)
literal_taken (x ∷ []) [] h = literal_longest (x ∷ []) [] ∙ rw (no_end x h)
literal_taken (x ∷ []) (a ∷ s) h = literal_longest (x ∷ []) (a ∷ s) ∙ rw and-true
literal_taken (x ∷ y ∷ []) [] h = literal_longest (x ∷ y ∷ []) [] ∙ rw (no_end x (and_first (leb 1 x) (leb 1 y) h))
literal_taken (x ∷ y ∷ []) (a ∷ []) h = literal_longest (x ∷ y ∷ []) (a ∷ []) ∙ rw (no_end y (and_second (leb 1 x) (leb 1 y) h))
literal_taken (x ∷ y ∷ []) (a ∷ b ∷ s) h = literal_longest (x ∷ y ∷ []) (a ∷ b ∷ s) ∙ rw and-true
literal_taken (x ∷ y ∷ z ∷ zs) s h = absurd (false≢true h)

best_told : (ws : List Spelling) (s : List ℕ) → each (λ w. short w.bytes) ws ≡ true → best (map spelled ws) s ≡ told ws (get_or s 0 0) (get_or s 1 0)
unfolding best
best_told [] s h = refl
best_told (w ∷ ws) s h =
    rw (literal_taken w.bytes s (and_first (short w.bytes) (each (λ w. short w.bytes) ws) h), best_told ws s (and_second (short w.bytes) (each (λ w. short w.bytes) ws) h))

-- A byte with which no spelling begins: it is none of `firsts`, and each spelling begins with one of those.
module _ (firsts : List ℕ) (a b : ℕ) (h : one_of firsts a ≡ false) where
  differs : (x : ℕ) → one_of firsts x ≡ true → eqb a x ≡ false
  differs x e = ne_eqb a x (λ q. true≢false (sym e ∙ ap (one_of firsts) (sym q) ∙ h))

  none_taken : (ys : List ℕ) → one_of firsts (get_or ys 0 0) ≡ true → taken ys a b ≡ 0
  none_taken [] e = refl
  none_taken (x ∷ []) e = rw (differs x e)
  none_taken (x ∷ y ∷ []) e = rw (differs x e)
  none_taken (x ∷ y ∷ z ∷ zs) e = refl

  none_told : (ws : List Spelling) → each (λ w. one_of firsts (get_or w.bytes 0 0)) ws ≡ true → told ws a b ≡ hit 0 0
  none_told [] e = refl
  none_told (w ∷ ws) e =
      let f : (Spelling → Bool) = λ w. one_of firsts (get_or w.bytes 0 0) in
      rw (none_taken w.bytes (and_first (f w) (each f ws) e)) (none_told ws (and_second (f w) (each f ws) e))

-- b is the byte at the place i, or 0 past the end
pub record Byte (s : List ℕ) (i b : ℕ) : Type 0 where
  pub is : b ≡ get_or s i 0

pub inside : {s : List ℕ} {i b : ℕ} → Byte s i b → (b ≡ 0 → ⊥) → i < length s
inside {s} {i} r h = byte_within s i (λ z. h (r.is ∙ z))

module _ (ws : List Spelling) (tidy : each (λ w. short w.bytes) ws ≡ true) {s : List ℕ} {at a : ℕ} (r : Byte s at a) where
  told_at : best (map spelled ws) (drop at s) ≡ told ws a (get_or s (at + 1) 0)
  told_at = best_told ws (drop at s) tidy ∙ rw (get_or-drop at s 0 0, get_or-drop at s 1 0, add-zero, r.is)

  pub at_one : {x : ℕ} {h : Hit} → a ≡ x → h ≡ told ws x (get_or s (at + 1) 0) → h ≡ best (map spelled ws) (drop at s)
  at_one e q = q ∙ sym (told_at ∙ rw e)

  -- with the next byte, and where that is known
  pub at_next : {x b : ℕ} {h : Hit} → a ≡ x → Byte s (at + 1) b → h ≡ told ws x b → h ≡ best (map spelled ws) (drop at s)
  at_next e n q = at_one e (q ∙ rw n.is)

  pub at_two : {x b y : ℕ} {h : Hit} → a ≡ x → Byte s (at + 1) b → b ≡ y → h ≡ told ws x y → h ≡ best (map spelled ws) (drop at s)
  at_two e n f q = at_next e n (q ∙ rw f)

  pub at_none : (firsts : List ℕ) → each (λ w. one_of firsts (get_or w.bytes 0 0)) ws ≡ true → NoneOf firsts a → hit 0 0 ≡ best (map spelled ws) (drop at s)
  at_none firsts e n = sym (told_at ∙ none_told firsts a (get_or s (at + 1) 0) (not_one firsts a n) ws e)

  -- the same of hits as the code has them
  pub one_matched : {x : ℕ} {h : Option Hit} → a ≡ x → h ≡ matched (told ws x (get_or s (at + 1) 0)) → h ≡ matched (best (map spelled ws) (drop at s))
  one_matched e q = q ∙ ap matched (at_one e refl)

  pub next_matched : {x b : ℕ} {h : Option Hit} → a ≡ x → Byte s (at + 1) b → h ≡ matched (told ws x b) → h ≡ matched (best (map spelled ws) (drop at s))
  next_matched e n q = q ∙ ap matched (at_next e n refl)

  pub two_matched : {x b y : ℕ} {h : Option Hit} → a ≡ x → Byte s (at + 1) b → b ≡ y → h ≡ matched (told ws x y) → h ≡ matched (best (map spelled ws) (drop at s))
  two_matched e n f q = q ∙ ap matched (at_two e n f refl)

  pub none_matched : (firsts : List ℕ) → each (λ w. one_of firsts (get_or w.bytes 0 0)) ws ≡ true → NoneOf firsts a → None ≡ matched (best (map spelled ws) (drop at s))
  none_matched firsts e n = ap matched (at_none firsts e n)
