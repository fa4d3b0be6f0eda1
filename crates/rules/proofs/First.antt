-- Which rules can start with which byte. That all others are dead at a first byte is one test, computed over the 256 bytes and the
-- rules of each mode; a rule that is dead there matches nothing, so it may be left out. Past the end none matches. Assumes nothing.
use Rattle.std.specs.Prelude.{ℕ, suc, ◌≤◌, ◌<◌, ◌≡◌, refl, Bool, true, false, cond, ◌||◌, List, [], ◌∷◌, length, drop}
use Rattle.std.proofs.Common.{sym, ap, ◌∙◌, ⊎_elim, arith, drop-cons}
use Rattle.std.proofs.lemmas.Bool.{false≢true}
use Rattle.std.proofs.Math.Decide.{dec_lt}
use Rattle.patterns.specs.Pattern.{Pat, nothing, empty, byte, char, part, seq, alt, star, nullable, is_nothing, deriv, walk, longest}
use Rattle.patterns.proofs.Bools.{and_first, and_second, or_cases}
use Rattle.patterns.proofs.Walk.{dead}
use Rattle.patterns.specs.Apart.{each_byte}
use Rattle.patterns.proofs.Apart.{at_byte}
use Rattle.tokens.specs.declared.Mode.{Mode}
use Rattle.tokens.specs.declared.Mode.TheVariants.{Normal, HexPattern, HexJump}
use Rattle.tokens.specs.Tokens.{Rule, tables_1, one_of}
use Rattle.tokens.specs.Scan.{hit, better, best, rules}
use Rattle.places.specs.Signs.{Byte}
use Rattle.rules.proofs.Better.{past_end}
use Rattle.rules.specs.First.{First, alone, first_kinds, keep, only, others_dead}

-- The rules of some kinds, and whether the others are dead at a byte.

nothing_is : (r : Pat) → is_nothing r ≡ true → r ≡ nothing
nothing_is nothing e = refl
nothing_is empty e = absurd (false≢true e)
nothing_is (byte p) e = absurd (false≢true e)
nothing_is (char p) e = absurd (false≢true e)
nothing_is (part p low high k bits) e = absurd (false≢true e)
nothing_is (seq a r) e = absurd (false≢true e)
nothing_is (alt a r) e = absurd (false≢true e)
nothing_is (star a) e = absurd (false≢true e)

dead_longest : (r : Pat) (b : ℕ) (s : List ℕ) → is_nothing (deriv b r) ≡ true → longest r (b ∷ s) ≡ 0
unfolding walk
dead_longest r b s e = ap (λ (q : Pat). walk q s 1 (cond (nullable r) 0 0)) (nothing_is (deriv b r) e) ∙ dead s 1 (cond (nullable r) 0 0) ∙ go (nullable r)
  where
    go : (t : Bool) → ◌≡◌ {A = ℕ} (cond t 0 0) 0
    go true = refl
    go false = refl

narrow : (ks : List ℕ) (rs : List Rule) (b : ℕ) (s : List ℕ) → others_dead ks rs b ≡ true → best rs (b ∷ s) ≡ best (only ks rs) (b ∷ s)
unfolding best others_dead
narrow ks [] b s e = refl
narrow ks (r ∷ rs) b s e =
    go (one_of ks r.kind) (and_first (is_nothing (deriv b r.pattern) || one_of ks r.kind) (others_dead ks rs b) e)
    (narrow ks rs b s (and_second (is_nothing (deriv b r.pattern) || one_of ks r.kind) (others_dead ks rs b) e))
  where
    gone : is_nothing (deriv b r.pattern) ≡ true → best rs (b ∷ s) ≡ best (only ks rs) (b ∷ s)
        → better (hit r.kind (longest r.pattern (b ∷ s))) (best rs (b ∷ s)) ≡ best (only ks rs) (b ∷ s)
    gone q h = ap (λ (n : ℕ). better (hit r.kind n) (best rs (b ∷ s))) (dead_longest r.pattern b s q) ∙ h

    go : (t : Bool) → (is_nothing (deriv b r.pattern) || t) ≡ true → best rs (b ∷ s) ≡ best (only ks rs) (b ∷ s)
        → better (hit r.kind (longest r.pattern (b ∷ s))) (best rs (b ∷ s)) ≡ best (keep t r (only ks rs)) (b ∷ s)
    go true q h = ap (better (hit r.kind (longest r.pattern (b ∷ s)))) h
    go false q h = ⊎_elim (λ y. gone y h) (λ y. absurd (false≢true y)) (or_cases (is_nothing (deriv b r.pattern)) false q)

-- The kinds that can start with a byte, in the order in which the code tests it.

all_alone : (m : Mode) → each_byte (alone m) ≡ true
unfolding each_byte alone
all_alone Normal = refl
all_alone HexPattern = refl
all_alone HexJump = refl

pub by_first : (m : Mode) {s : List ℕ} {at b : ℕ} → First s at b → best (rules tables_1 m) (drop at s) ≡ best (only (first_kinds m b) (rules tables_1 m)) (drop at s)
unfolding alone
by_first m {s} {at} {b} p = go (dec_lt at (length s))
  where
    go : Dec (at < length s) → best (rules tables_1 m) (drop at s) ≡ best (only (first_kinds m b) (rules tables_1 m)) (drop at s)
    go (yes h) =
        let e : drop at s ≡ b ∷ drop (suc at) s = drop-cons s at 0 h ∙ ap (λ (x : ℕ). x ∷ drop (suc at) s) (sym p.byte.is) in
        ap (best (rules tables_1 m)) e
        ∙ narrow (first_kinds m b) (rules tables_1 m) b (drop (suc at) s) (at_byte (alone m) (all_alone m) b p.small)
        ∙ ap (best (only (first_kinds m b) (rules tables_1 m))) (sym e)
    go (no h) =
        let e : length s ≤ at = omega arith in
        sym (past_end s at (rules tables_1 m) e) ∙ past_end s at (only (first_kinds m b) (rules tables_1 m)) e

-- what the code knows of the byte that it looks at
pub first_byte : {s : List ℕ} {at b : ℕ} → Byte s at b → b < 256 → First s at b
first_byte p h = record { byte = p; small = h }
