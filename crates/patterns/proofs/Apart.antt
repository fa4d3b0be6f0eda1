-- Two patterns with no text in common, by tests that are computed: byte by byte, as long as both are alive, they are never both done
-- (`apart`; `deriv_means` takes a byte off both); or one `needs` a byte that the other, `within` a class, never has. Assumes nothing.
use Rattle.std.specs.Prelude.{ℕ, zero, suc, ◌<◌, ◌≡◌, refl, Bool, true, false, not, ◌&&◌, ◌||◌, List, [], ◌∷◌, ◌++◌}
use Rattle.std.proofs.Common.{sym, ap, ◌∙◌, true≢false, ⊎_elim}
use Rattle.std.proofs.lemmas.Bool.{false≢true, not-true}
use Rattle.patterns.specs.Utf8.{Class}
use Rattle.patterns.specs.Pattern.{Pat, nothing, empty, byte, char, part, seq, alt, star, Many, done, again, Matches, nullable, is_nothing, deriv}
use Rattle.patterns.proofs.Bools.{and_both, and_first, and_second, or_cases, by_test}
use Rattle.patterns.specs.Lists.{each}
use Rattle.patterns.proofs.Lists.{all_append, each_member}
use Rattle.patterns.proofs.Meaning.{none_of_nothing, null_means, deriv_means}
use Rattle.patterns.specs.Apart.{Bytes, Disjoint, Only, apart, each_byte, live, needs, parted, within}

pub at_byte : (f : ℕ → Bool) → each_byte f ≡ true → (b : ℕ) → b < 256 → f b ≡ true
unfolding each_byte
at_byte f e b h = each_member 256 (λ b. true) f e b h refl

pub parted_right : (f : ℕ → Bool) (a r : Pat) → ((b : ℕ) → f b ≡ true → Disjoint (deriv b a) (deriv b r)) → parted (live a) f a r ≡ true → Disjoint a r
unfolding live
parted_right f a r g e [] h m n =
    let q : (nullable a && nullable r) ≡ false = not-true (nullable a && nullable r) (and_first (not (nullable a && nullable r)) (each f (live a)) e) in
    true≢false (sym (and_both (nullable a) (nullable r) ((null_means a).1 m) ((null_means r).1 n)) ∙ q)
parted_right f a r g e (b ∷ u) h m n =
    by_test (is_nothing (deriv b a)) (λ q. none_of_nothing (deriv b a) u q ((deriv_means a b u).1 m)) (λ q. g b (tested q) u h.1 ((deriv_means a b u).1 m) ((deriv_means r b u).1 n))
  where
    tested : is_nothing (deriv b a) ≡ false → f b ≡ true
    tested q =
        each_member 256 (λ b. not (is_nothing (deriv b a))) f (and_second (not (nullable a && nullable r)) (each f (live a)) e) b h.0
        (ap not q)

pub apart_right : (n : ℕ) (a r : Pat) → apart n a r ≡ true → Disjoint a r
unfolding apart
apart_right zero a r e u h m n = none_of_nothing r u e n
apart_right (suc k) a r e u h m n = go (is_nothing r) refl e (λ b. apart_right k (deriv b a) (deriv b r))
  where
    go : (t : Bool) → is_nothing r ≡ t → elim t [ true ↦ true | false ↦ parted (live a) (λ b. apart k (deriv b a) (deriv b r)) a r ] ≡ true
        → ((b : ℕ) → apart k (deriv b a) (deriv b r) ≡ true → Disjoint (deriv b a) (deriv b r)) → ⊥
    go true q e g = none_of_nothing r u q n
    go false q e g = parted_right (λ b. apart k (deriv b a) (deriv b r)) a r g e u h m n

-- a text in two parts
both_within : (c : Class) (s t u : List ℕ) → u ≡ s ++ t → Bytes u → (Bytes s → Only c s) → (Bytes t → Only c t) → Only c u
both_within c s t u e h f g =
    let k : Bytes s × Bytes t = (all_append (λ b. b < 256) s t).0 (rw e at h) in
    rw e ((all_append (λ b. c b ≡ true) s t).1 (f k.0, g k.1))

many_within : (c : Class) (P : List ℕ → Type 0) → ((u : List ℕ) → Bytes u → P u → Only c u) → (u : List ℕ) → Bytes u → Many P u → Only c u
many_within c P f u h (done e) = rw e tt
many_within c P f u h (again s t e m n) = both_within c s t u e h (λ k. f s k m) (λ k. many_within c P f t k n)

byte_within : (c p : Class) (b : ℕ) → (not (p b) || c b) ≡ true → p b ≡ true → c b ≡ true
byte_within c p b e q = ⊎_elim (λ z. absurd (true≢false (sym q ∙ not-true (p b) z))) (λ z. z) (or_cases (not (p b)) (c b) e)

pub within_right : (c : Class) (r : Pat) → within c r ≡ true → (u : List ℕ) → Bytes u → Matches r u → Only c u
unfolding within
within_right c nothing e u h m = absurd m
within_right c empty e u h m = rw m tt
within_right c (byte p) e u h m =
    rw m.read (byte_within c p m.value (at_byte (λ b. not (p b) || c b) e m.value (rw m.read at h).0) m.fits, tt)
within_right c (char p) e u h m = absurd (false≢true e)
within_right c (part p low high k bits) e u h m = absurd (false≢true e)
within_right c (seq a r) e u h m =
    both_within c m.front m.back u m.joined h (λ k. within_right c a (and_first (within c a) (within c r) e) m.front k m.first)
    (λ k. within_right c r (and_second (within c a) (within c r) e) m.back k m.second)
within_right c (alt a r) e u h m =
    ⊎_elim (λ x. within_right c a (and_first (within c a) (within c r) e) u h x) (λ x. within_right c r (and_second (within c a) (within c r) e) u h x) m
within_right c (star a) e u h m = many_within c (λ s. Matches a s) (λ s k x. within_right c a e s k x) u h m

pub needs_right : (c : Class) (r : Pat) → needs c r ≡ true → (u : List ℕ) → Bytes u → Matches r u → Only c u → ⊥
unfolding needs
needs_right c nothing e u h m o = m
needs_right c empty e u h m o = false≢true e
needs_right c (byte p) e u h m o =
    let k : (p m.value && c m.value) ≡ false =
    not-true (p m.value && c m.value) (at_byte (λ b. not (p b && c b)) e m.value (rw m.read at h).0) in
    true≢false (sym (and_both (p m.value) (c m.value) m.fits (rw m.read at o).0) ∙ k)
needs_right c (char p) e u h m o = false≢true e
needs_right c (part p low high k bits) e u h m o = false≢true e
needs_right c (seq a r) e u h m o =
    let k : Bytes m.front × Bytes m.back = (all_append (λ b. b < 256) m.front m.back).0 (rw m.joined at h) in
    let l : Only c m.front × Only c m.back = (all_append (λ b. c b ≡ true) m.front m.back).0 (rw m.joined at o) in
    ⊎_elim (λ q. needs_right c a q m.front k.0 m.first l.0) (λ q. needs_right c r q m.back k.1 m.second l.1) (or_cases (needs c a) (needs c r) e)
needs_right c (alt a r) e u h m o =
    ⊎_elim (λ x. needs_right c a (and_first (needs c a) (needs c r) e) u h x o) (λ x. needs_right c r (and_second (needs c a) (needs c r) e) u h x o) m
needs_right c (star a) e u h m o = false≢true e
