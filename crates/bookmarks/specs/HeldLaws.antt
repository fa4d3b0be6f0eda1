-- What the layers above need of an array of bookmarks that is in order: it is the live ones padded with 0, the first of them is the least,
-- and a bookmark that comes or goes leaves the padded list with it or without it. By induction on the live ones. Assumes nothing.
use Prim.Native.Nat.{ℕ, zero, suc, min, ◌+◌, ◌-◌, ◌≤◌, ◌<◌}
use Rattle.std.specs.Prelude.{◌≡◌, refl, true, ◌&&◌, get_or, take, eqb, leb, ltb}
use Rattle.std.proofs.Common.{sym, ◌∙◌, length-append, length-take, length-drop, take-append-drop, eqb-true, leb-true, ltb-true, ltb-false, eq-eqb, le-leb, lt-ltb}
use Rattle.std.proofs.Math.Path.{ap}
use Rattle.std.proofs.lemmas.Bool.{false≢true}
use mathlib.Core.List.{List, [], ◌∷◌, ◌++◌, append_assoc}
use Rattle.std.proofs.Math.Nat.{add-zero}
use native.Mathlib.Omega.{arith}
use Rattle.std.proofs.Math.ListN.{length, drop, replicate}
use Rattle.std.proofs.lemmas.List.{length-replicate, replicate-append-replicate}
use Rattle.std.proofs.Math.Seq.{take-append_seam, drop-append_seam, drop-append-add}
use Rattle.tokens.specs.declared.TokenIndex.{TokenIndex}
use Rattle.patterns.proofs.Bools.{and_first, and_second, by_test}
use Rattle.token_record.specs.Record.{bookmark_limit, member, without, least}
use Rattle.bookmarks.specs.Bookmarks.{unused_place, padded, in_order, unused, held, insert, low_of, inserted, removed}

-- What `held` says, and what follows on the array's two parts.
pub record Held (live top : ℕ) (a : List TokenIndex) : Type 0 where
  pub long : length a ≡ bookmark_limit
  pub few : live ≤ bookmark_limit
  pub ordered : in_order 0 top (take live a) ≡ true
  pub zeros : a ≡ padded (take live a)
  pub counted : length (take live a) ≡ live

unused_zeros : (l : List TokenIndex) → unused l ≡ true → l ≡ replicate (length l) unused_place
unfolding unused
unused_zeros [] e = refl
unused_zeros (m ∷ ms) e =
    let z : m.0 ≡ 0 = eqb-true m.0 0 (and_first (eqb m.0 0) (unused ms) e) in
    let h : m ≡ unused_place = ap (λ (k : ℕ). record { 0 = k }) z in
    rw (h, ← unused_zeros ms (and_second (eqb m.0 0) (unused ms) e))

zeros_unused : (n : ℕ) → unused (replicate n unused_place) ≡ true
unfolding unused
zeros_unused zero = refl
zeros_unused (suc n) = zeros_unused n

pub held_facts : {live top : ℕ} {a : List TokenIndex} → held live top a ≡ true → Held live top a
unfolding held
held_facts {live} {top} {a} e =
    let t = take live a in
    let sized = eqb (length a) bookmark_limit && leb live bookmark_limit in
    let front = and_first (sized && in_order 0 top t) (unused (drop live a)) e in
    let sizes = and_first sized (in_order 0 top t) front in
    let long : length a ≡ bookmark_limit = eqb-true (length a) bookmark_limit (and_first (eqb (length a) bookmark_limit) (leb live bookmark_limit) sizes) in
    let few : live ≤ bookmark_limit = leb-true live bookmark_limit (and_second (eqb (length a) bookmark_limit) (leb live bookmark_limit) sizes) in
    let counted : length t ≡ live = length-take live a ∙ omega arith in
    let back : drop live a ≡ replicate (length (drop live a)) unused_place
    = unused_zeros (drop live a) (and_second (sized && in_order 0 top t) (unused (drop live a)) e) in
    let left : length (drop live a) ≡ bookmark_limit - length t = omega (arith, length-drop live a) in
    record {
      long = long;
      few = few;
      ordered = and_second sized (in_order 0 top t) front;
      zeros = sym (take-append-drop live a) ∙ ap (λ (r : List TokenIndex). t ++ r) (back ∙ ap (λ (n : ℕ). replicate n unused_place) left);
      counted = counted;
    }

-- Where a list is in order, its first is its least.
pub least_le : (c : ℕ) (l : List TokenIndex) → least c l ≤ c
unfolding least
least_le c [] = omega arith
least_le c (m ∷ ms) = omega (arith, least_le c ms)

in_order_least : (low top c : ℕ) (l : List TokenIndex) → in_order low top l ≡ true → min low (least c l) ≡ min low c
unfolding in_order least
in_order_least low top c [] e = refl
in_order_least low top c (m ∷ ms) e =
    let h : low ≤ m.0 = leb-true low m.0 (and_first (leb low m.0) (in_order m.0 top ms) e) in
    omega (arith, in_order_least m.0 top c ms (and_second (leb low m.0) (in_order m.0 top ms) e))

first_least : (c : TokenIndex) (live top : ℕ) (a : List TokenIndex) → live ≤ length a → in_order 0 top (take live a) ≡ true
    → (low_of live (get_or a 0 unused_place) c).0 ≡ least c.0 (take live a)
unfolding low_of least in_order
first_least c zero top [] h e = refl
first_least c (suc n) top [] h e = absurd (omega arith)
first_least c zero top (m ∷ ms) h e = refl
first_least c (suc n) top (m ∷ ms) h e =
    let z : min m.0 (least c.0 (take n ms)) ≡ min m.0 c.0
    = in_order_least m.0 top c.0 (take n ms) (and_second (leb 0 m.0) (in_order m.0 top (take n ms)) e) in
    by_test (ltb m.0 c.0) (λ t. rw t (omega (arith, ltb-true m.0 c.0 t))) (λ t. rw t (omega (arith, ltb-false m.0 c.0 t)))

-- How many there are with one more, and with one less.
pub length_insert : (i : TokenIndex) (l : List TokenIndex) → length (insert i l) ≡ suc (length l)
unfolding insert
length_insert i [] = refl
length_insert i (m ∷ ms) = by_test (ltb i.0 m.0) (λ t. rw t) (λ t. rw t (ap suc (length_insert i ms)))

pub length_without : (i : TokenIndex) (l : List TokenIndex) → member i l ≡ true → suc (length (without i l)) ≡ length l
unfolding member without
length_without i [] e = absurd (false≢true e)
length_without i (m ∷ ms) e = by_test (eqb m.0 i.0) (λ t. rw t) (λ t. rw t (ap suc (length_without i ms (rw t at e))))

-- The least is found at the front; and what comes or goes.
module _ {live top : ℕ} {a : List TokenIndex} (h : Held live top a) where
  pub low_least : (c : TokenIndex) → (low_of live (get_or a 0 unused_place) c).0 ≡ least c.0 (take live a)
  low_least c = first_least c live top a (omega (arith, h.few, h.long)) h.ordered

  behind : (n : ℕ) → drop (live + n) a ≡ drop n (replicate (bookmark_limit - live) unused_place)
  behind n =
      let z : a ≡ take live a ++ replicate (bookmark_limit - live) unused_place
      = h.zeros ∙ ap (λ (k : ℕ). take live a ++ replicate (bookmark_limit - k) unused_place) h.counted in
      ap (drop (live + n)) z ∙ ap (λ (k : ℕ). drop (k + n) (take live a ++ replicate (bookmark_limit - live) unused_place)) (sym h.counted)
      ∙ drop-append-add (take live a) (replicate (bookmark_limit - live) unused_place) n

  pub inserted_padded : (i : TokenIndex) → live < bookmark_limit → inserted live i a ≡ padded (insert i (take live a))
  unfolding inserted
  inserted_padded i few =
      let one : live + 1 ≡ suc live = omega arith in
      let all : bookmark_limit - live ≡ suc (bookmark_limit - suc live) = omega arith in
      let n : length (insert i (take live a)) ≡ suc live = length_insert i (take live a) ∙ ap suc h.counted in
      let z : drop (suc live) a ≡ replicate (bookmark_limit - suc live) unused_place = rw (all, one) at (behind 1) in
      rw (lt-ltb live bookmark_limit few, n, z)

  pub removed_padded : (i : TokenIndex) → member i (take live a) ≡ true → removed live i a ≡ padded (without i (take live a))
  unfolding removed
  removed_padded i e =
      let w = without i (take live a) in
      let rest = bookmark_limit - live in
      let n : bookmark_limit - length w ≡ rest + 1 = omega (arith, length_without i (take live a) e, h.counted, h.few) in
      let z : drop live a ≡ replicate rest unused_place = rw add-zero at (behind 0) in
      rw (e, n, z, append_assoc) (ap (λ (r : List TokenIndex). w ++ r) (replicate-append-replicate rest 1 unused_place))

-- A padded list holds the list.
pub padded_take : (l : List TokenIndex) → take (length l) (padded l) ≡ l
padded_take l = take-append_seam l (replicate (bookmark_limit - length l) unused_place)

pub padded_held : (top : ℕ) (l : List TokenIndex) → length l ≤ bookmark_limit → in_order 0 top l ≡ true → held (length l) top (padded l) ≡ true
unfolding held
padded_held top l few ordered =
    let r = replicate (bookmark_limit - length l) unused_place in
    let n : length (padded l) ≡ bookmark_limit = omega (arith, length-append l r, length-replicate (bookmark_limit - length l) unused_place) in
    rw (eq-eqb (length (padded l)) bookmark_limit n, le-leb (length l) bookmark_limit few, padded_take l, ordered, drop-append_seam l r)
    (zeros_unused (bookmark_limit - length l))
