-- Runs of ten, found by halves in a table of their first values: what a search has come to, and what it says in the end. The one rule that
-- the table has to meet, that each run ends before the next begins, is computed (nd_spaced). Assumes nothing.
use Rattle.std.specs.Prelude.{ℕ, zero, suc, ◌+◌, ◌-◌, ◌≤◌, ◌<◌, ◌≡◌, refl, true, false, List, [], ◌∷◌, length, get_or, leb, ltb}
use Rattle.std.specs.List.Sorted.{IsPartitionPoint}
use Rattle.std.proofs.Common.{sym, arith, le-leb, leb-true, leb-false, lt-ltb, le-ltb}
use Rattle.std.proofs.lemmas.Bool.{lt-leb}
use Rattle.patterns.proofs.Bools.{and_first, and_second, by_test}
use Rattle.tokens.specs.Unicode.{in_runs}
use Rattle.tokens.specs.Examples.{spaced}

rest_spaced : (d : ℕ) (ds : List ℕ) → spaced (d ∷ ds) ≡ true → spaced ds ≡ true
rest_spaced d [] r = refl
rest_spaced d (e ∷ ds) r = and_second (leb (d + 10) e) (spaced (e ∷ ds)) r

first_gap : (d e : ℕ) (ds : List ℕ) → spaced (d ∷ e ∷ ds) ≡ true → d + 10 ≤ e
first_gap d e ds r = leb-true (d + 10) e (and_first (leb (d + 10) e) (spaced (e ∷ ds)) r)

-- so the first run ends before any other begins
gap : (d : ℕ) (ds : List ℕ) → spaced (d ∷ ds) ≡ true → (k : ℕ) → k < length ds → d + 10 ≤ get_or ds k 0
gap d [] r k h = absurd (omega arith)
gap d (e ∷ ds) r zero h = first_gap d e ds r
gap d (e ∷ ds) r (suc k) h = omega (arith, first_gap d e ds r, gap e ds (rest_spaced d (e ∷ ds) r) k (omega arith))

-- and their first values rise
pub rises : (ds : List ℕ) → spaced ds ≡ true → (i j : ℕ) → i ≤ j → j < length ds → get_or ds i 0 ≤ get_or ds j 0
rises [] r i j o h = absurd (omega arith)
rises (d ∷ ds) r zero zero o h = omega arith
rises (d ∷ ds) r zero (suc j) o h = omega (arith, gap d ds r j (omega arith))
rises (d ∷ ds) r (suc i) zero o h = absurd (omega arith)
rises (d ∷ ds) r (suc i) (suc j) o h = rises ds (rest_spaced d ds r) i j (omega arith) (omega arith)

module _ (v : ℕ) where
  -- before the first run
  before : (ds : List ℕ) → spaced ds ≡ true → (0 < length ds → v < get_or ds 0 0) → in_runs ds v ≡ false
  before [] r h = refl
  before (d ∷ ds) r h =
      rw (lt-leb d v (h (omega arith))) (before ds (rest_spaced d ds r) (λ l. omega (arith, h (omega arith), gap d ds r 0 l)))

  -- at the run k or behind it, and before the next
  within : (ds : List ℕ) → spaced ds ≡ true → (k : ℕ) → k < length ds → get_or ds k 0 ≤ v → (suc k < length ds → v < get_or ds (suc k) 0)
      → ltb (v - get_or ds k 0) 10 ≡ in_runs ds v
  within [] r k h l u = absurd (omega arith)
  within (d ∷ ds) r zero h l u =
      rw (le-leb d v l, before ds (rest_spaced d ds r) (λ g. u (omega arith)))
      (by_test (leb v (d + 9)) (λ t. rw (t, lt-ltb (v - d) 10 (omega (arith, leb-true v (d + 9) t)))) (λ t. rw (t, le-ltb (v - d) 10 (omega (arith, leb-false v (d + 9) t)))))
  within (d ∷ ds) r (suc k) h l u =
      rw (le-leb d v (omega (arith, gap d ds r k (omega arith))), lt-leb v (d + 9) (omega (arith, gap d ds r k (omega arith))))
      (within ds (rest_spaced d ds r) k (omega arith) l (λ g. u (omega arith)))

-- what a search for v has come to: the run before low begins at or before v, and the run at high after it
pub record Around (ds : List ℕ) (v low high : ℕ) : Type 0 where
  pub order : low ≤ high
  pub inside : high ≤ length ds
  pub below : (low ≡ 0 → ⊥) → get_or ds (low - 1) 0 ≤ v
  pub above : high < length ds → v < get_or ds high 0

module _ (ds : List ℕ) (v : ℕ) where
  pub whole_table : Around ds v 0 (length ds)
  whole_table = record { order = omega arith; inside = omega arith; below = λ z. absurd (z refl); above = λ h. absurd (omega arith) }

  -- where the runs that begin at or before v end
  pub parted : {n : ℕ} → n ≤ length ds → IsPartitionPoint (λ d. leb d v ≡ true) (λ d. leb d v ≡ false) ds n → Around ds v n n
  parted {n} h p = record {
    order = omega arith;
    inside = h;
    below = λ z. leb-true (get_or ds (n - 1) 0) v (p.0 (n - 1) 0 (omega arith) (omega (arith, h)));
    above = λ l. leb-false (get_or ds n 0) v (p.1 n 0 (omega arith) l);
  }

  module _ {low high : ℕ} (a : Around ds v low high) where
    pub go_up : (m : ℕ) → m < high → get_or ds m 0 ≤ v → Around ds v (m + 1) high
    go_up m h g = record {
      order = omega arith;
      inside = a.inside;
      below = λ z. let e : m + 1 - 1 ≡ m = omega arith in rw e g;
      above = a.above;
    }

    pub go_down : (m : ℕ) → low ≤ m → m < high → v < get_or ds m 0 → Around ds v low m
    go_down m l h g = record { order = l; inside = omega (arith, a.inside); below = a.below; above = λ k. g }

    pub not_found : spaced ds ≡ true → high ≤ low → low ≡ 0 → false ≡ in_runs ds v
    not_found r h z = let e : high ≡ 0 = omega arith in sym (before v ds r (rw e at a.above))

    pub found : spaced ds ≡ true → high ≤ low → (low ≡ 0 → ⊥) → ltb (v - get_or ds (low - 1) 0) 10 ≡ in_runs ds v
    found r h z =
        let e : high ≡ suc (low - 1) = omega arith in
        within v ds r (low - 1) (omega (arith, a.inside)) (a.below z) (rw e at a.above)
