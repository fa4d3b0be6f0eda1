-- Low, the smaller of the current index and the least bookmark, is never lowered: a call moves the current index on or to a bookmark,
-- sets a bookmark there, or takes one away. And a list of bookmarks not above a number stays so. Assumes nothing.
use Rattle.std.specs.Prelude.{ℕ, ◌≤◌, ◌≡◌, true, List, [], ◌∷◌, eqb}
use Rattle.std.proofs.lemmas.Bool.{false≢true}
use Rattle.std.proofs.Common.{le_trans, arith, eqb-true}
use Rattle.patterns.proofs.Bools.{by_test}
use Rattle.tokens.specs.declared.TokenIndex.{TokenIndex}
use Rattle.token_record.specs.Record.{member, without, least}
use Rattle.demand3.specs.Lowest.{Below}

pub below_up : (top higher : ℕ) → top ≤ higher → (l : List TokenIndex) → Below top l → Below higher l
below_up top higher h [] a = tt
below_up top higher h (m ∷ ms) a = (le_trans a.0 h, below_up top higher h ms a.1)

pub below_without : (top : ℕ) (i : TokenIndex) (l : List TokenIndex) → Below top l → Below top (without i l)
unfolding without
below_without top i [] a = tt
below_without top i (m ∷ ms) a = by_test (eqb m.0 i.0) (λ e. rw e a.1) (λ e. rw e (a.0, below_without top i ms a.1))

pub below_member : (top : ℕ) (i : TokenIndex) (l : List TokenIndex) → Below top l → member i l ≡ true → i.0 ≤ top
unfolding member
below_member top i [] a h = absurd (false≢true h)
below_member top i (m ∷ ms) a h =
    by_test (eqb m.0 i.0) (λ e. omega (arith, a.0, eqb-true m.0 i.0 e)) (λ e. below_member top i ms a.1 (rw e at h))

-- what is below low and below another index is below low from there
pub least_from : (c d low : ℕ) (l : List TokenIndex) → low ≤ least c l → low ≤ d → low ≤ least d l
unfolding least
least_from c d low [] h g = g
least_from c d low (m ∷ ms) h g = omega (arith, least_from c d low ms (omega (arith, h)) g)

pub least_member : (c : ℕ) (i : TokenIndex) (l : List TokenIndex) → member i l ≡ true → least c l ≤ i.0
unfolding member least
least_member c i [] h = absurd (false≢true h)
least_member c i (m ∷ ms) h =
    by_test (eqb m.0 i.0) (λ e. omega (arith, eqb-true m.0 i.0 e)) (λ e. omega (arith, least_member c i ms (rw e at h)))

pub least_without : (c : ℕ) (i : TokenIndex) (l : List TokenIndex) → least c l ≤ least c (without i l)
unfolding without least
least_without c i [] = omega arith
least_without c i (m ∷ ms) = by_test (eqb m.0 i.0) (λ e. rw e (omega arith)) (λ e. rw e (omega (arith, least_without c i ms)))
