-- What the code tests of the bookmarks is what the definition does: of 64 places the length need not be looked at.
-- One look at the definition's cases. Assumes nothing.
use Prim.Native.Nat.{min}
use Rattle.std.specs.Prelude.{ℕ, zero, suc, ◌≤◌, ◌<◌, ◌≡◌, refl, false, cond, ◌&&◌, List, length, take, drop, ltb}
use Rattle.std.proofs.Common.{ap, arith}
use borrow.Author.Tests.{eq-eqb, le-leb, lt-leb, ltb-true, ltb-false}
use Rattle.patterns.proofs.Bools.{by_test}
use Rattle.tokens.specs.declared.TokenIndex.{TokenIndex}
use Rattle.token_record.specs.Record.{bookmark_limit}
use Rattle.bookmarks.specs.Bookmarks.{in_order, unused, held, low_of}

-- which of `held`'s tests are left, where there are 64 places
module _ (live top : ℕ) (a : List TokenIndex) (long : length a ≡ bookmark_limit) where
  pub held_many : bookmark_limit < live → false ≡ held live top a
  unfolding held
  held_many h = rw (eq-eqb (length a) bookmark_limit long, lt-leb live bookmark_limit h)

  pub held_tests : live ≤ bookmark_limit → (in_order 0 top (take live a) && unused (drop live a)) ≡ held live top a
  unfolding held
  held_tests h = rw (eq-eqb (length a) bookmark_limit long, le-leb live bookmark_limit h)

-- the low of none, and of some
pub low_none : (first i : TokenIndex) → low_of 0 first i ≡ i
unfolding low_of
low_none first i = refl

pub low_first : (live : ℕ) (first i : TokenIndex) → 0 < live → low_of live first i ≡ cond (ltb first.0 i.0) first i
unfolding low_of
low_first zero first i h = absurd (omega arith)
low_first (suc n) first i h = refl

-- it is the smaller of both
pub low_smaller : (live : ℕ) (first i : TokenIndex) → 0 < live → record { 0 = min first.0 i.0 } ≡ low_of live first i
low_smaller live first i h =
    rw (low_first live first i h)
    (by_test (ltb first.0 i.0)
    (λ t. rw t (ap (λ (n : ℕ). record { 0 = n }) (omega (arith, ltb-true first.0 i.0 t))))
    (λ t. rw t (ap (λ (n : ℕ). record { 0 = n }) (omega (arith, ltb-false first.0 i.0 t)))))
