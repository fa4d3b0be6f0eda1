-- `texts::pair` meets its contract: each answer is what the tests that led to it make of `pair_at`.
-- Assumes nothing.
use Rattle.std.proofs.Common.{ℕ, ◌+◌, ◌≡◌, ◌<◌, ◌≤◌, ap, ◌∙◌, Bool, false, not, List, length, eqb, eq-eqb, ne_eqb, lt-ltb, le-ltb, rules, tests, Option, Some, None, MatchOption, Bor}
use Rattle.std.specs.List.{HoldsAt}
use Rattle.std.proofs.Math.Bool.{or-false}
use Rattle.tokens.specs.Tokens.{none_of}
use Rattle.places.specs.Places.{stands}
use Rattle.texts.specs.Items.{pair_at}
use Rattle.texts.proofs.pair.Goals as goal

-- what is behind the backslash, if anything is
behind : (s : List ℕ) (i : ℕ) (o : Option (Bor ℕ)) {Q : Bor ℕ → Type 0} {r : Bool} → MatchOption o (length s ≤ i) (λ x. (i < length s) × HoldsAt (λ y. x.now ≡ y) s i)
    → MatchOption o (r ≡ false) Q → ((x : Bor ℕ) → Q x → r ≡ not (eqb x.now 10)) → r ≡ stands (none_of "\n") s i
behind s i None past e q = simp (le-ltb i (length s) past) e
behind s i (Some x) h e q = simp (lt-ltb i (length s) h.0, or-false) (q x e ∙ ap (λ (y : ℕ). not (eqb y 10)) (h.1 0))

pub returns-then-src-at-eq92 : goal.returns-then-src-at-eq92
unfolding pair_at
returns-then-src-at-eq92 c =
    let a = c.args in
    simp (lt-ltb _ _ c.requires, eq-eqb _ _ c.if-src-at-eq92.true, or-false)
    (simp or-false at (behind a.src.now (a.at + 1) c.get.result c.get.ensures.lookup.3 c.is_some_and.ensures (λ x q. search (rules, tests))))

pub returns-else-src-at-eq92 : goal.returns-else-src-at-eq92
unfolding pair_at
returns-else-src-at-eq92 c = simp (lt-ltb _ _ c.requires, ne_eqb _ _ c.if-src-at-eq92.false)
