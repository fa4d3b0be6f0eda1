-- What holds of a call's reply where it is refused and where it is not holds of it; and what every call keeps, calls keep.
-- By induction on the grounds, and on the calls. Assumes nothing.
use Rattle.std.specs.Prelude.{ℕ, Bool}
use mathlib.Core.List.{List, [], ◌∷◌}
use Rattle.patterns.proofs.Bools.{by_test}
use Rattle.patterns.specs.Lists.{All}
use Rattle.refusals.specs.Calls.{Reply, reply, unless, after_all}
use Rattle.event_view.specs.CallLaws.{Clear}

-- of the replies of two calls with the same grounds
module _ {A S T : Type 0} (refused : ℕ → A) (s : S) (t : T) (x : Reply A S) (y : Reply A T) (R : Reply A S → Reply A T → Type 0) where
  pub both_ways : (gs : List (Bool × ℕ)) → All (λ (g : Bool × ℕ). R (reply (refused g.1) s) (reply (refused g.1) t)) gs
      → (Clear gs → R x y) → R (unless refused gs s x) (unless refused gs t y)
  both_ways [] a f = f tt
  both_ways (g ∷ gs) a f = by_test g.0 (λ e. rw e a.0) (λ e. rw e (both_ways gs a.1 (λ c. f (e, c))))

-- whatever the number
pub any_number : (P : ℕ → Type 0) → ((n : ℕ) → P n) → (gs : List (Bool × ℕ)) → All (λ (g : Bool × ℕ). P g.1) gs
any_number P f [] = tt
any_number P f (g ∷ gs) = (f g.1, any_number P f gs)

-- of one reply
module _ {A S : Type 0} (refused : ℕ → A) (s : S) (x : Reply A S) (P : Reply A S → Type 0) where
  pub either_way : (gs : List (Bool × ℕ)) → ((n : ℕ) → P (reply (refused n) s)) → (Clear gs → P x) → P (unless refused gs s x)
  either_way gs h f = both_ways refused s s x x (λ a b. P a) gs (any_number (λ n. P (reply (refused n) s)) h gs) f

module _ {C A S : Type 0} (f : C → S → Reply A S) (P : S → Type 0) (h : (c : C) (s : S) → P s → P (f c s).after) where
  pub always : (cs : List C) (s : S) → P s → P (after_all f cs s)
  unfolding after_all
  always [] s p = p
  always (c ∷ cs) s p = always cs (f c s).after (h c s p)
