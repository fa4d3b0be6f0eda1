-- `places::has_byte` meets its contract: past the end nothing stands, and else the byte there decides.
-- Assumes nothing.
use Rattle.std.proofs.Common.{ℕ, ◌≡◌, ◌<◌, ◌≤◌, sym, ap, ◌∙◌, List, [], ◌∷◌, length, drop, eqb, arith, Option, Some, None, MatchOption, Bor}
use Rattle.std.specs.Option.{option_eq}
use Rattle.std.specs.List.{HoldsAt}
use Rattle.patterns.specs.Walk.{prefix}
use Rattle.patterns.proofs.Walk.{prefix_short}
use Rattle.places.specs.Places.{prefix_byte}
use Rattle.places.proofs.has_byte.Goals as goal

-- b beside what is read at the place
read : (s : List ℕ) (at : ℕ) (o : Option (Bor ℕ)) (b : Bor ℕ) → MatchOption o (length s ≤ at) (λ x. (at < length s) × HoldsAt (λ y. x.now ≡ y) s at)
    → option_eq (λ (x : Bor ℕ) (y : Bor ℕ). eqb x.now y.now) o (Some b) ≡ prefix (b.now ∷ []) (drop at s)
read s at None b past = prefix_short (b.now ∷ []) 0 s at (omega arith) past
read s at (Some x) b h = ap (λ (y : ℕ). eqb y b.now) (h.1 0) ∙ sym (prefix_byte b.now s at h.0)

pub returns : goal.returns
returns c = record { told = c.eq.ensures ∙ read c.args.src.now c.args.at c.get.result _ c.get.ensures.lookup.3 }
