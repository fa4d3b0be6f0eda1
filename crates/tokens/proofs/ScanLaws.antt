-- What holds of every scan: a token is never empty, starts at the place and ends within the source; none is answered exactly at the
-- end. Proved once over any modes and rules: a choice takes at least one byte, and no rule more than there are. Assumes nothing.
use Rattle.std.specs.Prelude.{ℕ, zero, suc, ◌-◌, ◌≤◌, true, ◌↔◌, drop, Option, Some, None, IfSome}
use Rattle.std.proofs.Math.Path.{◌≡◌, refl}
use mathlib.Core.List.{List, [], ◌∷◌}
use Rattle.std.proofs.Common.{arith, length-drop}
use Rattle.std.proofs.Math.ListN.{length}
use Rattle.patterns.specs.declared.Char.{Char}
use Rattle.patterns.specs.Utf8.{Class, between, decode, whole}
use Rattle.patterns.specs.Lists.{each}
use Rattle.patterns.proofs.Lists.{each_right}
use Rattle.patterns.proofs.Longest.{longest_le}
use Rattle.tokens.specs.declared.Mode.{Mode}
use Rattle.tokens.specs.declared.Mode.TheVariants.{Normal, HexPattern, HexJump}
use Rattle.tokens.specs.declared.Choice.{Choice}
use Rattle.tokens.specs.declared.Token.{Token}
use Rattle.tokens.specs.Kinds.{INVALID_UTF8, UNKNOWN}
use Rattle.tokens.specs.Tokens.{Tables, tables_1}
use Rattle.tokens.specs.Scan.{Scanned, best, rules, tried, plain, unmatched, or_else, choose, scan_rest, scan}
use Rattle.tokens.proofs.BestLaws.{best_le, best_rule}
use Rattle.tokens.specs.ScanLaws.{Allowed, Fair, Step}

unmatched_fair : (f : Option Char) (s : List ℕ) → 1 ≤ length s → Fair (length s) (unmatched f s)
unfolding unmatched
unmatched_fair None s h = record { moves = omega arith; inside = h }
unmatched_fair (Some c) s h = record { moves = omega arith; inside = omega (arith, longest_le plain s) }

or_else_fair : (m : Mode) (k n l : ℕ) (next : Choice) → n ≤ l → Fair l next → Fair l (or_else m k n next)
or_else_fair m k zero l next h f = f
or_else_fair m k (suc n) l next h f = record { moves = omega arith; inside = h }

choose_fair : (t : Tables) (ms : List Mode) (s : List ℕ) → 1 ≤ length s → Fair (length s) (choose t ms s)
unfolding choose
choose_fair t [] s h = unmatched_fair (decode s) s h
choose_fair t (m ∷ ms) s h =
    or_else_fair m (best (rules t m) s).kind (best (rules t m) s).len (length s) (choose t ms s) (best_le (rules t m) s) (choose_fair t ms s h)

rest_allowed : (t : Tables) (src : List ℕ) (at : ℕ) (m : Mode) (s : List ℕ) → length s ≡ length src - at → Allowed src at (scan_rest t m at s)
unfolding scan_rest Allowed
rest_allowed t src at m [] e = omega arith
rest_allowed t src at m (b ∷ s) e =
    let f : Fair (length (b ∷ s)) (choose t (tried m) (b ∷ s)) = choose_fair t (tried m) (b ∷ s) (omega arith) in
    record { starts = refl; longer = omega (arith, f.moves); within = omega (arith, f.inside) }

module _ (t : Tables) (src : List ℕ) (at : ℕ) (m : Mode) where
  allowed : Allowed src at (scan t src at m)
  unfolding scan
  allowed = rest_allowed t src at m (drop at src) (length-drop at src)

  pub scan_found : (x : Token) (m' : Mode) → scan t src at m ≡ Some (x, m') → Step src at x
  unfolding Allowed
  scan_found x m' e = rw e at allowed

  pub scan_end : (scan t src at m ≡ None) ↔ (length src ≤ at)
  unfolding Allowed
  scan_end = (λ e. rw e at allowed, λ h. past (scan t src at m) allowed h)
    where
      past : (y : Scanned) → Allowed src at y → length src ≤ at → y ≡ None
      past None a h = refl
      past (Some (x, m')) a h = absurd (omega (arith, a.longer, a.within))

-- The kinds: where every rule's kind is in a class, and those of the two tokens that no rule makes, every token's kind is.
module _ (c : Class) (t : Tables) (listed : (m : Mode) → each (λ r. c r.kind) (rules t m) ≡ true) (invalid : c INVALID_UTF8 ≡ true) (unknown : c UNKNOWN ≡ true) where
  unmatched_kind : (f : Option Char) (s : List ℕ) → c (unmatched f s).kind ≡ true
  unfolding unmatched
  unmatched_kind None s = invalid
  unmatched_kind (Some c) s = unknown

  or_else_kind : (m : Mode) (k n : ℕ) (next : Choice) → (1 ≤ n → c k ≡ true) → c next.kind ≡ true → c (or_else m k n next).kind ≡ true
  or_else_kind m k zero next f g = g
  or_else_kind m k (suc n) next f g = f (omega arith)

  choose_kind : (ms : List Mode) (s : List ℕ) → c (choose t ms s).kind ≡ true
  unfolding choose
  choose_kind [] s = unmatched_kind (decode s) s
  choose_kind (m ∷ ms) s =
      or_else_kind m (best (rules t m) s).kind (best (rules t m) s).len (choose t ms s)
      (best_rule (λ k. c k ≡ true) (rules t m) s (each_right (λ r. c r.kind) (rules t m) (listed m))) (choose_kind ms s)

  rest_kind : (m : Mode) (at : ℕ) (s : List ℕ) → IfSome (scan_rest t m at s) (λ p. c p.0.kind ≡ true)
  unfolding scan_rest
  rest_kind m at [] = tt
  rest_kind m at (b ∷ s) = choose_kind (tried m) (b ∷ s)

  pub scan_kind : (src : List ℕ) (at : ℕ) (m : Mode) (x : Token) (m' : Mode) → scan t src at m ≡ Some (x, m') → c x.kind ≡ true
  unfolding scan
  scan_kind src at m x m' e = rw e at (rest_kind m at (drop at src))

-- document 01's kinds
pub kinds_1 : (m : Mode) → each (λ r. between 1 82 r.kind) (rules tables_1 m) ≡ true
unfolding rules
kinds_1 Normal = refl
kinds_1 HexPattern = refl
kinds_1 HexJump = refl
