-- Two tables of digits that agree on every character of a source give the same scans of it: only the tails of words read the digits,
-- and tails of classes that agree are the same (longest_agree). Proved once over any list of modes. Assumes nothing.
use Rattle.std.specs.Prelude.{ℕ, ◌≡◌, Bool, ◌||◌, drop}
use Rattle.std.proofs.Math.Path.{refl, ap}
use Rattle.std.proofs.Common.{◌∙◌}
use mathlib.Core.List.{List, [], ◌∷◌, ◌++◌, map}
use Rattle.patterns.specs.Utf8.{Class}
use Rattle.patterns.specs.Pattern.{byte, seq, longest}
use Rattle.patterns.specs.Agree.{Agree}
use Rattle.patterns.proofs.Agree.{agree_drop, longest_agree}
use Rattle.tokens.specs.declared.Mode.{Mode}
use Rattle.tokens.specs.declared.Mode.TheVariants.{Normal, HexPattern, HexJump}
use Rattle.tokens.specs.declared.Hit.{Hit}
use Rattle.tokens.specs.Unicode.{in_runs}
use Rattle.tokens.specs.Tokens.{ascii, Rule, Spelling, spelled, Tables, operators, one_of, word_start, word_part, tail, newlines, shaped_rules, normal_rules}
use Rattle.tokens.specs.Scan.{hit, best, better, rules, tried, or_else, choose, found, scan_rest, scan}

-- the rest of a list of rules may be exchanged for one of the same hit
best_behind : (xs rs rs' : List Rule) (s : List ℕ) → best rs s ≡ best rs' s → best (xs ++ rs) s ≡ best (xs ++ rs') s
unfolding best
best_behind [] rs rs' s e = e
best_behind (x ∷ xs) rs rs' s e = ap (better (hit x.kind (longest x.pattern s))) (best_behind xs rs rs' s e)

-- two tables of digits and one list of keywords
module _ (digits digits' : List ℕ) (words : List Spelling) where
  abbrev pub t : Tables
  t = record { digits = digits; words = words }

  abbrev pub t' : Tables
  t' = record { digits = digits'; words = words }

  -- no character is a digit in one and not in the other
  abbrev pub SameDigits : List ℕ → Type 0
  SameDigits s = Agree (in_runs digits) (in_runs digits') s

  tail_agree : (s : List ℕ) → SameDigits s → (c : Class) → longest (seq (byte c) (tail digits)) s ≡ longest (seq (byte c) (tail digits')) s
  tail_agree s a c = longest_agree (word_part digits) (word_part digits') c s (λ k v n e. ap (λ (x : Bool). word_start v || x) (a k v n e))

  shaped_agree : (rs : List Rule) (s : List ℕ) → SameDigits s → best (shaped_rules digits ++ rs) s ≡ best (shaped_rules digits' ++ rs) s
  unfolding best shaped_rules
  shaped_agree rs s a =
      let e : (c : Class) → longest (seq (byte c) (tail digits)) s ≡ longest (seq (byte c) (tail digits')) s = tail_agree s a in
      rw (e (one_of (ascii "$")), e (one_of (ascii "#")), e (one_of (ascii "@")), e (one_of (ascii "!")), e word_start)

  rules_agree : (m : Mode) (s : List ℕ) → SameDigits s → best (rules t m) s ≡ best (rules t' m) s
  unfolding rules normal_rules
  rules_agree Normal s a = best_behind (map spelled words) _ _ s (best_behind (map spelled operators) _ _ s (shaped_agree (map spelled newlines) s a))
  rules_agree HexPattern s a = refl
  rules_agree HexJump s a = refl

  choose_agree : (ms : List Mode) (s : List ℕ) → SameDigits s → choose t ms s ≡ choose t' ms s
  unfolding choose
  choose_agree [] s a = refl
  choose_agree (m ∷ ms) s a =
      ap (λ (h : Hit). or_else m h.kind h.len (choose t ms s)) (rules_agree m s a)
      ∙ ap (or_else m (best (rules t' m) s).kind (best (rules t' m) s).len) (choose_agree ms s a)

  rest_agree : (m : Mode) (at : ℕ) (s : List ℕ) → SameDigits s → scan_rest t m at s ≡ scan_rest t' m at s
  unfolding scan_rest
  rest_agree m at [] a = refl
  rest_agree m at (b ∷ s) a = ap (found at) (choose_agree (tried m) (b ∷ s) a)

  pub scan_agree : (src : List ℕ) (at : ℕ) (m : Mode) → SameDigits src → scan t src at m ≡ scan t' src at m
  unfolding scan
  scan_agree src at m a = rest_agree m at (drop at src) (agree_drop (in_runs digits) (in_runs digits') src at a)
