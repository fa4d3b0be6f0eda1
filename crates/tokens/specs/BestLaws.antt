-- `best` is what document 01 says: the longest match wins, and of several that are as long the first rule in the list. By induction on
-- the rules, since `longest` finds each rule's longest match (longest_right). Assumes nothing.
use Rattle.std.specs.Prelude.{ℕ, suc, ◌≤◌, ◌≡◌, List, ◌∷◌, ◌++◌, length, take}
use Rattle.patterns.specs.Pattern.{Matches}
use Rattle.patterns.specs.Lists.{All}
use Rattle.patterns.specs.Longest.{Longest}
use Rattle.tokens.specs.declared.Hit.{Hit}
use Rattle.tokens.specs.Tokens.{Rule}
use Rattle.tokens.specs.Scan.{hit}

-- r matches no prefix of s of n bytes or more
abbrev pub Below : List ℕ → ℕ → Rule → Type 0
Below s n r = (m : ℕ) → n ≤ m → m ≤ length s → Matches r.pattern (take m s) → ⊥

-- the rule that wins: those before it match less, and those behind it no more
pub record Wins (rs : List Rule) (s : List ℕ) (h : Hit) : Type 0 where
  pub before : List Rule
  pub rule : Rule
  pub behind : List Rule
  pub listed : rs ≡ before ++ (rule ∷ behind)
  pub kind : h.kind ≡ rule.kind
  pub taken : 1 ≤ h.len
  pub matched : Longest rule.pattern s h.len
  pub shorter : All (Below s h.len) before
  pub no_longer : All (Below s (suc h.len)) behind

pub data Best (rs : List Rule) (s : List ℕ) (h : Hit) : Type 0 where
  none : h ≡ hit 0 0 → All (Below s 1) rs → Best rs s h
  won : Wins rs s h → Best rs s h
