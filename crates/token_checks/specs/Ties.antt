-- No tie exists but a keyword with IDENT: two rules of a mode that match one text of bytes are of one kind, or a keyword and IDENT.
-- A test over all pairs of rules is computed (Apart.antt); a float has a dot, an integer none. Assumes nothing.
use Rattle.std.specs.Prelude.{ℕ, ◌≤◌, ◌≡◌, refl, Bool, true, false, not, ◌&&◌, ◌||◌, List, [], ◌∷◌, eqb, leb}
use Rattle.std.proofs.Common.{sym, ⊎_elim, eqb-true, leb-true}
use Rattle.patterns.specs.Utf8.{Class}
use Rattle.patterns.specs.Pattern.{Pat, Matches, deriv}
use Rattle.patterns.proofs.Bools.{and_first, and_second, or_cases}
use Rattle.patterns.specs.Lists.{each}
use Rattle.patterns.specs.Apart.{Bytes, live, parted, apart, Disjoint, within, needs}
use Rattle.patterns.proofs.Apart.{parted_right, apart_right, within_right, needs_right}
use Rattle.tokens.specs.declared.Mode.{Mode}
use Rattle.tokens.specs.declared.Mode.TheVariants.{Normal, HexPattern, HexJump}
use Rattle.tokens.specs.Kinds.{IDENT, FLOAT_LIT}
use Rattle.tokens.specs.Tokens.{Rule, tables_1}
use Rattle.tokens.specs.Scan.{rules}

-- kinds of one text
pub data Tie (k k' : ℕ) : Type 0 where
  same : k ≡ k' → Tie k k'
  keyword_ident : k ≤ 40 → k' ≡ IDENT → Tie k k'
  ident_keyword : k ≡ IDENT → k' ≤ 40 → Tie k k'

-- where two rules match one text, they tie so
abbrev pub Ties : Rule → Rule → Type 0
Ties r x = (u : List ℕ) → Bytes u → Matches r.pattern u → Matches x.pattern u → Tie r.kind x.kind

-- a rule of a list
pub data In (r : Rule) : List Rule → Type 0 where
  here : {rs : List Rule} → In r (r ∷ rs)
  there : {x : Rule} {rs : List Rule} → In r rs → In r (x ∷ rs)

-- The test, each rule against those behind it.

-- kinds that may tie
unfoldable pub excused : ℕ → ℕ → Bool
excused k k' = eqb k k' || (leb k 40 && eqb k' IDENT)

unfoldable pub no_dot : Class
no_dot b = not (eqb b 46)

-- a has a dot, and r has none
unfoldable pub dotted : Pat → Pat → Bool
unfolding needs within no_dot
dotted a r = needs no_dot a && within no_dot r

-- a byte on, and then as long as any two spellings are alike
unfoldable pub after_byte : Pat → Pat → ℕ → Bool
unfolding apart
after_byte a r b = apart 10 (deriv b a) (deriv b r)

-- r and x have no text in common; `firsts` are the bytes with which a text of r can begin, listed once for all x
unfoldable pub distinct : Rule → List ℕ → Rule → Bool
unfolding dotted after_byte
distinct r firsts x =
    elim (eqb r.kind FLOAT_LIT && dotted r.pattern x.pattern) [
      | true ↦ true
      | false ↦ parted firsts (after_byte r.pattern x.pattern) r.pattern x.pattern
    ]

unfoldable pub sorted_out : Rule → List ℕ → Rule → Bool
unfolding excused distinct
sorted_out r firsts x = elim (excused r.kind x.kind) [ true ↦ true | false ↦ distinct r firsts x ]

unfoldable pub tie_free : List Rule → Bool
unfolding sorted_out live
tie_free [] = true
tie_free (r ∷ rs) = let firsts = live r.pattern in each (sorted_out r firsts) rs && tie_free rs

-- What the test says.
