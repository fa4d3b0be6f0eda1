-- No tie exists but a keyword with IDENT: two rules of a mode that match one text of bytes are of one kind, or a keyword and IDENT.
-- A test over all pairs of rules is computed (Apart.antt); a float has a dot, an integer none. Assumes nothing.
use Rattle.std.specs.Prelude.{ℕ, ◌≤◌, ◌≡◌, refl, Bool, true, false, not, ◌&&◌, ◌||◌, List, [], ◌∷◌, eqb, leb}
use Rattle.std.proofs.Common.{sym, ⊎_elim, eqb-true, leb-true}
use Rattle.patterns.specs.Utf8.{Class}
use Rattle.patterns.specs.Pattern.{Pat, Matches, deriv}
use Rattle.patterns.proofs.Bools.{and_first, and_second, or_cases}
use Rattle.patterns.specs.Lists.{each}
use Rattle.patterns.specs.Apart.{Bytes, live, parted, apart, Disjoint, within, needs}
use Rattle.patterns.proofs.Apart.{parted_right, apart_right, within_right, needs_right}
use Rattle.tokens.specs.declared.Mode.{Mode}
use Rattle.tokens.specs.declared.Mode.TheVariants.{Normal, HexPattern, HexJump}
use Rattle.tokens.specs.Kinds.{IDENT, FLOAT_LIT}
use Rattle.tokens.specs.Tokens.{Rule, tables_1}
use Rattle.tokens.specs.Scan.{rules}
use Rattle.token_checks.specs.Ties.{In, Tie, Ties, after_byte, distinct, dotted, excused, here, ident_keyword, keyword_ident, no_dot, same, sorted_out, there, tie_free}

-- The test, each rule against those behind it.

modes_tie_free : (m : Mode) → tie_free (rules tables_1 m) ≡ true
unfolding tie_free rules
modes_tie_free Normal = refl
modes_tie_free HexPattern = refl
modes_tie_free HexJump = refl

-- What the test says.

dotted_right : (a r : Pat) → dotted a r ≡ true → Disjoint a r
unfolding dotted
dotted_right a r e u h m n =
    needs_right no_dot a (and_first (needs no_dot a) (within no_dot r) e) u h m (within_right no_dot r (and_second (needs no_dot a) (within no_dot r) e) u h n)

distinct_right : (r x : Rule) → distinct r (live r.pattern) x ≡ true → Disjoint r.pattern x.pattern
unfolding distinct after_byte
distinct_right r x e = go (eqb r.kind FLOAT_LIT && dotted r.pattern x.pattern) refl e
  where
    go : (t : Bool) → (eqb r.kind FLOAT_LIT && dotted r.pattern x.pattern) ≡ t
        → elim t [ true ↦ true | false ↦ parted (live r.pattern) (after_byte r.pattern x.pattern) r.pattern x.pattern ] ≡ true
        → Disjoint r.pattern x.pattern
    go true q e = dotted_right r.pattern x.pattern (and_second (eqb r.kind FLOAT_LIT) (dotted r.pattern x.pattern) q)
    go false q e = parted_right (after_byte r.pattern x.pattern) r.pattern x.pattern (λ b. apart_right 10 (deriv b r.pattern) (deriv b x.pattern)) e

pair_ties : (r x : Rule) → sorted_out r (live r.pattern) x ≡ true → Ties r x
unfolding sorted_out excused
pair_ties r x e u h m n = go (excused r.kind x.kind) refl e
  where
    tie : (eqb r.kind x.kind || (leb r.kind 40 && eqb x.kind IDENT)) ≡ true → Tie r.kind x.kind
    tie q =
        ⊎_elim (λ z. same (eqb-true r.kind x.kind z))
        (λ z. keyword_ident (leb-true r.kind 40 (and_first (leb r.kind 40) (eqb x.kind IDENT) z)) (eqb-true x.kind IDENT (and_second (leb r.kind 40) (eqb x.kind IDENT) z)))
        (or_cases (eqb r.kind x.kind) (leb r.kind 40 && eqb x.kind IDENT) q)

    go : (t : Bool) → excused r.kind x.kind ≡ t → elim t [ true ↦ true | false ↦ distinct r (live r.pattern) x ] ≡ true → Tie r.kind x.kind
    go true q e = tie q
    go false q e = absurd (distinct_right r x e u h m n)

head_ties : (r x : Rule) (rs : List Rule) → each (sorted_out r (live r.pattern)) rs ≡ true → In x rs → Ties r x
head_ties r x rs e (here {rs = xs}) = pair_ties r x (and_first (sorted_out r (live r.pattern) x) (each (sorted_out r (live r.pattern)) xs) e)
head_ties r x rs e (there {x = y} {rs = xs} i) = head_ties r x xs (and_second (sorted_out r (live r.pattern) y) (each (sorted_out r (live r.pattern)) xs) e) i

other_way : {k k' : ℕ} → Tie k k' → Tie k' k
other_way (same e) = same (sym e)
other_way (keyword_ident h e) = ident_keyword e h
other_way (ident_keyword e h) = keyword_ident h e

list_ties : (r r' : Rule) (rs : List Rule) → tie_free rs ≡ true → In r rs → In r' rs → Ties r r'
unfolding tie_free
list_ties r r' rs e here here u h m n = same refl
list_ties r r' rs e (here {rs = xs}) (there j) u h m n = head_ties r r' xs (and_first (each (sorted_out r (live r.pattern)) xs) (tie_free xs) e) j u h m n
list_ties r r' rs e (there i) (here {rs = xs}) u h m n = other_way (head_ties r' r xs (and_first (each (sorted_out r' (live r'.pattern)) xs) (tie_free xs) e) i u h n m)
list_ties r r' rs e (there {x = x} {rs = xs} i) (there j) u h m n = list_ties r r' xs (and_second (each (sorted_out x (live x.pattern)) xs) (tie_free xs) e) i j u h m n

-- any two rules of a mode
pub no_other_tie : (mode : Mode) (r r' : Rule) → In r (rules tables_1 mode) → In r' (rules tables_1 mode) → Ties r r'
no_other_tie mode r r' = list_ties r r' (rules tables_1 mode) (modes_tie_free mode)
