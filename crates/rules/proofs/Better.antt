-- Lists of rules put together: the longest match of both is the better of the two. `better` keeps the first of the longest, so it
-- does not matter how it is grouped. Assumes nothing.
use Rattle.std.specs.Prelude.{ℕ, ◌+◌, ◌-◌, ◌≤◌, ◌<◌, ◌≡◌, refl, Bool, true, false, cond, List, [], ◌∷◌, ◌++◌, length, drop, leb, Option, Some, None}
use Rattle.std.proofs.Common.{sym, ◌∙◌, drop_of_length-le, le-leb, leb-true, leb-false}
use Rattle.std.proofs.Math.Path.{ap}
use Rattle.std.proofs.Math.Bool.{and-false}
use native.Mathlib.Omega.{arith}
use Rattle.std.proofs.lemmas.Bool.{lt-leb}
use Rattle.patterns.specs.Pattern.{Pat, nullable, walk, longest}
use Rattle.tokens.specs.declared.Hit.{Hit}
use Rattle.tokens.specs.Tokens.{Rule, rule}
use Rattle.tokens.specs.Scan.{hit, better, best}
use Rattle.rules.specs.Better.{Which, first, longer, none, longer_hit}
use Rattle.places.specs.Signs.{matched, hit_of}

-- the first is taken
pub better_first : (h g : Hit) → 1 ≤ h.len → g.len ≤ h.len → better h g ≡ h
better_first h g a b = rw (le-leb 1 h.len a, le-leb g.len h.len b)

-- the other is, since the first is none
pub better_none : (h g : Hit) → h.len < 1 → better h g ≡ g
better_none h g a = rw (lt-leb 1 h.len a)

-- or since the other is longer
pub better_longer : (h g : Hit) → h.len < g.len → better h g ≡ g
better_longer h g a = rw (lt-leb g.len h.len a, and-false)

which : (h g : Hit) → Which h g
which h g = go (leb 1 h.len) (leb g.len h.len) refl refl
  where
    go : (t u : Bool) → leb 1 h.len ≡ t → leb g.len h.len ≡ u → Which h g
    go true true a b = first (leb-true 1 h.len a) (leb-true g.len h.len b)
    go true false a b = longer (leb-false g.len h.len b)
    go false u a b = none (leb-false 1 h.len a)

better_assoc : (h g f : Hit) → better h (better g f) ≡ better (better h g) f
better_assoc h g f = go (which h g) (which g f)
  where
    go : Which h g → Which g f → better h (better g f) ≡ better (better h g) f
    go (none a) w = better_none h (better g f) a ∙ ap (λ (x : Hit). better x f) (sym (better_none h g a))
    go (longer a) (none b) = absurd (omega arith)
    go (longer a) (first b c) = ap (better h) (better_first g f b c) ∙ better_longer h g a ∙ sym (ap (λ (x : Hit). better x f) (better_longer h g a) ∙ better_first g f b c)
    go (longer a) (longer b) = ap (better h) (better_longer g f b) ∙ better_longer h f (omega arith) ∙ sym (ap (λ (x : Hit). better x f) (better_longer h g a) ∙ better_longer g f b)
    go (first a b) (none c) = ap (better h) (better_none g f c) ∙ sym (ap (λ (x : Hit). better x f) (better_first h g a b))
    go (first a b) (longer c) = ap (better h) (better_longer g f c) ∙ sym (ap (λ (x : Hit). better x f) (better_first h g a b))
    go (first a b) (first c d) =
        ap (better h) (better_first g f c d) ∙ better_first h g a b ∙ sym (ap (λ (x : Hit). better x f) (better_first h g a b) ∙ better_first h f a (omega arith))

pub best_append : (xs ys : List Rule) (s : List ℕ) → best (xs ++ ys) s ≡ better (best xs s) (best ys s)
unfolding best
best_append [] ys s = refl
best_append (x ∷ xs) ys s =
    ap (better (hit x.kind (longest x.pattern s))) (best_append xs ys s) ∙ better_assoc (hit x.kind (longest x.pattern s)) (best xs s) (best ys s)

-- nothing is matched where there is no byte: a rule that matches the empty text has length 0 too
best_empty : (rs : List Rule) → best rs [] ≡ hit 0 0
unfolding best walk
best_empty [] = refl
best_empty (r ∷ rs) = go (nullable r.pattern) (best_empty rs)
  where
    go : (t : Bool) {g : Hit} → g ≡ hit 0 0 → better (hit r.kind (cond t 0 0)) g ≡ hit 0 0
    go true e = e
    go false e = e

-- The hits that the code puts together, at a place of a source.

-- where no rule matches there is none, and any other hit is told whole
pub matched_some : (h : Hit) → 1 ≤ h.len → Some h ≡ matched h
matched_some h l = rw (le-leb 1 h.len l)

pub matched_none : (h : Hit) → h.len < 1 → None ≡ matched h
matched_none h l = rw (lt-leb 1 h.len l)

-- which of them it is says all of the longest match
pub matched_whole : (rs : List Rule) (s : List ℕ) → best rs s ≡ hit_of (matched (best rs s))
unfolding best
matched_whole [] s = refl
matched_whole (r ∷ rs) s = go (which (hit r.kind (longest r.pattern s)) (best rs s)) (matched_whole rs s)
  where
    go : Which (hit r.kind (longest r.pattern s)) (best rs s) → best rs s ≡ hit_of (matched (best rs s)) → best (r ∷ rs) s ≡ hit_of (matched (best (r ∷ rs) s))
    go (none a) e = better_none (hit r.kind (longest r.pattern s)) (best rs s) a ∙ e ∙ ap (λ (h : Hit). hit_of (matched h)) (sym (better_none (hit r.kind (longest r.pattern s)) (best rs s) a))
    go (longer a) e = better_longer (hit r.kind (longest r.pattern s)) (best rs s) a ∙ e ∙ ap (λ (h : Hit). hit_of (matched h)) (sym (better_longer (hit r.kind (longest r.pattern s)) (best rs s) a))
    go (first a b) e =
        let h : Hit = hit r.kind (longest r.pattern s) in
        better_first h (best rs s) a b ∙ ap hit_of (matched_some h a) ∙ ap (λ (h : Hit). hit_of (matched h)) (sym (better_first h (best rs s) a b))

longer_matched : (h g : Hit) → longer_hit (matched h) (matched g) ≡ matched (better h g)
longer_matched h g = go (which h g)
  where
    go : Which h g → longer_hit (matched h) (matched g) ≡ matched (better h g)
    go (none a) = rw (better_none h g a, ← matched_none h a)
    go (longer a) = rw (better_longer h g a, ← matched_some g (omega arith)) (over (leb 1 h.len))
      where
        over : (t : Bool) → longer_hit (cond t (Some h) None) (Some g) ≡ Some g
        over true = rw (lt-leb g.len h.len a)
        over false = refl
    go (first a b) = rw (better_first h g a b, ← matched_some h a) (over (leb 1 g.len))
      where
        over : (t : Bool) → longer_hit (Some h) (cond t (Some g) None) ≡ Some h
        over true = rw (le-leb g.len h.len b)
        over false = refl

matched_alone : (h : Hit) → matched h ≡ matched (better h (hit 0 0))
matched_alone h = go (which h (hit 0 0))
  where
    go : Which h (hit 0 0) → matched h ≡ matched (better h (hit 0 0))
    go (none a) = sym (matched_none h a) ∙ ap matched (sym (better_none h (hit 0 0) a))
    go (longer a) = absurd (omega arith)
    go (first a b) = ap matched (sym (better_first h (hit 0 0) a b))

module _ (s : List ℕ) (at : ℕ) where
  -- of one rule, by where it ends
  pub of_rule : (k : ℕ) (p : Pat) {e : ℕ} {h : Hit} → h ≡ better (hit k (e - at)) (hit 0 0) → e ≡ at + longest p (drop at s) → h ≡ best (rule k p ∷ []) (drop at s)
  unfolding best
  of_rule k p {e} q r = let n : e - at ≡ longest p (drop at s) = omega arith in q ∙ ap (λ (n : ℕ). better (hit k n) (hit 0 0)) n

  -- of two lists
  pub of_both : (xs ys : List Rule) {h g r : Hit} → r ≡ better h g → h ≡ best xs (drop at s) → g ≡ best ys (drop at s) → r ≡ best (xs ++ ys) (drop at s)
  of_both xs ys {h} q a b = q ∙ ap (better h) b ∙ ap (λ (x : Hit). better x (best ys (drop at s))) a ∙ sym (best_append xs ys (drop at s))

  -- of any rules at the end of the source
  pub past_end : (rs : List Rule) → length s ≤ at → hit 0 0 ≡ best rs (drop at s)
  past_end rs h = sym (ap (best rs) (drop_of_length-le s h) ∙ best_empty rs)

  -- the same of hits as the code has them
  pub rule_matched : (k : ℕ) (p : Pat) {e : ℕ} {h : Option Hit} → h ≡ matched (hit k (e - at)) → e ≡ at + longest p (drop at s) → h ≡ matched (best (rule k p ∷ []) (drop at s))
  rule_matched k p {e} q r = q ∙ matched_alone (hit k (e - at)) ∙ ap matched (of_rule k p refl r)

  pub both_matched : (xs ys : List Rule) {h g r : Option Hit} → r ≡ longer_hit h g → h ≡ matched (best xs (drop at s)) → g ≡ matched (best ys (drop at s)) → r ≡ matched (best (xs ++ ys) (drop at s))
  both_matched xs ys {h} q a b =
      q ∙ ap (longer_hit h) b ∙ ap (λ (x : Option Hit). longer_hit x (matched (best ys (drop at s)))) a ∙ longer_matched (best xs (drop at s)) (best ys (drop at s))
      ∙ ap matched (of_both xs ys refl refl refl)
