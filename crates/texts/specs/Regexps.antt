-- Regexps: a first item that begins with neither star nor slash is read as the items behind it are, so that one row of items stands
-- between the slashes; of at most two modifiers each is read or missed. Assumes nothing.
use Rattle.std.specs.Prelude.{ℕ, ◌+◌, ◌<◌, ◌≡◌, Bool, not, ◌||◌, List, [], ◌∷◌, length, get_or, drop, eqb}
use Rattle.std.proofs.Math.Path.{refl, fun_ext}
use Rattle.std.proofs.Common.{sym, ◌∙◌, arith, eqb-true}
use Rattle.std.proofs.Math.Bool.{true, false, cond}
use Rattle.patterns.specs.Utf8.{Class}
use Rattle.patterns.specs.Pattern.{Pat, nothing, empty, byte, seq, alt, literal, optional, at_most_two, follow, either, if_in, deriv, longest}
use Rattle.patterns.specs.Walk.{Came, prefix}
use Rattle.patterns.proofs.Walk.{start, stop, swap, prefix_within}
use Rattle.tokens.specs.Tokens.{ascii, none_of, letter, pair, regexp}
use Rattle.places.specs.Places.{Reads, one_byte, prefix_byte}
use Rattle.texts.specs.Items.{items}
use Rattle.texts.specs.Quoted.{plain}

abbrev pub modifiers : Pat
modifiers = at_most_two (byte letter)

-- what is left behind the first slash, but for what is said of the first item
abbrev pub body : Pat
body = seq (items (plain 47 false)) (seq (literal (ascii "/")) modifiers)

abbrev pub first : Pat
first = alt pair (byte (none_of "*/\\\n"))

same_class : none_of "\\/\n" ≡ plain 47 false
unfolding plain
same_class = fun_ext (λ x. go (eqb x 92) (eqb x 47) (eqb x 10))
  where
    go : (a b c : Bool) → not (a || (b || (c || false))) ≡ not (b || (c || (a || false)))
    go true true c = refl
    go true false true = refl
    go true false false = refl
    go false b c = refl

regexp_shape : regexp ≡ seq (literal (ascii "/")) (seq first body)
regexp_shape = rw (one_byte 47, same_class)

pub regexp_start : (s : List ℕ) (at : ℕ) → Came regexp s at (seq (literal (ascii "/")) (seq first body)) at at
regexp_start s at = rw (← regexp_shape) (start regexp s at)

-- a byte that is no first item
pub no_first : {p : Pat} {s : List ℕ} {at i b : ℕ} → Came p s at (seq first body) i b → (y : ℕ) → deriv y (seq first body) ≡ nothing
    → prefix (y ∷ []) (drop i s) ≡ true → b ≡ at + longest p (drop at s)
no_first {s} {i} c y d e =
    let h : i < length s = omega (arith, prefix_within (y ∷ []) s i e (omega arith)) in
    stop c h (rw (eqb-true (get_or s i 0) y (sym (prefix_byte y s i h) ∙ e)) d)

-- any other is read as in any item
first_byte : (x : ℕ) → eqb x 42 ≡ false → eqb x 47 ≡ false → deriv x (seq first body) ≡ deriv x body
unfolding deriv plain
first_byte x a b = go (eqb x 92) (eqb x 10) refl refl
  where
    go : (k n : Bool) → eqb x 92 ≡ k → eqb x 10 ≡ n → deriv x (seq first body) ≡ deriv x body
    go true true e d = simp (a, b, e, d)
    go true false e d = simp (a, b, e, d)
    go false true e d = simp (a, b, e, d)
    go false false e d = simp (a, b, e, d)

pub first_item : {p : Pat} {s : List ℕ} {at i b : ℕ} → Came p s at (seq first body) i b → prefix (ascii "*") (drop i s) ≡ false
    → prefix (ascii "/") (drop i s) ≡ false → Came p s at body i b
first_item {s} {i} c star slash = swap c body refl (λ h. first_byte (get_or s i 0) (sym (prefix_byte 42 s i h) ∙ star) (sym (prefix_byte 47 s i h) ∙ slash))

-- at most two of a class, and at most one
module _ (f : Class) where
  pub two_reads : Reads f (at_most_two (byte f)) (optional (byte f))
  unfolding deriv
  two_reads = record { after = λ x. go (f x) }
    where
      go : (t : Bool) → either (follow (if_in t) (optional (byte f))) nothing ≡ cond t (optional (byte f)) nothing
      go true = refl
      go false = refl

  pub one_reads : Reads f (optional (byte f)) empty
  unfolding deriv
  one_reads = record { after = λ x. go (f x) }
    where
      go : (t : Bool) → either (if_in t) nothing ≡ cond t empty nothing
      go true = refl
      go false = refl
