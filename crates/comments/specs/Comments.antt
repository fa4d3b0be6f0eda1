-- Inside a block comment what is left of its pattern goes by one thing alone: whether a star stands before. Said once for comments of
-- bytes and of characters, since both take a byte below 0x80 as it is. Assumes nothing.
use Rattle.std.specs.Prelude.{ℕ, ◌+◌, ◌≤◌, ◌<◌, ◌≡◌, Bool, ◌&&◌, List, [], ◌∷◌, length, get_or, drop, leb, None}
use Rattle.std.proofs.Math.Path.{refl}
use Rattle.std.proofs.Math.Bool.{true, false, cond}
use Rattle.std.proofs.Common.{arith}
use Rattle.std.proofs.Math.Dec.{eqb}
use borrow.Author.Tests.{eqb-true, ne_eqb, le-leb, leb-true, leb-false}
use Rattle.patterns.specs.declared.Lead.{Lead}
use Rattle.patterns.specs.declared.Lead.TheVariants.{Alone, More, Bad}
use Rattle.patterns.specs.Utf8.{Class, lead, decode, whole}
use Rattle.patterns.specs.Pattern.{Pat, empty, byte, char, seq, star, plus, follow, row, nullable, if_in, deriv, longest}
use Rattle.patterns.specs.Walk.{Came}
use Rattle.patterns.proofs.Walk.{move, done, over, Opens, char_in, char_broken}
use Rattle.utf8.specs.Runs.{beyond}
use Rattle.tokens.specs.Tokens.{is, none_of}

-- what a block comment is made of: characters, or bytes
unfoldable pub unit : Bool → Class → Pat
unit true = char
unit false = byte

-- What is left inside a block comment: behind a star (true), or not.
module _ (any : Class → Pat) where
  abbrev others : Pat
  others = star (any (none_of "*"))

  abbrev behind_star : Pat
  behind_star = row (star (is "*") ∷ star (row (any (none_of "/*") ∷ others ∷ plus (is "*") ∷ [])) ∷ is "/" ∷ [])

  unfoldable pub inside : Bool → Pat
  inside true = behind_star
  inside false = row (others ∷ is "*" ∷ behind_star ∷ [])

  inside_not_empty : (t : Bool) → nullable (inside t) ≡ false
  unfolding inside
  inside_not_empty true = refl
  inside_not_empty false = refl

  -- a byte that is taken as it is
  module _ (whole : (f : Class) (r : Pat) → follow (any f) r ≡ seq (any f) r) (some : (f : Class) → nullable (any f) ≡ false) (x : ℕ)
      (plain : (f : Class) → deriv x (any f) ≡ if_in (f x)) where
    inside_step : (t : Bool) → deriv x (inside t) ≡ cond (t && eqb x 47) empty (inside (eqb x 42))
    unfolding deriv inside
    inside_step true = go (eqb x 42) (eqb x 47) refl refl
      where
        go : (star slash : Bool) → eqb x 42 ≡ star → eqb x 47 ≡ slash → deriv x (inside true) ≡ cond slash empty (inside star)
        go true true e d = absurd (omega (arith, eqb-true x 42 e, eqb-true x 47 d))
        go true false e d = simp (plain, whole, some, e, d)
        go false true e d = simp (plain, whole, some, e, d)
        go false false e d = simp (plain, whole, some, e, d)
    inside_step false = go (eqb x 42) refl
      where
        go : (star : Bool) → eqb x 42 ≡ star → deriv x (inside false) ≡ inside star
        go true e = simp (plain, e)
        go false e = simp (plain, e)

-- the class of the next character, if it does not close the comment
abbrev inner : Bool → Class
inner true = none_of "/*"
inner false = none_of "*"

inner_wide : (t : Bool) (v : ℕ) → 0x80 ≤ v → inner t v ≡ true
inner_wide true v h = simp (ne_eqb v 47 (omega arith), ne_eqb v 42 (omega arith))
inner_wide false v h = simp (ne_eqb v 42 (omega arith))

-- a byte from 0x80 on begins a character, behind which no star stands
inside_opens : (t : Bool) (x : ℕ) → 0x80 ≤ x → Opens (inner t) (inside char false) (inside char t) x
unfolding deriv inside
inside_opens t x h = go t (lead x) refl (ne_eqb x 42 (omega arith)) (ne_eqb x 47 (omega arith))
  where
    go : (t : Bool) (l : Lead) → lead x ≡ l → eqb x 42 ≡ false → eqb x 47 ≡ false → Opens (inner t) (inside char false) (inside char t) x
    go true Alone e a b = simp (e, a, b)
    go true (More low high k bits) e a b = simp (e, a, b)
    go true Bad e a b = simp (e, a, b)
    go false Alone e a b = simp (e, a)
    go false (More low high k bits) e a b = simp (e, a)
    go false Bad e a b = simp (e, a)

-- What the loop goes by, for characters and for bytes.

unit_whole : (chars : Bool) (f : Class) (r : Pat) → follow (unit chars f) r ≡ seq (unit chars f) r
unfolding unit
unit_whole true f r = refl
unit_whole false f r = refl

unit_some : (chars : Bool) (f : Class) → nullable (unit chars f) ≡ false
unfolding unit
unit_some true f = refl
unit_some false f = refl

unit_plain : (chars : Bool) (x : ℕ) → (chars && leb 0x80 x) ≡ false → (f : Class) → deriv x (unit chars f) ≡ if_in (f x)
unfolding unit deriv
unit_plain true x e f = let h : x < 0x80 = leb-false 0x80 x e in simp (le-leb 0 x (omega arith), le-leb x 0x7F (omega arith))
unit_plain false x e f = refl

-- the source ends; a byte is taken as it is; a character of several bytes, or a byte that begins none
module _ (chars t : Bool) {p : Pat} {s : List ℕ} {at i b : ℕ} (c : Came p s at (inside (unit chars) t) i b) where
  pub comment_over : length s ≤ i → b ≡ at + longest p (drop at s)
  comment_over h = rw (inside_not_empty (unit chars) t) at (over c h)

  module _ (h : i < length s) where
    module _ (plain : (chars && leb 0x80 (get_or s i 0)) ≡ false) where
      next_byte : Came p s at (cond (t && eqb (get_or s i 0) 47) empty (inside (unit chars) (eqb (get_or s i 0) 42))) (i + 1) b
      next_byte =
          move c (inside_not_empty (unit chars) t) h
          (inside_step (unit chars) (unit_whole chars) (unit_some chars) (get_or s i 0) (unit_plain chars (get_or s i 0) plain) t)

      pub comment_on : (t && eqb (get_or s i 0) 47) ≡ false → Came p s at (inside (unit chars) (eqb (get_or s i 0) 42)) (i + 1) b
      comment_on e = rw e at next_byte

      pub comment_end : (t && eqb (get_or s i 0) 47) ≡ true → i + 1 ≡ at + longest p (drop at s)
      comment_end e = done (rw e at next_byte)

    module _ (on : chars ≡ true) (wide : leb 0x80 (get_or s i 0) ≡ true) where
      opens : Opens (inner t) (inside (unit chars) false) (inside (unit chars) t) (get_or s i 0)
      unfolding unit
      opens = rw on (inside_opens t (get_or s i 0) (leb-true 0x80 (get_or s i 0) wide))

      pub comment_char : {v n : ℕ} → decode (drop i s) ≡ whole v n → Came p s at (inside (unit chars) false) (i + n) b
      comment_char {v} d =
          rw (inside_not_empty (unit chars) t) at
          (char_in (inner t) (inside (unit chars) false) c opens d (inner_wide t v (beyond s i h d (leb-true 0x80 (get_or s i 0) wide))))

      pub comment_broken : decode (drop i s) ≡ None → b ≡ at + longest p (drop at s)
      comment_broken d = rw (inside_not_empty (unit chars) t) at (char_broken (inner t) (inside (unit chars) false) c opens d)
