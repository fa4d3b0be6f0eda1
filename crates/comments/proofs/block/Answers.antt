use Rattle.std.specs.Prelude.{eqb}
use Rattle.std.proofs.Common.{ℕ, ◌<◌, ◌≡◌, sym, ◌∙◌, Bool, true, false, ◌&&◌, ◌⊎◌, ⊎_elim, arith, leb, le-leb, ne_eqb, rules}
use Rattle.std.proofs.lemmas.Bool.{lt-leb}
use Rattle.patterns.proofs.Walk.{start, prefix_within, text_then, text_yes, text_no}
use Rattle.utf8.specs.Runs.{char_within}
use Rattle.tokens.specs.Tokens.{ascii}
use Rattle.comments.specs.Comments.{inside, comment_over, comment_on, comment_end, comment_char, comment_broken}
use Rattle.comments.proofs.block.Goals as goal

-- a byte that is read as it is
plain : (chars : Bool) (x : ℕ) → (chars ≡ true × x < 0x80) ⊎ (chars ≡ false) → (chars && leb 0x80 x) ≡ false
plain chars x h =
    ⊎_elim (λ (w : chars ≡ true × x < 0x80). simp (w.0, lt-leb 0x80 x w.1))
    (λ (w : chars ≡ false). rw w) h

-- a byte that does not close the comment
inner_byte : (star : Bool) (x : ℕ) → (star ≡ true × (x ≡ 47 → ⊥)) ⊎ (star ≡ false) → (star && eqb x 47) ≡ false
inner_byte star x h =
    ⊎_elim (λ (w : star ≡ true × (x ≡ 47 → ⊥)). simp (w.0, ne_eqb x 47 w.1))
    (λ (w : star ≡ false). rw w) h

pub returns-then-not-has : goal.returns-then-not-has
returns-then-not-has c = text_no (text_then _ (ascii "/*")) (start _ _ _) (sym c.has.ensures ∙ c.if-not-has.true)

pub overflow_add-i : goal.overflow_add-i
overflow_add-i c =
    let a = c.args in
    omega (arith, prefix_within (ascii "/*") a.src.now a.at (sym c.has.ensures ∙ c.if-not-has.false) (omega arith))

pub loop-i-init : goal.loop-i-init
unfolding inside
loop-i-init c = text_yes (text_then _ (ascii "/*")) (start _ _ _) (sym c.has.ensures ∙ c.if-not-has.false)

pub overflow_add-i-in-Some : goal.overflow_add-i-in-Some
overflow_add-i-in-Some c = omega (arith, char_within c.args.src.now c.loop-i.i (sym c.decode_at.ensures ∙ c.in-Some.is))

pub returns-in-None : goal.returns-in-None
returns-in-None c =
    comment_broken _ _ c.loop-i.invariant (search rules) c.if-chars.true (le-leb 0x80 _ c.if-b-ge128.true)
    (sym c.decode_at.ensures ∙ c.in-None.is)

pub loop-i-smaller-then-b-ge128 : goal.loop-i-smaller-then-b-ge128
loop-i-smaller-then-b-ge128 c = omega (arith, char_within c.args.src.now c.loop-i.i (sym c.decode_at.ensures ∙ c.in-Some.is))

pub loop-i-preserved-then-b-ge128 : goal.loop-i-preserved-then-b-ge128
loop-i-preserved-then-b-ge128 c =
    comment_char _ _ c.loop-i.invariant (search rules) c.if-chars.true (le-leb 0x80 _ c.if-b-ge128.true)
    (sym c.decode_at.ensures ∙ c.in-Some.is)

pub returns-then-b-eq47 : goal.returns-then-b-eq47
returns-then-b-eq47 c =
    comment_end _ _ c.loop-i.invariant (search rules) (plain c.args.chars _ c.else-chars.either)
    (simp (c.if-star.true, c.if-b-eq47.true))

pub loop-i-preserved : goal.loop-i-preserved
loop-i-preserved c =
    comment_on _ _ c.loop-i.invariant (search rules) (plain c.args.chars _ c.else-chars.either)
    (inner_byte c.loop-i.star _ c.else-star.either)

pub returns : goal.returns
returns c = comment_over _ _ c.loop-i.invariant c.loop-i-test.false
