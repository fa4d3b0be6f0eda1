-- `texts::regexp` meets its contract: behind a slash, a first byte that is neither star nor slash is read as the items are (first_item).
-- They end where what is left of the pattern begins (past), and a slash and its modifiers must stand there. Assumes nothing.
use Rattle.std.proofs.Common.{ℕ, List, ◌+◌, ◌≡◌, refl, sym, ◌∙◌, true, false, arith, drop}
use Rattle.patterns.specs.Pattern.{seq, literal, deriv, longest}
use Rattle.patterns.specs.Walk.{Came, prefix}
use Rattle.patterns.proofs.Walk.{onto, prefix_within, text_then, text_yes, text_no}
use Rattle.tokens.specs.Tokens.{ascii, regexp}
use Rattle.texts.specs.Items.{items, past}
use Rattle.texts.specs.Quoted.{plain}
use Rattle.texts.specs.Regexps.{modifiers, body, first, regexp_start, no_first, first_item}
use Rattle.texts.proofs.regexp.Goals as goal
use Rattle.texts.proofs.regexp.Goals.{then-has_byte-via-then-has_byte, then-has_byte-via-else-has_byte+then-has_byte-2}

-- past the first slash
opened : (s : List ℕ) (at : ℕ) → prefix (ascii "/") (drop at s) ≡ true → Came regexp s at (seq first body) (at + 1) at
opened s at e = text_yes (text_then _ (ascii "/")) (regexp_start _ _) e

-- past the items
ended : (s : List ℕ) (at : ℕ) {j : ℕ} → prefix (ascii "/") (drop at s) ≡ true → prefix (ascii "*") (drop (at + 1) s) ≡ false
    → prefix (ascii "/") (drop (at + 1) s) ≡ false → j ≡ at + 1 + longest (items (plain 47 false)) (drop (at + 1) s)
    → Came regexp s at (seq (literal (ascii "/")) modifiers) j at
unfolding plain
ended s at e star slash h = past (plain 47 false) refl (text_then _ (ascii "/")) refl refl (first_item (opened s at e) star slash) h

pub returns-then-not-has_byte : goal.returns-then-not-has_byte
returns-then-not-has_byte c = text_no (text_then _ (ascii "/")) (regexp_start _ _) (sym c.has_byte.ensures.told ∙ c.if-not-has_byte.true)

pub overflow_add-first : goal.overflow_add-first
overflow_add-first c =
    let a = c.args in
    omega (arith, prefix_within (ascii "/") a.src.now a.at (sym c.has_byte.ensures.told ∙ c.if-not-has_byte.false) (omega arith))

pub returns-then-has_byte : goal.returns-then-has_byte
unfolding deriv
returns-then-has_byte c =
    let o = opened c.args.src.now c.args.at (sym c.has_byte.ensures.told ∙ c.if-not-has_byte.false) in
    elim c.then-has_byte.branch [
      | then-has_byte-via-then-has_byte w ↦ no_first o 42 refl (sym c.has_byte-2.ensures.told ∙ w.if-has_byte.true)
      | then-has_byte-via-else-has_byte+then-has_byte-2 w ↦ no_first o 47 refl (sym w.has_byte-else-has_byte.ensures.told ∙ w.if-has_byte-2.true)
    ]

pub returns-then-not-has_byte-2 : goal.returns-then-not-has_byte-2
returns-then-not-has_byte-2 c =
    let e = ended c.args.src.now c.args.at (sym c.has_byte.ensures.told ∙ c.if-not-has_byte.false) (sym c.has_byte-2.ensures.told ∙ c.if-has_byte.false)
    (sym c.has_byte-else-has_byte.ensures.told ∙ c.if-has_byte-2.false) c.items-end.ensures in
    text_no (text_then _ (ascii "/")) e (sym c.has_byte-3.ensures.told ∙ c.if-not-has_byte-2.true)

pub overflow_add-end : goal.overflow_add-end
overflow_add-end c =
    let closed = sym c.has_byte-3.ensures.told ∙ c.if-not-has_byte-2.false in
    omega (arith, prefix_within (ascii "/") _ c.items-end.result closed (omega arith))

pub modifiers-requires : goal.modifiers-requires
modifiers-requires c =
    let closed = sym c.has_byte-3.ensures.told ∙ c.if-not-has_byte-2.false in
    omega (arith, prefix_within (ascii "/") _ c.items-end.result closed (omega arith))

pub returns : goal.returns
returns c =
    let e = ended c.args.src.now c.args.at (sym c.has_byte.ensures.told ∙ c.if-not-has_byte.false) (sym c.has_byte-2.ensures.told ∙ c.if-has_byte.false)
    (sym c.has_byte-else-has_byte.ensures.told ∙ c.if-has_byte-2.false) c.items-end.ensures in
    let closed = sym c.has_byte-3.ensures.told ∙ c.if-not-has_byte-2.false in
    c.modifiers.ensures ∙ onto (text_yes (text_then _ (ascii "/")) e closed) refl
