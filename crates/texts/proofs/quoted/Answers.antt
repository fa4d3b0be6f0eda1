-- `texts::quoted` meets its contract: behind the opening quotes the items end where what is left of the pattern begins (quoted_end), and
-- there the closing quotes must stand. Assumes nothing.
use Rattle.std.proofs.Common.{sym, ◌∙◌, arith}
use Rattle.patterns.proofs.Walk.{start, done, text_alone, text_then, text_yes, text_no}
use Rattle.texts.specs.Quoted.{quotes_within, quoted_end}
use Rattle.texts.proofs.quoted.Goals as goal

pub returns-then-not-has : goal.returns-then-not-has
returns-then-not-has c = text_no (text_then _ _) (start _ _ _) (sym c.has.ensures ∙ c.if-not-has.true)

pub overflow_add-at : goal.overflow_add-at
overflow_add-at c =
    let a = c.args in
    omega (arith, quotes_within a.quotes.now c.requires a.src.now a.at (sym c.has.ensures ∙ c.if-not-has.false))

pub returns-then-not-has-2 : goal.returns-then-not-has-2
returns-then-not-has-2 c =
    let a = c.args in
    let ended = quoted_end a.quotes.now c.requires a.lines a.src.now a.at (sym c.has.ensures ∙ c.if-not-has.false) c.items-end.ensures in
    text_no (text_alone _) ended (sym c.has-2.ensures ∙ c.if-not-has-2.true)

pub overflow_add-result : goal.overflow_add-result
overflow_add-result c =
    let a = c.args in
    omega (arith, quotes_within a.quotes.now c.requires a.src.now c.items-end.result (sym c.has-2.ensures ∙ c.if-not-has-2.false))

pub returns : goal.returns
returns c =
    let a = c.args in
    let ended = quoted_end a.quotes.now c.requires a.lines a.src.now a.at (sym c.has.ensures ∙ c.if-not-has.false) c.items-end.ensures in
    done (text_yes (text_alone _) ended (sym c.has-2.ensures ∙ c.if-not-has-2.false))
