-- What stands at the front decides, as in the definition.
-- Assumes nothing.
use Rattle.std.proofs.Common.{sym, ◌∙◌, drop}
use Rattle.tokens.specs.Tokens.{tables_1}
use Rattle.rules.proofs.Choosing.{broken_byte, unknown_text}
use Rattle.rules.proofs.unmatched.Goals as goal

pub returns-in-None : goal.returns-in-None
returns-in-None c =
    let a = c.args in
    broken_byte tables_1 (drop a.at a.src.now) (sym c.decode_at.ensures ∙ c.in-None.is)

pub returns-in-Some : goal.returns-in-Some
returns-in-Some c =
    let a = c.args in
    c.unknown.ensures ∙ unknown_text tables_1 (drop a.at a.src.now) _ _ (sym c.decode_at.ensures ∙ c.in-Some.is)
