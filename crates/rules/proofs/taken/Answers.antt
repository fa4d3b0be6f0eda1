-- Each mode has its function, whose promise is the definition in that mode.
-- Assumes nothing.
use Rattle.std.proofs.Common.{sym, ap, ◌∙◌, drop}
use Rattle.tokens.specs.declared.Mode.{Mode}
use Rattle.tokens.specs.Tokens.{tables_1}
use Rattle.tokens.specs.Scan.{tried, choose}
use Rattle.rules.proofs.taken.Goals as goal

pub returns-in-Normal : goal.returns-in-Normal
returns-in-Normal c =
    let a = c.args in
    c.normal.ensures ∙ ap (λ (m : Mode). choose tables_1 (tried m) (drop a.at.0 a.src.now)) (sym c.in-Normal.is)

pub returns-in-HexPattern : goal.returns-in-HexPattern
returns-in-HexPattern c =
    let a = c.args in
    c.pattern.ensures ∙ ap (λ (m : Mode). choose tables_1 (tried m) (drop a.at.0 a.src.now)) (sym c.in-HexPattern.is)

pub returns-in-HexJump : goal.returns-in-HexJump
returns-in-HexJump c =
    let a = c.args in
    c.jump.ensures ∙ ap (λ (m : Mode). choose tables_1 (tried m) (drop a.at.0 a.src.now)) (sym c.in-HexJump.is)
