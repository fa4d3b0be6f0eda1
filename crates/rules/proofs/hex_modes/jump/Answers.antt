-- By the first byte one family of rules is left (specs/Families), and that family's hit is the answer.
-- Assumes nothing.
use Rattle.std.proofs.Common.{sym, ap, ◌∙◌, arith}
use Rattle.tokens.specs.Kinds.{INTEGER_LIT}
use Rattle.tokens.specs.declared.Mode.TheVariants.{HexJump}
use Rattle.tokens.specs.Tokens.{jump_integer}
use Rattle.places.specs.Signs.{matched}
use Rattle.rules.proofs.Better.{rule_matched}
use Rattle.rules.proofs.First.{first_byte}
use Rattle.rules.proofs.Families.{at_spacing, at_jump_integer, at_jump_operator}
use Rattle.rules.proofs.hex_modes.jump.Goals as goal

pub returns-then-is_spacing : goal.returns-then-is_spacing
returns-then-is_spacing c =
    c.spacing.ensures
    ∙ ap matched (at_spacing (first_byte c.byte_at-b.ensures (omega arith)) HexJump (sym c.is_spacing.ensures ∙ c.if-is_spacing.true))

pub returns-then-is_dec : goal.returns-then-is_dec
returns-then-is_dec c =
    let a = c.args in
    rule_matched a.src.now a.at INTEGER_LIT jump_integer c.one.ensures c.jump_integer.ensures
    ∙ ap matched (at_jump_integer (first_byte c.byte_at-b.ensures (omega arith)) (sym c.is_spacing.ensures ∙ c.if-is_spacing.false) (sym c.is_dec.ensures ∙ c.if-is_dec.true))

pub returns-else-is_dec : goal.returns-else-is_dec
returns-else-is_dec c =
    c.jump_operator.ensures
    ∙ ap matched (at_jump_operator (first_byte c.byte_at-b.ensures (omega arith)) (sym c.is_spacing.ensures ∙ c.if-is_spacing.false) (sym c.is_dec.ensures ∙ c.if-is_dec.false))
