-- By the first byte one family of rules is left (specs/Families), and that family's hit is the answer.
-- Assumes nothing.
use Rattle.std.proofs.Common.{refl, sym, ap, ◌∙◌, Bool, ◌||◌, [], ◌∷◌, arith, eqb, rules}
use Rattle.tokens.specs.Kinds.{HEX_BYTE}
use Rattle.tokens.specs.declared.Mode.TheVariants.{HexPattern}
use Rattle.tokens.specs.Tokens.{hex_byte}
use Rattle.tokens.specs.NoneOf.{NoneOf}
use Rattle.tokens.specs.Scan as scan
use Rattle.places.specs.Signs.{matched}
use Rattle.rules.proofs.Better.{rule_matched}
use Rattle.rules.proofs.First.{first_byte}
use Rattle.rules.specs.First.{first_kinds}
use Rattle.rules.specs.Families.{comment_rules}
use Rattle.rules.proofs.Families.{exact, at_spacing, at_hex, at_pattern_operator}
use Rattle.rules.proofs.hex_modes.pattern.Goals as goal

pub returns-then-is_spacing : goal.returns-then-is_spacing
returns-then-is_spacing c =
    c.spacing.ensures
    ∙ ap matched (at_spacing (first_byte c.byte_at-b.ensures (omega arith)) HexPattern (sym c.is_spacing.ensures ∙ c.if-is_spacing.true))

pub returns-then-is_hex_or_mark-b : goal.returns-then-is_hex_or_mark-b
returns-then-is_hex_or_mark-b c =
    let a = c.args in
    rule_matched a.src.now a.at HEX_BYTE hex_byte c.one.ensures c.hex_byte.ensures
    ∙ ap matched (at_hex (first_byte c.byte_at-b.ensures (omega arith)) (sym c.is_spacing.ensures ∙ c.if-is_spacing.false) ((ap (λ (t : Bool). t || eqb c.byte_at-b.result 126) (sym c.is_hex_or_mark.ensures)) ∙ c.if-is_hex_or_mark-b.true))

pub returns-in-47 : goal.returns-in-47
unfolding first_kinds scan.rules
returns-in-47 c =
    c.commented.ensures
    ∙ ap matched (exact (first_byte c.byte_at-b.ensures (omega arith)) HexPattern 47 comment_rules refl c.in-47.is)

pub returns-in_default-3 : goal.returns-in_default-3
returns-in_default-3 c =
    let n : NoneOf (47 ∷ []) c.byte_at-b.result = search rules in
    c.pattern_operator.ensures
    ∙ ap matched (at_pattern_operator (first_byte c.byte_at-b.ensures (omega arith)) (sym c.is_spacing.ensures ∙ c.if-is_spacing.false) ((ap (λ (t : Bool). t || eqb c.byte_at-b.result 126) (sym c.is_hex_or_mark.ensures)) ∙ c.if-is_hex_or_mark-b.false) n.1)
