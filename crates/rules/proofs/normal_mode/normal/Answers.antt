-- By the first byte one family of rules is left (specs/Families), and that family's hit is the answer.
-- Assumes nothing.
use Rattle.std.proofs.Common.{refl, sym, ap, ◌∙◌, [], ◌∷◌, map, arith, rules}
use Rattle.tokens.specs.Kinds.{PATTERN_IDENT, PATTERN_COUNT, PATTERN_OFFSET, PATTERN_LENGTH}
use Rattle.tokens.specs.declared.Mode.TheVariants.{Normal}
use Rattle.tokens.specs.Unicode.{digits_16}
use Rattle.tokens.specs.Tokens.{rule, spelled, operators, pattern_word}
use Rattle.tokens.specs.NoneOf.{NoneOf}
use Rattle.tokens.specs.Scan as scan
use Rattle.places.specs.Signs.{matched}
use Rattle.rules.proofs.Better.{both_matched}
use Rattle.rules.proofs.First.{first_byte}
use Rattle.rules.specs.First.{first_kinds, First}
use Rattle.rules.specs.Families.{quote_rules, slash_rules, bang_rules}
use Rattle.rules.proofs.Families.{exact, at_spacing, at_word, at_number, at_operator}
use Rattle.rules.proofs.Marks.{marked_some, pattern_hit}
use Rattle.rules.proofs.normal_mode.normal.Goals as goal

pub returns-then-is_spacing : goal.returns-then-is_spacing
returns-then-is_spacing c =
    c.spacing.ensures
    ∙ ap matched (at_spacing (first_byte c.byte_at-b.ensures (omega arith)) Normal (sym c.is_spacing.ensures ∙ c.if-is_spacing.true))

pub returns-then-is_word_start : goal.returns-then-is_word_start
returns-then-is_word_start c =
    c.word.ensures
    ∙ ap matched (at_word (first_byte c.byte_at-b.ensures (omega arith)) (sym c.is_spacing.ensures ∙ c.if-is_spacing.false) (sym c.is_word_start.ensures ∙ c.if-is_word_start.true))

pub returns-then-is_dec : goal.returns-then-is_dec
returns-then-is_dec c =
    c.number.ensures
    ∙ ap matched (at_number (first_byte c.byte_at-b.ensures (omega arith)) (sym c.is_spacing.ensures ∙ c.if-is_spacing.false) (sym c.is_word_start.ensures ∙ c.if-is_word_start.false) (sym c.is_dec.ensures ∙ c.if-is_dec.true))

pub returns-in-34 : goal.returns-in-34
unfolding first_kinds scan.rules
returns-in-34 c = c.quoted.ensures ∙ ap matched (exact (first_byte c.byte_at-b.ensures (omega arith)) Normal 34 quote_rules refl c.in-34.is)

pub returns-in-47 : goal.returns-in-47
unfolding first_kinds scan.rules
returns-in-47 c = c.slashed.ensures ∙ ap matched (exact (first_byte c.byte_at-b.ensures (omega arith)) Normal 47 slash_rules refl c.in-47.is)

pub returns-in-36 : goal.returns-in-36
unfolding first_kinds scan.rules
returns-in-36 c =
    let p : First c.args.src.now c.args.at c.byte_at-b.result = first_byte c.byte_at-b.ensures (omega arith) in
    marked_some c.marked.ensures ∙ ap matched (pattern_hit p PATTERN_IDENT 36 "$" refl refl c.in-36.is c.marked.ensures
    ∙ exact p Normal 36 (rule PATTERN_IDENT (pattern_word "$" digits_16) ∷ []) refl c.in-36.is)

pub returns-in-35 : goal.returns-in-35
unfolding first_kinds scan.rules
returns-in-35 c =
    let p : First c.args.src.now c.args.at c.byte_at-b.result = first_byte c.byte_at-b.ensures (omega arith) in
    marked_some c.marked-in-35.ensures ∙ ap matched (pattern_hit p PATTERN_COUNT 35 "#" refl refl c.in-35.is c.marked-in-35.ensures
    ∙ exact p Normal 35 (rule PATTERN_COUNT (pattern_word "#" digits_16) ∷ []) refl c.in-35.is)

pub returns-in-64 : goal.returns-in-64
unfolding first_kinds scan.rules
returns-in-64 c =
    let p : First c.args.src.now c.args.at c.byte_at-b.result = first_byte c.byte_at-b.ensures (omega arith) in
    marked_some c.marked-in-64.ensures ∙ ap matched (pattern_hit p PATTERN_OFFSET 64 "@" refl refl c.in-64.is c.marked-in-64.ensures
    ∙ exact p Normal 64 (rule PATTERN_OFFSET (pattern_word "@" digits_16) ∷ []) refl c.in-64.is)

pub returns-in-33 : goal.returns-in-33
unfolding first_kinds scan.rules
returns-in-33 c =
    let p : First c.args.src.now c.args.at c.byte_at-b.result = first_byte c.byte_at-b.ensures (omega arith) in
    let a = c.args in
    both_matched a.src.now a.at (map spelled operators) (rule PATTERN_LENGTH (pattern_word "!" digits_16) ∷ []) c.longer.ensures c.operator.ensures
    (marked_some c.marked-in-33.ensures ∙ ap matched (pattern_hit p PATTERN_LENGTH 33 "!" refl refl c.in-33.is c.marked-in-33.ensures))
    ∙ ap matched (exact p Normal 33 bang_rules refl c.in-33.is)

pub returns-in_default-4 : goal.returns-in_default-4
returns-in_default-4 c =
    let n : NoneOf (33 ∷ 64 ∷ 35 ∷ 36 ∷ 47 ∷ 34 ∷ []) c.byte_at-b.result = search rules in
    c.operator-in_default-4.ensures
    ∙ ap matched (at_operator (first_byte c.byte_at-b.ensures (omega arith)) (sym c.is_spacing.ensures ∙ c.if-is_spacing.false) (sym c.is_word_start.ensures ∙ c.if-is_word_start.false) (sym c.is_dec.ensures ∙ c.if-is_dec.false)
    n.0.0.0.0.0.1 n.0.0.0.0.1 n.0.0.0.1 n.0.0.1 n.0.1 n.1)
