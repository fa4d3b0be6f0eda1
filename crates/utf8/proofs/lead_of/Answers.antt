-- Each arm is a row of Table 3-7 as `lead` has it: the two are compared over the arm's range, and are the same there (row, more_row).
-- Assumes nothing.
use Rattle.std.proofs.Common.{refl, ◌∙◌, arith}
use Rattle.patterns.specs.Utf8.{lead}
use Rattle.utf8.specs.Rows.{more_row, row}
use Rattle.utf8.proofs.lead_of.Goals as goal

pub returns-in-224 : goal.returns-in-224
unfolding lead
returns-in-224 c = c.more.ensures ∙ more_row 0xE0 0xE0 0xE0 refl (omega arith) (omega arith)

pub returns-in-237 : goal.returns-in-237
unfolding lead
returns-in-237 c = c.more-in-237.ensures ∙ more_row 0xED 0xED 0xE0 refl (omega arith) (omega arith)

pub returns-in-240 : goal.returns-in-240
unfolding lead
returns-in-240 c = c.more-in-240.ensures ∙ more_row 0xF0 0xF0 0xF0 refl (omega arith) (omega arith)

pub returns-in-244 : goal.returns-in-244
unfolding lead
returns-in-244 c = c.more-in-244.ensures ∙ more_row 0xF4 0xF4 0xF0 refl (omega arith) (omega arith)

pub returns-in-0-to-127 : goal.returns-in-0-to-127
unfolding lead
returns-in-0-to-127 c = row 0x00 0x7F c.args.b refl (omega arith) (omega arith)

pub returns-in-194-to-223 : goal.returns-in-194-to-223
unfolding lead
returns-in-194-to-223 c = c.more-in-194-to-223.ensures ∙ more_row 0xC2 0xDF 0xC0 refl (omega arith) (omega arith)

pub returns-in-225-to-236 : goal.returns-in-225-to-236
unfolding lead
returns-in-225-to-236 c = c.more-in-225-to-236.ensures ∙ more_row 0xE1 0xEC 0xE0 refl (omega arith) (omega arith)

pub returns-in-238-to-239 : goal.returns-in-238-to-239
unfolding lead
returns-in-238-to-239 c = c.more-in-238-to-239.ensures ∙ more_row 0xEE 0xEF 0xE0 refl (omega arith) (omega arith)

pub returns-in-241-to-243 : goal.returns-in-241-to-243
unfolding lead
returns-in-241-to-243 c = c.more-in-241-to-243.ensures ∙ more_row 0xF1 0xF3 0xF0 refl (omega arith) (omega arith)

pub returns-in_default : goal.returns-in_default
unfolding lead
returns-in_default c = row 0x80 0xC1 c.args.b refl (omega arith) (omega arith)

pub returns-in_default-2 : goal.returns-in_default-2
unfolding lead
returns-in_default-2 c = row 0xF5 0xFF c.args.b refl (omega arith) (omega arith)
