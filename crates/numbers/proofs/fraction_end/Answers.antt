-- `numbers::fraction_end` meets its contract: after the dot a run is left, of one byte or more.
-- Assumes nothing.
use Rattle.std.proofs.Common.{◌∙◌, arith}
use Rattle.numbers.specs.Parts.{run}
use Rattle.places.specs.Places.{has_read}
use Rattle.numbers.specs.Onward.{inside}
use Rattle.numbers.specs.Laws.{fraction_end, fraction_bare, fraction_none}
use Rattle.numbers.proofs.fraction_end.Goals as goal

pub overflow_add-first : goal.overflow_add-first
overflow_add-first c =
    omega
    (arith, inside c.args.src.now c.args.at 46 (has_read c.has_byte.ensures (omega arith) ∙ c.if-has_byte.true) (omega arith))

pub run_end-end-requires : goal.run_end-end-requires
run_end-end-requires c =
    omega
    (arith, inside c.args.src.now c.args.at 46 (has_read c.has_byte.ensures (omega arith) ∙ c.if-has_byte.true) (omega arith))

pub returns-then-first-end : goal.returns-then-first-end
unfolding run
returns-then-first-end c = λ none.
    fraction_end c.args.src.now c.args.at none
    (has_read c.has_byte.ensures (omega arith) ∙ c.if-has_byte.true) c.run_end-end.ensures c.if-first-end.true

pub returns-else-first-end : goal.returns-else-first-end
unfolding run
returns-else-first-end c = λ none.
    fraction_bare c.args.src.now c.args.at none
    (has_read c.has_byte.ensures (omega arith) ∙ c.if-has_byte.true) c.run_end-end.ensures c.if-first-end.false

pub returns-else-has_byte : goal.returns-else-has_byte
returns-else-has_byte c = λ none.
    fraction_none c.args.src.now c.args.at none (has_read c.has_byte.ensures (omega arith) ∙ c.if-has_byte.false)
