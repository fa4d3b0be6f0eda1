-- `numbers::suffix_end` meets its contract: after a K or an M the other letter of the suffix is left, and nothing can follow that.
-- Assumes nothing.
use Rattle.std.proofs.Common.{◌+◌, ◌∙◌, inl, inr, arith}
use Rattle.places.specs.Places.{has_read}
use Rattle.numbers.specs.Onward.{inside}
use Rattle.numbers.specs.Laws.{suffix_first, suffix_none, suffix_both, suffix_broken}
use Rattle.numbers.proofs.suffix_end.Goals as goal
use Rattle.numbers.proofs.suffix_end.Goals.{then-has_byte-via-then-has_byte, then-has_byte-via-else-has_byte+then-has_byte-2}

pub overflow_add-second : goal.overflow_add-second
overflow_add-second c =
    let first = suffix_first c.args.src.now c.args.at (elim c.then-has_byte.branch [
      | then-has_byte-via-then-has_byte w ↦ inl (has_read c.has_byte.ensures (omega arith) ∙ w.if-has_byte.true)
      | then-has_byte-via-else-has_byte+then-has_byte-2 w ↦ inr (has_read w.has_byte-else-has_byte.ensures (omega arith) ∙ w.if-has_byte-2.true)
    ]) in
    omega (arith, first.0)

pub overflow_add-result : goal.overflow_add-result
overflow_add-result c =
    omega (
      arith,
      inside c.args.src.now (c.args.at + 1) 66
          (has_read c.has_byte-then-has_byte.ensures (omega arith) ∙ c.if-has_byte-3.true) (omega arith),
    )

pub returns-then-has_byte-3 : goal.returns-then-has_byte-3
returns-then-has_byte-3 c =
    let first = suffix_first c.args.src.now c.args.at (elim c.then-has_byte.branch [
      | then-has_byte-via-then-has_byte w ↦ inl (has_read c.has_byte.ensures (omega arith) ∙ w.if-has_byte.true)
      | then-has_byte-via-else-has_byte+then-has_byte-2 w ↦ inr (has_read w.has_byte-else-has_byte.ensures (omega arith) ∙ w.if-has_byte-2.true)
    ]) in
    suffix_both _ _ first.1 (has_read c.has_byte-then-has_byte.ensures (omega arith) ∙ c.if-has_byte-3.true)

pub returns-else-has_byte-3 : goal.returns-else-has_byte-3
returns-else-has_byte-3 c =
    let first = suffix_first c.args.src.now c.args.at (elim c.then-has_byte.branch [
      | then-has_byte-via-then-has_byte w ↦ inl (has_read c.has_byte.ensures (omega arith) ∙ w.if-has_byte.true)
      | then-has_byte-via-else-has_byte+then-has_byte-2 w ↦ inr (has_read w.has_byte-else-has_byte.ensures (omega arith) ∙ w.if-has_byte-2.true)
    ]) in
    suffix_broken _ _ first.1 (has_read c.has_byte-then-has_byte.ensures (omega arith) ∙ c.if-has_byte-3.false)

pub returns-else-has_byte-2 : goal.returns-else-has_byte-2
returns-else-has_byte-2 c =
    suffix_none _ _ (has_read c.has_byte.ensures (omega arith) ∙ c.if-has_byte.false)
    (has_read c.has_byte-else-has_byte.ensures (omega arith) ∙ c.if-has_byte-2.false)
