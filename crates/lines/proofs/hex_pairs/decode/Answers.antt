use Rattle.std.proofs.Common.{◌≡◌, length, arith}
use Rattle.lines.specs.HexLaws.{pair_inside}
use Rattle.lines.specs.DecodingLaws.{decoding_start, decoding_on, decoding_stops, decoding_over}
use Rattle.lines.proofs.hex_pairs.decode.Goals as goal

pub loop-len-init : goal.loop-len-init
loop-len-init c = decoding_start _ _ _

pub returns-in_default : goal.returns-in_default
returns-in_default c = decoding_stops c.loop-len.invariant c.in_default.ensures

pub overflow_add-end : goal.overflow_add-end
overflow_add-end c = omega (arith, pair_inside c.args.text.now c.loop-len.end c.in-Some.ensures)

pub loop-len-preserved : goal.loop-len-preserved
loop-len-preserved c = decoding_on c.loop-len.invariant _ c.in-Some.ensures (omega arith)

pub returns : goal.returns
returns c = let all : length c.loop-len.out ≡ c.loop-len.len = omega arith in rw all (decoding_over c.loop-len.invariant (omega arith))
