use Rattle.std.proofs.Common.{ap, ◌∙◌, length, arith}
use Rattle.std.proofs.lemmas.Grind.{common_steps}
use Rattle.listing_text.specs.Listing.{line}
use Rattle.listing_text.proofs.Put.{wrote_part, length_put}
use Rattle.listing_text.proofs.Sizes.{count_fits}
use Rattle.listing_text.proofs.Turns.{writing_start, count_line, room_line, writing_next, count_end, writing_end}
use Rattle.listing_text.proofs.put_lines.Goals as goal

pub loop-token-init : goal.loop-token-init
loop-token-init c = rw c.into_iter-token-iterator.ensures.into_iter_gives (tt, tt, writing_start (omega (arith, c.requires)))

pub overflow_add-count : goal.overflow_add-count
overflow_add-count c =
    let t = c.args.tokens in
    omega (arith, count_line c.in-Some.ensures.steps c.loop-token.invariant.2, count_fits t.src.now t.reader t.sound)

pub put_line-len-requires : goal.put_line-len-requires
put_line-len-requires c = let r = room_line c.in-Some.ensures.steps c.loop-token.invariant.2 in grind (arith, common_steps)

pub overflow_add-len : goal.overflow_add-len
overflow_add-len c = omega (arith, c.put_line-len.ensures.behind, room_line c.in-Some.ensures.steps c.loop-token.invariant.2)

pub loop-token-preserved : goal.loop-token-preserved
loop-token-preserved c =
    let l = c.loop-token in
    let e = c.in-Some.ensures.steps in
    let r = room_line e l.invariant.2 in
    let f = wrote_part {out = l.out} (omega arith) (omega arith) c.put_line-len.ensures in
    (tt, tt, writing_next e l.invariant.2 f (ap length f.bytes ∙ length_put l.len (line c.in-Some.token) l.out r))

pub returns : goal.returns
returns c =
    let e = c.in-None.ensures.steps.0 in
    record { count = count_end e c.loop-token.invariant.2; wrote = writing_end e c.loop-token.invariant.2 }
