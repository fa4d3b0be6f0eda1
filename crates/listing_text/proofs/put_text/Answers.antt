-- `listing_text::put_text` meets its contract: the lines, moved up to where the first line ends, and that line in front of them are the
-- text; and since no first line is shorter than 9 bytes, the text covers the place where the lines stood first. Assumes nothing.
use borrow.Rule.Slice.PartMut.{put_mid}
use Rattle.std.proofs.Common.{◌+◌, ◌-◌, ◌≤◌, ◌≡◌, sym, ap, ◌∙◌, arith, length, length-take-le}
use Rattle.std.proofs.lemmas.Grind.{common_steps}
use Rattle.reader.specs.Following.{rest}
use Rattle.listing_text.specs.Listing.{lines, head}
use Rattle.listing_text.proofs.Put.{length_put, wrote_part, wrote_within, wrote_front, wrote_up}
use Rattle.listing_text.proofs.Numbers.{head_least, length_text, text_parts}
use Rattle.listing_text.proofs.put_text.Goals as goal

pub slice_bounds-put_head-end-2 : goal.slice_bounds-put_head-end-2
slice_bounds-put_head-end-2 c =
    sym (length-take-le c.head_len-at.result c.copy_within.new.self (grind (arith, common_steps, length_text, head_least)))

pub put_head-requires : goal.put_head-requires
put_head-requires c =
    length-take-le c.head_len-at.result c.copy_within.new.self (grind (arith, common_steps, length_text, head_least)) ∙ c.head_len-at.ensures.0

pub returns : goal.returns
returns c =
    let out = c.args.out.now in
    let p = c.put_lines-lines in
    let n = p.result.count in
    let xs = rest c.args.tokens.src.now c.args.tokens.reader in
    let y = put_mid 9 (length out - 9) out p.new.out in
    let e : length (head n) ≡ length (head (length xs)) = ap (λ m. length (head m)) p.ensures.count in
    let room : length (head n) + length (lines xs) ≤ length out = omega (arith, c.requires, length_text xs, e) in
    let f = wrote_part {out = out} (omega (arith, head_least n)) (omega (arith, head_least n)) p.ensures.wrote in
    let l : length y ≡ length out = ap length f.bytes ∙ length_put 9 (lines xs) out (omega (arith, head_least n)) in
    let g = wrote_within 9 p.result.len c.head_len-at.result y (omega (arith, head_least n, f.behind)) in
    let h = wrote_front c.copy_within.new.self c.head_len-at.ensures.0 in
    rw (c.put_head.ensures, text_parts xs, ← p.ensures.count)
    (wrote_up f (rw (← c.copy_within.ensures.after) at g) h (omega (arith, head_least n)) c.head_len-at.ensures.0 room)
