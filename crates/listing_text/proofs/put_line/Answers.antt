-- `listing_text::put_line` meets its contract: the kind, the start and the end, each with the byte behind it. Assumes nothing.
use Rattle.std.proofs.Common.{◌≡◌, length, arith}
use Rattle.listing_text.specs.Listing.{space, lf, field, line}
use Rattle.listing_text.proofs.Put.{wrote_three}
use Rattle.listing_text.proofs.Numbers.{length_field}
use Rattle.listing_text.proofs.put_line.Goals as goal

pub returns : goal.returns
unfolding line
returns c =
    let x = c.args.token in
    let k : c.field_len.result ≡ length (field x.kind space) = omega (arith, length_field x.kind space) in
    let s : c.field_len-2.result ≡ length (field x.start.0 space) = omega (arith, length_field x.start.0 space) in
    let e : c.field_len-3.result ≡ length (field x.end.0 lf) = omega (arith, length_field x.end.0 lf) in
    rw (
      c.put_field.ensures,
      c.put_field-2.ensures,
      c.put_field-3.ensures,
      c.split_at_mut-end.ensures.back,
      c.split_at_mut-start.ensures.back,
      c.split_at_mut-kind.ensures.back,
    ) (wrote_three (field x.kind space) (field x.start.0 space) (field x.end.0 lf) c.args.out.now k s e)
