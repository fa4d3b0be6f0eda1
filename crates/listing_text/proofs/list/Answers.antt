-- `listing_text::list` meets its contract: from the reader that opening gives all tokens are left, and their text has room; a refusal
-- of opening is the answer. Assumes nothing.
use Rattle.std.proofs.Common.{◌≡◌, Err, rules}
use Rattle.refusals.specs.Refusals.{number_of}
use Rattle.reader.specs.Reading.{ready, refused}
use Rattle.listing_text.proofs.ListedLaws.{fits}
use Rattle.listing_text.proofs.list.Goals as goal

pub put_text-requires : goal.put_text-requires
put_text-requires c =
    let e = c.in_ok-tokens.ensures in
    rw e.0 (fits c.args.src.now c.args.out.now (ready c.in_ok-tokens.tokens.reader) e.1).1

pub returns : goal.returns
returns c =
    let e = c.in_ok-tokens.ensures in
    let w = rw e.0 at c.put_text.ensures in
    (fits c.args.src.now c.args.out.now (ready c.in_ok-tokens.tokens.reader) e.1).2 c.put_text.new.out c.put_text.result w

pub returns-in_err-tokens : goal.returns-in_err-tokens
returns-in_err-tokens c =
    let e : c.from_residual.result ≡ Err c.in_err-tokens.field-0.0 = search rules in
    rw e (fits c.args.src.now c.args.out.now (refused (number_of c.in_err-tokens.field-0.0)) c.in_err-tokens.ensures)
