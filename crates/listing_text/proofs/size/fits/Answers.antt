-- `listing_text::fits` meets its contract: either no listing of such a source is longer than the room, or it is measured.
-- Assumes nothing.
use Rattle.std.proofs.Common.{◌+◌, ◌*◌, sym, ◌∙◌, arith, le-leb, length}
use Rattle.reader.specs.Following.{rest}
use Rattle.listing_text.specs.Listing.{text}
use Rattle.listing_text.proofs.Sizes.{text_most}
use Rattle.listing_text.proofs.size.fits.Goals as goal

pub returns-then-room-tokens : goal.returns-then-room-tokens
returns-then-room-tokens c =
    let t = c.args.tokens in
    le-leb (13 + 15 * length t.src.now) c.args.room (omega arith)
    ∙ sym (le-leb (length (text (rest t.src.now t.reader))) c.args.room (omega (arith, text_most t.src.now t.reader t.sound)))
