-- `listing_text::open_fitting` meets its contract: where the source is opened the text fits or not; a refusal of opening is the answer,
-- and what is opened can be scanned. Assumes nothing.
use Rattle.std.proofs.Common.{◌≡◌, true, le-leb, length, Err, rules, sym, ap, ◌∙◌}
use Rattle.reader.specs.Reading.{source_limit, sound, opened_told}
use Rattle.reader.proofs.Following.{opened_sound}
use Rattle.listing_text.proofs.Fitting.{fitting_room, fitting_none, fitting_refused}
use Rattle.listing_text.proofs.size.open_fitting.Goals as goal

pub returns-then-fits : goal.returns-then-fits
returns-then-fits c =
    let t = c.in_ok-tokens.ensures in
    let o = rw (← t.2) at (ap opened_told (sym c.in_ok-open.was) ∙ c.«open».ensures) in
    let f = rw t.1 at (sym c.fits.ensures ∙ c.if-fits.true) in
    (t.1, fitting_room c.args.src.now c.args.room o f)

pub returns-else-fits : goal.returns-else-fits
returns-else-fits c =
    let t = c.in_ok-tokens.ensures in
    let o = rw (← t.2) at (ap opened_told (sym c.in_ok-open.was) ∙ c.«open».ensures) in
    let f = rw t.1 at (sym c.fits.ensures ∙ c.if-fits.false) in
    fitting_none c.args.src.now c.args.room o f

pub returns-in_err-tokens : goal.returns-in_err-tokens
returns-in_err-tokens c =
    let src = c.args.src.now in
    let r = c.in_ok-open.field-0 in
    let s = opened_sound src {r = r} (ap opened_told (sym c.in_ok-open.was) ∙ c.«open».ensures) in
    let t : sound src r ≡ true = rw (le-leb (length src) source_limit s.limit, le-leb r.place.0 (length src) s.inside) in
    let f = c.in_err-tokens.ensures.0 in
    cc

pub returns-in_err-open : goal.returns-in_err-open
returns-in_err-open c =
    let e : c.from_residual.result ≡ Err c.in_err-open.field-0.0 = search rules in
    rw e (fitting_refused c.args.src.now c.args.room (ap opened_told (sym c.in_err-open.was) ∙ c.«open».ensures))
