-- Each refusal is one test of the definition, and storing is what is said where all pass.
-- Assumes nothing.
use Rattle.std.proofs.Common.{rules}
use Rattle.fetching.proofs.FetchingLaws.{is_sound, no_reader, above, fetched_unsound, fetched_none, fetched_all}
use Rattle.fetching.proofs.fetch.Goals as goal

pub returns-in_err-tokens : goal.returns-in_err-tokens
returns-in_err-tokens c =
    let a = c.args in
    let e = fetched_unsound a.src.now a.reader a.room.now a.first a.need a.spare (no_reader a.src.now a.reader a.first c.in_err-tokens.ensures.0) in
    search (rules, e)

pub returns-then-reader-first : goal.returns-then-reader-first
returns-then-reader-first c =
    let a = c.args in
    let t = c.in_ok-tokens.ensures in
    fetched_unsound a.src.now a.reader a.room.now a.first a.need a.spare (above a.src.now a.reader a.first t.0 c.if-reader-first.true)

pub returns-then-not-fits : goal.returns-then-not-fits
returns-then-not-fits c =
    let a = c.args in
    let t = c.in_ok-tokens.ensures in
    let h = is_sound a.src.now a.reader a.first t.0 c.if-reader-first.false in
    fetched_none a.src.now a.reader a.room.now a.first a.need a.spare h (rw (t.1, t.2) at c.if-not-fits.ensures)

pub returns : goal.returns
returns c =
    let a = c.args in
    let t = c.in_ok-tokens.ensures in
    let h = is_sound a.src.now a.reader a.first t.0 c.if-reader-first.false in
    let s = rw (t.1, t.2) at c.store.ensures in
    fetched_all a.src.now a.reader a.room.now a.first a.need a.spare h (rw (t.1, t.2) at c.if-not-fits.ensures) s.0 s.1
