-- The place that the search finds, or else their number.
-- Assumes nothing.
use Rattle.std.proofs.Common.{ℕ, Option, unwrap_or, ltb, length, ap, ◌∙◌, arith, rules, tests}
use Rattle.std.proofs.lemmas.Iterator.{YieldsList-from_slice}
use Rattle.std.proofs.lemmas.Iterator.Search.{position_from_yields_List}
use Rattle.tokens.specs.declared.TokenIndex.{TokenIndex}
use Rattle.bookmarks.specs.InsertingLaws.{place_found, place_within}
use Rattle.bookmarks.proofs.inserting.place.Goals as goal

pub returns : goal.returns
returns c =
    let a = c.args in
    let xs = a.live.now in
    let q = position_from_yields_List (λ (m : TokenIndex). ltb a.mark.0 m.0) _ _ _ c.position.ensures.ran (YieldsList-from_slice xs cc) (λ x b q k. search (rules, tests)) in
    let e = c.unwrap_or.ensures ∙ ap (λ (o : Option ℕ). unwrap_or o (length xs)) q ∙ place_found a.mark xs in
    record { place = e; within = omega (arith, e, place_within a.mark xs) }
