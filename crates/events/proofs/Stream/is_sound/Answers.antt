-- The tests of 24 in their order: the lengths and the record alone, then the last open place.
-- Assumes nothing.
use Rattle.std.proofs.Common.{◌∙◌}
use Rattle.events.specs.TestLaws.{places_enough, in_parts}
use Rattle.events.proofs.Stream.is_sound.Goals as goal

pub is_begun-requires : goal.is_begun-requires
is_begun-requires c =
    let a = c.args in
    places_enough a.self _ _ c.is_within.ensures c.if-self-slots.true

pub returns-then-self-slots : goal.returns-then-self-slots
returns-then-self-slots c =
    c.is_begun.ensures ∙ in_parts _ c.slots-slots.ensures c.is_within.ensures c.if-self-slots.true

pub returns-else-self-slots : goal.returns-else-self-slots
returns-else-self-slots c =
    in_parts _ c.slots-slots.ensures c.is_within.ensures c.if-self-slots.false
