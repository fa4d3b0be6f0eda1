-- The loop's invariant: to store what is left of the source, in the room as it is, is to store all.
-- Assumes nothing.
use Rattle.std.proofs.Common.{◌-◌, ◌≡◌}
use Rattle.fetching.specs.FetchingLaws.{Storing}
use Rattle.fetching.proofs.store.Given as goal

abbrev pub invariant-loop : goal.invariant-loop
invariant-loop l =
    let a = l.initial in
    (l.left.src ≡ a.left.src) × Storing a.left.src.now a.left.reader a.room a.next.0 l.need l.left.reader l.room l.next.0 (l.need - l.counter)
