-- `c_functions::rattle_events` meets its contract: what the replay of the script on the event stream answers is told as a number.
-- Assumes nothing.
use Rattle.std.proofs.Common.{refl}
use Rattle.event_record.specs.Record.{done, refused}
use Rattle.events.specs.Stream.{done_told}
use Rattle.c_functions.specs.AnswerLaws.{told_so}
use Rattle.c_functions.proofs.c_events.rattle_events.Goals as goal

pub returns : goal.returns
returns c =
    told_so done refused done_told refl (λ x. refl) c.replay.result c.status.ensures c.replay.ensures
