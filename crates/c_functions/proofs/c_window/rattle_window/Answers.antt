-- `c_functions::rattle_window` meets its contract: what the replay of the script on the window answers is told as a number.
-- Assumes nothing.
use Rattle.std.proofs.Common.{refl}
use Rattle.token_record.specs.Record.{done, refused}
use Rattle.window.specs.Window.{done_told}
use Rattle.c_functions.specs.AnswerLaws.{told_so}
use Rattle.c_functions.proofs.c_window.rattle_window.Goals as goal

pub returns : goal.returns
returns c =
    told_so done refused done_told refl (λ x. refl) c.replay.result c.status.ensures c.replay.ensures
