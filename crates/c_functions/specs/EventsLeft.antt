-- What rattle_events leaves, in the words of event_scripts: its number tells done or the refusal. The contract leaves no choice, since
-- the number and all that is lent can be read back. Assumes nothing.
use Rattle.std.specs.Prelude.{ℕ, refl, List}
use Rattle.std.proofs.Common.{ap}
use Rattle.patterns.specs.Determined.{Once}
use Rattle.patterns.proofs.Determined.{once}
use Rattle.refusals.specs.Calls.{reply}
use Rattle.event_record.specs.Record.{Answer, done, none, position, event, refused, Reply}
use Rattle.event_scripts.specs.Script.{Lent, lent}
use Rattle.c_functions.specs.Answers.{told}
use Rattle.c_functions.specs.Determined.{told_same}

abbrev pub events_left : ℕ → List ℕ → List ℕ → List ℕ → Reply Lent
events_left n room opens answers = reply (told done refused n) (lent room opens answers)

abbrev number : Answer → ℕ
number done = 0
number none = 0
number (position p) = 0
number (event y) = 0
number (refused n) = n

pub events_once : Once (λ (p : ℕ × List ℕ × List ℕ × List ℕ). events_left p.0 p.1 p.2 p.3)
events_once =
    once _ (λ y. (number y.answer, y.after.room, y.after.opens, y.after.answers))
    (λ p. ap (λ n. (n, p.1, p.2, p.3)) (told_same done refused number refl (λ n. refl) p.0))
