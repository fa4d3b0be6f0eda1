-- What rattle_window leaves, in the words of window_scripts: its number tells done or the refusal. The contract leaves no choice, since
-- the number and all that is lent can be read back. Assumes nothing.
use Rattle.std.specs.Prelude.{ℕ, refl, List}
use Rattle.std.proofs.Common.{ap}
use Rattle.patterns.specs.Determined.{Once}
use Rattle.patterns.proofs.Determined.{once}
use Rattle.refusals.specs.Calls.{reply}
use Rattle.token_record.specs.Record.{Answer, token, none, truth, index, done, refused, Reply}
use Rattle.window_scripts.specs.Script.{Lent, lent}
use Rattle.c_functions.specs.Answers.{told}
use Rattle.c_functions.specs.Determined.{told_same}

abbrev pub window_left : ℕ → List ℕ → List ℕ → Reply Lent
window_left n room answers = reply (told done refused n) (lent room answers)

abbrev number : Answer → ℕ
number (token x) = 0
number none = 0
number (truth b) = 0
number (index i) = 0
number done = 0
number (refused n) = n

pub window_once : Once (λ (p : ℕ × List ℕ × List ℕ). window_left p.0 p.1 p.2)
window_once =
    once _ (λ y. (number y.answer, y.after.room, y.after.answers))
    (λ p. ap (λ n. (n, p.1, p.2)) (told_same done refused number refl (λ n. refl) p.0))
