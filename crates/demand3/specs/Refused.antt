-- Demand 1: a refused call changes neither the window nor the lent room, whatever they hold. Refusals 24 and 2 give back what was
-- handed in; 3 and 4 come from calls that want no token, and such a call, once sound, fetches none. Assumes nothing.
use Rattle.std.specs.Prelude.{ℕ, ◌≡◌}
use Rattle.token_record.specs.Record.{Answer, token, none, truth, index, done, refused}

-- an answer is the refusal n
abbrev pub Refusal : ℕ → Answer → Type 0
Refusal n (token x) = ⊥
Refusal n none = ⊥
Refusal n (truth b) = ⊥
Refusal n (index i) = ⊥
Refusal n done = ⊥
Refusal n (refused k) = k ≡ n
