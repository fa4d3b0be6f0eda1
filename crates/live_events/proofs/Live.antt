-- Examples. One slot and no open place: opened, a token pushed, popped; and a last number that is no truth value. Assumes nothing.
use Rattle.std.specs.Prelude.{◌≡◌, refl, [], ◌∷◌, replicate}
use Rattle.event_record.specs.Record.{push_token, pop, done, event, refused, reply, span, event_of}
use Rattle.events.specs.Stream.{fresh, step}
use Rattle.stream_numbers.specs.Numbers.{stream_of, numbers_of}
use Rattle.live_events.specs.Live.{lent, live, sixteen}

as_opened : numbers_of (fresh 1 0) ≡ sixteen 0 (0 ∷ 0 ∷ 0 ∷ 0 ∷ []) 0
unfolding numbers_of
as_opened = refl

token_pushed : live (push_token 2 (span 1 4)) (lent (sixteen 0 (0 ∷ 0 ∷ 0 ∷ 0 ∷ []) 0) (replicate 4 7) [])
    ≡ reply done (lent (sixteen 1 (1 ∷ 4 ∷ 0 ∷ 0 ∷ []) 0) (2 ∷ 2 ∷ 1 ∷ 4 ∷ []) [])
unfolding live stream_of numbers_of step
token_pushed = refl

token_popped : live pop (lent (sixteen 1 (1 ∷ 4 ∷ 0 ∷ 0 ∷ []) 0) (2 ∷ 2 ∷ 1 ∷ 4 ∷ []) [])
    ≡ reply (event (event_of 2 2 (span 1 4))) (lent (sixteen 0 (1 ∷ 4 ∷ 1 ∷ 4 ∷ []) 1) (2 ∷ 2 ∷ 1 ∷ 4 ∷ []) [])
unfolding live stream_of numbers_of step
token_popped = refl

no_truth_value : let l = lent (sixteen 0 (0 ∷ 0 ∷ 0 ∷ 0 ∷ []) 2) (replicate 4 7) [] in live pop l ≡ reply (refused 24) l
unfolding live
no_truth_value = refl
