-- Pushing an event, behind which the last token is another: what push of a token and of an error share. Assumes nothing.
use Rattle.std.specs.Prelude.{not, [], ◌∷◌, ltb}
use Rattle.refusals.specs.Calls.{unless}
use Rattle.event_record.specs.declared.Span.{Span}
use Rattle.event_record.specs.declared.Event.{Event}
use Rattle.event_record.specs.Record.{done, refused, Reply, reply, lasting, pushed, spare, no_span}
use Rattle.events.specs.Stream.{State, sound, view, laid}

unfoldable pub pushes : Event → Span → State → Reply State
unfolding view laid
pushes y x s =
    unless refused ((no_span y.span, 7) ∷ (ltb (spare (view s)) 1, 5) ∷ []) s (laid s (reply done (pushed y (lasting x (view s)))))

-- The same, where the test of 24 comes before.
unfoldable pub pushes_if_sound : Event → Span → State → Reply State
unfolding pushes sound
pushes_if_sound y x s = unless refused ((not (sound s), 24) ∷ []) s (pushes y x s)
