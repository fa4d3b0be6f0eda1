-- Laws of the record's lists of events: the last token of some events and some more is the last of those more, sought from the last of the
-- first on. By induction on the first. Assumes nothing.
use Rattle.std.specs.Prelude.{◌≡◌, refl, cond, List, [], ◌∷◌, ◌++◌, eqb}
use Rattle.event_record.specs.declared.Span.{Span}
use Rattle.event_record.specs.declared.Event.{Event}
use Rattle.event_record.specs.Record.{token_tag, last_token}

pub last_token_append : (x : Span) (xs ys : List Event) → last_token x (xs ++ ys) ≡ last_token (last_token x xs) ys
unfolding last_token
last_token_append x [] ys = refl
last_token_append x (y ∷ xs) ys = last_token_append (cond (eqb y.tag token_tag) y.span x) xs ys
