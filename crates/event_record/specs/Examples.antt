-- Computed examples of the record: document 01's marked case, the rules of "Event stream" one by one, every refusal at its edge,
-- and what each call answers and leaves, state by state.
-- Assumes nothing.
use Rattle.std.specs.Prelude.{ℕ, ◌≡◌, refl, Bool, true, false, List, [], ◌∷◌, ◌++◌, map}
use Rattle.refusals.specs.Calls.{run, after_all}
use Rattle.event_record.specs.declared.Span.{Span}
use Rattle.event_record.specs.declared.Event.{Event}
use Rattle.event_record.specs.Record.{Call, push_token, push_error, begin, end, end_with_error, bookmark, pop, truncate, remove_bookmark, Answer, done, none, position, refused, Reply, reply, Record, opened, holding, marked, span, event_of, at, answered}
use Rattle.event_record.specs.Record as record_of

-- Calls and answers, shorter.
abbrev pub token : ℕ → ℕ → Call
token a b = push_token 72 (span a b)

abbrev pub error : ℕ → ℕ → Call
error a b = push_error 9 (span a b)

abbrev pub event : ℕ → ℕ → ℕ → ℕ → Answer
event t k a b = record_of.event (event_of t k (span a b))

abbrev pub mark : ℕ → Answer
mark p = position (at p)

abbrev pub cut : ℕ → Call
cut p = truncate (at p)

abbrev pub remove : ℕ → Call
remove p = remove_bookmark (at p)

-- Everything that stands, one event after the other, and none behind it.
abbrev pub four_pops : List Call
four_pops = pop ∷ pop ∷ pop ∷ pop ∷ []

-- A record with other events and open nodes than calls leave.
abbrev pub forged : List Event → List ℕ → Record
forged es ps = holding es ps (opened 9 9)

-- Answers with E slots and D places from opening on.
abbrev pub says : ℕ → ℕ → List Call → List Answer
says e d cs = run answered cs (opened e d)

-- What calls come to, each of them made from the same record: a call changes what it is for, and nothing else.
abbrev pub each : List Call → Record → List (Reply Record)
each cs r = map (λ c. answered c r) cs

abbrev pub standing : ℕ → ℕ → List Event → List ℕ → ℕ → Span → Span → Bool → Record
standing e d es ps n x g b = record { slots = e; places = d; events = es; opens = ps; bookmarks = n; last = x; gone = g; popped = b }

-- Two nodes open, some event in the inner one: whatever bookmarks live, the last token is, and was popped.
abbrev pub two : ℕ → Event → List Event
two k y = event_of 2 72 (span 2 4) ∷ event_of 0 5 (span 4 4) ∷ event_of 0 k (span 4 4) ∷ y ∷ []

abbrev pub amid : ℕ → ℕ → Event → ℕ → Span → Span → Bool → Record
amid e d y n x g b = standing e d (two 6 y) (1 ∷ 2 ∷ []) n x g b

-- An empty node whose Begin is alone in the stream: plain end keeps it, end with error removes it, and the rest stays.
abbrev pub alone : ℕ → ℕ → ℕ → Span → Span → Bool → Record
alone e d n x g b = standing e d (event_of 0 5 (span 4 4) ∷ []) (0 ∷ []) n x g b

-- Nothing stands: the last token, and the last one popped, are what they were.
abbrev pub bare : ℕ → ℕ → ℕ → Span → Span → Bool → Record
bare e d n x g b = standing e d [] [] n x g b
