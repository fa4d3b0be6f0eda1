-- The event stream as a plain list of events: what each call answers, and what it leaves. It is to be read beside document 01's "Event
-- stream" and its table of refusals; 24, which speaks of lent room, is not here. Assumes nothing.
use Rattle.std.specs.Prelude.{ℕ, ◌+◌, ◌-◌, Bool, true, false, cond, not, ◌&&◌, ◌||◌, List, [], ◌∷◌, ◌++◌, length, get_or, set, take, drop, eqb, leb, ltb}
use Rattle.refusals.specs.Calls as calls
use Rattle.event_record.specs.declared.Span.{Span}
use Rattle.event_record.specs.declared.Event.{Event}
use Rattle.event_record.specs.declared.Position.{Position}

-- The calls, under the Rust's names; with a kind or message, a span, a position.
pub data Call : Type 0 where
  push_token push_error : ℕ → Span → Call
  begin : ℕ → Call
  end end_with_error bookmark pop : Call
  truncate remove_bookmark : Position → Call

-- What they answer, in document 01's values; a refusal by its number.
pub data Answer : Type 0 where
  done none : Answer
  position : Position → Answer
  event : Event → Answer
  refused : ℕ → Answer

abbrev pub Reply : Type 0 → Type 0
Reply S = calls.Reply Answer S

abbrev pub reply : {S : Type 0} → Answer → S → Reply S
reply a s = calls.reply a s

-- An event is a tag, a kind or message, and a span.
abbrev pub begin_tag : ℕ
begin_tag = 0

abbrev pub end_tag : ℕ
end_tag = 1

abbrev pub token_tag : ℕ
token_tag = 2

abbrev pub error_tag : ℕ
error_tag = 3

abbrev pub error_kind : ℕ
error_kind = 0

abbrev pub span : ℕ → ℕ → Span
span a b = record { start = record { 0 = a }; end = record { 0 = b } }

abbrev pub event_of : ℕ → ℕ → Span → Event
event_of t k x = record { tag = t; kind = k; span = x }

abbrev pub at : ℕ → Position
at i = record { 0 = i }

-- The record: E and D; the events that stand, from the front; the positions of the open Begins, the innermost last; how many bookmarks
-- live; the last token; the last token popped; whether anything was popped.
pub record Record : Type 0 where
  pub slots : ℕ
  pub places : ℕ
  pub events : List Event
  pub opens : List ℕ
  pub bookmarks : ℕ
  pub last : Span
  pub gone : Span
  pub popped : Bool

abbrev pub opened : ℕ → ℕ → Record
opened e d =
    record { slots = e; places = d; events = []; opens = []; bookmarks = 0; last = span 0 0; gone = span 0 0; popped = false }

-- The parts that calls change.
abbrev pub holding : List Event → List ℕ → Record → Record
holding es ps r =
    record { slots = r.slots; places = r.places; events = es; opens = ps; bookmarks = r.bookmarks; last = r.last; gone = r.gone; popped = r.popped }

abbrev pub marked : ℕ → Record → Record
marked n r =
    record { slots = r.slots; places = r.places; events = r.events; opens = r.opens; bookmarks = n; last = r.last; gone = r.gone; popped = r.popped }

abbrev pub lasting : Span → Record → Record
lasting x r =
    record { slots = r.slots; places = r.places; events = r.events; opens = r.opens; bookmarks = r.bookmarks; last = x; gone = r.gone; popped = r.popped }

abbrev pub passed : Span → Record → Record
passed x r =
    record { slots = r.slots; places = r.places; events = r.events; opens = r.opens; bookmarks = r.bookmarks; last = r.last; gone = x; popped = true }

-- The last Token event of some, else a span that is given.
unfoldable pub last_token : Span → List Event → Span
last_token x [] = x
last_token x (y ∷ ys) = last_token (cond (eqb y.tag token_tag) y.span x) ys

-- Whether events balance among themselves, Begin against End by tag alone: n nodes are open before them, none behind them, and no End
-- stands where none is open.
abbrev pub unmatched : ℕ → Event → Bool
unmatched n y = eqb y.tag end_tag && eqb n 0

abbrev pub depth : ℕ → Event → ℕ
depth n y = cond (eqb y.tag begin_tag) (n + 1) (cond (eqb y.tag end_tag) (n - 1) n)

unfoldable pub balanced : ℕ → List Event → Bool
balanced n [] = eqb n 0
balanced n (y ∷ ys) = not (unmatched n y) && balanced (depth n y) ys

-- An event more.
abbrev pub pushed : Event → Record → Record
pushed y r = holding (r.events ++ (y ∷ [])) r.opens r

-- Begin: its span is empty, at the end of the last token.
abbrev pub begun : ℕ → Record → Record
begun k r =
    let x = r.last.end.0 in
    holding (r.events ++ (event_of begin_tag k (span x x) ∷ [])) (r.opens ++ (length r.events ∷ [])) r

-- The innermost open Begin: its position, and what stands there.
abbrev pub inner : Record → ℕ
inner r = get_or r.opens (length r.opens - 1) 0

abbrev pub inner_event : Record → Event
inner_event r = get_or r.events (inner r) (event_of 0 0 (span 0 0))

abbrev pub outer : Record → List ℕ
outer r = take (length r.opens - 1) r.opens

-- End: the Begin gets its kind and, as its end, the last token's; an End of equal kind and span follows.
abbrev pub ended : ℕ → Record → Record
ended k r =
    let x = span (inner_event r).span.start.0 r.last.end.0 in
    holding (set r.events (inner r) (event_of begin_tag k x) ++ (event_of end_tag k x ∷ [])) (outer r) r

-- End with error: kind 0; but a Begin that is the last event is removed.
abbrev pub dropped : Record → Record
dropped r = holding (take (length r.events - 1) r.events) (outer r) r

abbrev pub ended_with_error : Record → Record
ended_with_error r = cond (eqb (inner r + 1) (length r.events)) (dropped r) (ended error_kind r)

-- Truncate: the events before the position are left, and the last token is sought among them.
abbrev pub cut : ℕ → Record → Record
cut p r = holding (take p r.events) r.opens (lasting (last_token r.gone (take p r.events)) r)

-- Pop: the first event, if there is one.
abbrev pub first_popped : List Event → Record → Reply Record
first_popped [] r = reply none r
first_popped (y ∷ ys) r = reply (event y) (holding ys r.opens (passed (last_token r.gone (y ∷ [])) r))

-- What each call comes to where nothing refuses it.
unfoldable pub taken : Call → Record → Reply Record
unfolding last_token
taken (push_token k x) r = reply done (pushed (event_of token_tag k x) (lasting x r))
taken (push_error m x) r = reply done (pushed (event_of error_tag m x) r)
taken (begin k) r = reply done (begun k r)
taken end r = reply done (ended (inner_event r).kind r)
taken end_with_error r = reply done (ended_with_error r)
taken bookmark r = reply (position (at (length r.events))) (marked (r.bookmarks + 1) r)
taken (truncate p) r = reply done (cut p.0 r)
taken (remove_bookmark p) r = reply done (marked (r.bookmarks - 1) r)
taken pop r = first_popped r.events r

-- The limits: an end of a span, and how many bookmarks can live.
abbrev pub span_limit : ℕ
span_limit = 65535

abbrev pub bookmark_limit : ℕ
bookmark_limit = 65535

-- Slots beyond the events and beyond those that open nodes reserve, one each.
abbrev pub spare : Record → ℕ
spare r = r.slots - (length r.events + length r.opens)

abbrev pub no_span : Span → Bool
no_span x = ltb x.end.0 x.start.0 || ltb span_limit x.end.0

abbrev pub none_live : Record → Bool
none_live r = eqb r.bookmarks 0

abbrev pub past_end : Position → Record → Bool
past_end p r = ltb (length r.events) p.0

-- Why a call is refused: each test with its number, in the order in which they are tested.
unfoldable pub grounds : Call → Record → List (Bool × ℕ)
unfolding balanced
grounds (push_token k x) r = (no_span x, 7) ∷ (ltb (spare r) 1, 5) ∷ []
grounds (push_error m x) r = (no_span x, 7) ∷ (ltb (spare r) 1, 5) ∷ []
grounds (begin k) r = (leb r.places (length r.opens), 11) ∷ (ltb (spare r) 2, 5) ∷ []
grounds end r = (eqb (length r.opens) 0, 6) ∷ []
grounds end_with_error r = (eqb (length r.opens) 0, 6) ∷ []
grounds bookmark r = (leb bookmark_limit r.bookmarks, 3) ∷ []
grounds (truncate p) r = (none_live r, 4) ∷ (past_end p r, 10) ∷ (not (balanced 0 (drop p.0 r.events)), 8) ∷ []
grounds (remove_bookmark p) r = (none_live r, 4) ∷ (past_end p r, 10) ∷ []
grounds pop r = (leb 1 r.bookmarks || leb 1 (length r.opens), 9) ∷ []

unfoldable pub answered : Call → Record → Reply Record
unfolding grounds taken
answered c r = calls.unless refused (grounds c r) r (taken c r)
