-- What a call on an event stream whose record stands as numbers in lent memory answers and leaves: the stream's own `step`, on the record
-- that the numbers are; and what it changes of the record is stored. Assumes nothing.
use Rattle.std.specs.Prelude.{ℕ, List, [], ◌∷◌, ◌++◌}
use Rattle.refusals.specs.Calls.{unless}
use Rattle.event_record.specs.Record.{Call, push_token, push_error, begin, end, end_with_error, bookmark, truncate, remove_bookmark, pop, Answer, done, none, position, event, refused, Reply, reply}
use Rattle.events.specs.declared.Stream.{Stream}
use Rattle.events.specs.Stream.{State, state, step}
use Rattle.stream_numbers.specs.Numbers.{stream_of, numbers_of, put_last, put_opened, put_bookmarks, put_popped, forged}

-- Every lent number.
pub record Lent : Type 0 where
  pub stream : List ℕ
  pub room : List ℕ
  pub opens : List ℕ

abbrev pub lent : List ℕ → List ℕ → List ℕ → Lent
lent stream room opens = record { stream = stream; room = room; opens = opens }

-- The state that lent numbers are, and a state as numbers.
abbrev pub read : Lent → State
read l = state (stream_of l.stream) l.room l.opens

abbrev pub stored : State → Lent
stored s = lent (numbers_of s.stream) s.room s.opens

-- What a call may change, stored over the numbers; and that they stay where it is refused or finds none.
abbrev pub changed : Call → List ℕ → Stream → List ℕ
changed (push_token k x) l t = put_last l t
changed (push_error m x) l t = put_last l t
changed (begin k) l t = put_opened l t
changed end l t = put_opened l t
changed end_with_error l t = put_opened l t
changed bookmark l t = put_bookmarks l t
changed (truncate p) l t = put_last l t
changed (remove_bookmark p) l t = put_bookmarks l t
changed pop l t = put_popped l t

abbrev pub left : Answer → List ℕ → List ℕ → List ℕ
left done l k = k
left none l k = l
left (position p) l k = k
left (event y) l k = k
left (refused n) l k = l

abbrev pub kept : Call → List ℕ → Reply State → Reply Lent
kept c l y = reply y.answer (lent (left y.answer l (changed c l y.after.stream)) y.after.room y.after.opens)

-- Numbers that no record has are refused by 24, as every forged record is by `step`.
unfoldable pub live : Call → Lent → Reply Lent
live c l =
    unless refused ((forged l.stream, 24) ∷ []) l (kept c l.stream (step c (read l)))

-- The numbers of a record of one slot and no open place, for examples.
abbrev pub sixteen : ℕ → List ℕ → ℕ → List ℕ
sixteen count spans popped = (1 ∷ 0 ∷ 0 ∷ 0 ∷ 0 ∷ 0 ∷ count ∷ 0 ∷ 0 ∷ 0 ∷ 0 ∷ []) ++ spans ++ (popped ∷ [])
