-- A script of calls of the event stream as numbers, and what replaying it writes: the answers of the plain list of events, as numbers.
-- Assumes nothing.
use Rattle.std.specs.Prelude.{ℕ, ◌≡◌, refl, List, [], ◌∷◌, length, replicate}
use Rattle.refusals.specs.Calls.{unless, run, after_all}
use Rattle.scripts.specs.Scripts.{Form, calls_from, calls_of, no_room, noted}
use Rattle.event_record.specs.Record.{Call, Answer, done, refused, Reply, reply, opened, answered}
use Rattle.event_room.specs.Room.{slots_in}
use Rattle.events.specs.Stream.{step}
use Rattle.event_scripts.specs.Asking.{call_of, numbers, five}
use Rattle.event_view.specs.Viewed.{start}

-- A call is four numbers, an answer five (Asking).
abbrev pub form : Form Call Answer
form =
    record {
      call_width = 4;
      call_of = λ f. call_of (f 0) (f 1) (f 2) (f 3);
      answer_width = 5;
      numbers = numbers;
      sized = five;
    }

-- Every lent number.
pub record Lent : Type 0 where
  pub room : List ℕ
  pub opens : List ℕ
  pub answers : List ℕ

abbrev pub lent : List ℕ → List ℕ → List ℕ → Lent
lent room opens answers = record { room = room; opens = opens; answers = answers }

-- Refused by 15 where the answers have no room. Else they are the plain list's, from opening on; and the rooms hold what the calls leave
-- there.
unfoldable pub replayed : List ℕ → List ℕ → List ℕ → List ℕ → Reply Lent
unfolding call_of calls_from run after_all answered step noted
replayed script room opens answers =
    let cs = calls_of form script in
    let s = after_all step cs (start room opens) in
    let told = run answered cs (opened (slots_in (length room)) (length opens)) in
    unless refused ((no_room form script answers, 15) ∷ []) (lent room opens answers)
    (reply done (lent s.room s.opens (noted form told answers)))

-- Examples. With two slots, a number that is in no slot, and an open place: bookmark, remove, token of kind 65,538, a call number that is
-- none and pops, pop, end, and three numbers that are no call.
each_answer : replayed (5 ∷ 0 ∷ 0 ∷ 0 ∷ 7 ∷ 0 ∷ 0 ∷ 0 ∷ 0 ∷ 65538 ∷ 1 ∷ 4 ∷ 99 ∷ 0 ∷ 0 ∷ 0 ∷ 8 ∷ 0 ∷ 0 ∷ 0 ∷ 3 ∷ 0 ∷ 0 ∷ 0 ∷ 2 ∷ 1 ∷ 0 ∷ []) (replicate 9 7) (7 ∷ []) (replicate 31 8)
    ≡ reply done (lent (2 ∷ 2 ∷ 1 ∷ 4 ∷ 7 ∷ 7 ∷ 7 ∷ 7 ∷ 7 ∷ []) (7 ∷ [])
    (3 ∷ 0 ∷ 0 ∷ 0 ∷ 0 ∷ 4 ∷ 0 ∷ 0 ∷ 0 ∷ 0 ∷ 4 ∷ 0 ∷ 0 ∷ 0 ∷ 0 ∷ 1 ∷ 2 ∷ 2 ∷ 1 ∷ 4 ∷ 0 ∷ 0 ∷ 0 ∷ 0 ∷ 0 ∷ 5 ∷ 6 ∷ 0 ∷ 0 ∷ 0 ∷ 8 ∷ []))
unfolding replayed
each_answer = refl

-- a node in three slots: begin, error, end with error, truncate with no bookmark
node_with_error : replayed (2 ∷ 9 ∷ 0 ∷ 0 ∷ 1 ∷ 5 ∷ 0 ∷ 3 ∷ 4 ∷ 0 ∷ 0 ∷ 0 ∷ 6 ∷ 0 ∷ 0 ∷ 0 ∷ []) (replicate 12 7) (replicate 2 7) (replicate 20 8)
    ≡ reply done (lent (0 ∷ 0 ∷ 0 ∷ 0 ∷ 3 ∷ 5 ∷ 0 ∷ 3 ∷ 1 ∷ 0 ∷ 0 ∷ 0 ∷ []) (0 ∷ 7 ∷ [])
    (4 ∷ 0 ∷ 0 ∷ 0 ∷ 0 ∷ 4 ∷ 0 ∷ 0 ∷ 0 ∷ 0 ∷ 4 ∷ 0 ∷ 0 ∷ 0 ∷ 0 ∷ 5 ∷ 4 ∷ 0 ∷ 0 ∷ 0 ∷ []))
unfolding replayed
node_with_error = refl

-- no slot and no place: token, begin, pop
nothing_lent : replayed (0 ∷ 1 ∷ 0 ∷ 1 ∷ 2 ∷ 1 ∷ 0 ∷ 0 ∷ 8 ∷ 0 ∷ 0 ∷ 0 ∷ []) [] [] (replicate 15 8)
    ≡ reply done (lent [] [] (5 ∷ 5 ∷ 0 ∷ 0 ∷ 0 ∷ 5 ∷ 11 ∷ 0 ∷ 0 ∷ 0 ∷ 0 ∷ 0 ∷ 0 ∷ 0 ∷ 0 ∷ []))
unfolding replayed
nothing_lent = refl

-- a number too few for the answer of one call
too_short : replayed (0 ∷ 1 ∷ 0 ∷ 1 ∷ []) (replicate 4 7) (7 ∷ []) (replicate 4 8) ≡ reply (refused 15) (lent (replicate 4 7) (7 ∷ []) (replicate 4 8))
unfolding replayed
too_short = refl
