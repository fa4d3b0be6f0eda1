-- What replaying a script of calls writes: the answers of demand 3's record, as numbers.
-- Assumes nothing.
use Rattle.std.specs.Prelude.{ℕ, ◌≡◌, refl, List, [], ◌∷◌, length, replicate, ltb}
use Rattle.refusals.specs.Calls.{unless, run, after_all}
use Rattle.scripts.specs.Scripts.{calls_from, calls_of, no_room, noted}
use Rattle.tokens.specs.Tokens.{ascii}
use Rattle.reader.specs.Reading.{source_limit}
use Rattle.token_record.specs.Record.{refused, done, Reply, reply, opened, bounded}
use Rattle.token_room.specs.Room.{slots_in, write_all}
use Rattle.window_scripts.specs.Asking.{call_of, form}

-- Every lent number.
pub record Lent : Type 0 where
  pub room : List ℕ
  pub answers : List ℕ

abbrev pub lent : List ℕ → List ℕ → Lent
lent room answers = record { room = room; answers = answers }

-- Refused by 1 where the source is over the limit, then by 15 where the answers have no room. Else they are the record's, from opening on;
-- and the tokens that it fetched stand in the room.
unfoldable pub replayed : List ℕ → List ℕ → List ℕ → List ℕ → Reply Lent
unfolding call_of calls_from run after_all bounded write_all noted
replayed src script room answers =
    let cs = calls_of form script in
    let f = bounded (slots_in (length room)) src in
    unless refused ((ltb source_limit (length src), 1) ∷ (no_room form script answers, 15) ∷ []) (lent room answers)
    (reply done (lent (write_all room 0 (after_all f cs opened).tokens) (noted form (run f cs opened) answers)))

-- Examples: `a b` with one slot and a number that is in no slot; the script is peek 0, peek 1, next, and a number that is no call. There
-- is room for all answers and two numbers more. Then just room, for the current index; and a number too few for the second call's answer.
with_room : replayed (ascii "a b") (1 ∷ 0 ∷ 1 ∷ 1 ∷ 0 ∷ 9 ∷ 2 ∷ []) (replicate 4 7) (replicate 14 8)
    ≡ reply done (lent (72 ∷ 0 ∷ 1 ∷ 7 ∷ []) (1 ∷ 72 ∷ 0 ∷ 1 ∷ 5 ∷ 2 ∷ 0 ∷ 0 ∷ 1 ∷ 72 ∷ 0 ∷ 1 ∷ 8 ∷ 8 ∷ []))
unfolding replayed
with_room = refl

just_room : replayed (ascii "a b") (8 ∷ 0 ∷ []) (replicate 3 7) (replicate 4 8) ≡ reply done (lent (replicate 3 7) (3 ∷ 0 ∷ 0 ∷ 0 ∷ []))
unfolding replayed
just_room = refl

too_short : replayed (ascii "a b") (8 ∷ 0 ∷ 0 ∷ 0 ∷ []) (replicate 3 7) (replicate 7 8)
    ≡ reply (refused 15) (lent (replicate 3 7) (replicate 7 8))
unfolding replayed
too_short = refl
