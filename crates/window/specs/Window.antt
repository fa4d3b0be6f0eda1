-- The window's calls: what each answers, and the window and the room that it leaves, for every window, source and room.
-- Assumes nothing.
use Rattle.std.specs.Prelude.{ℕ, ◌+◌, ◌-◌, Bool, cond, ◌&&◌, List, [], ◌∷◌, length, take, eqb, leb, ltb, Option, Some, None, Result, Ok, Err}
use Rattle.patterns.specs.Lists.{each}
use Rattle.tokens.specs.declared.Mode.{Mode}
use Rattle.tokens.specs.declared.Mode.TheVariants.{Normal, HexPattern, HexJump}
use Rattle.tokens.specs.declared.Token.{Token}
use Rattle.tokens.specs.declared.TokenIndex.{TokenIndex}
use Rattle.refusals.specs.declared.Given.{Given}
use Rattle.refusals.specs.declared.Refusal.{Refusal}
use Rattle.refusals.specs.Refusals.{number_of}
use Rattle.reader.specs.declared.Reader.{Reader}
use Rattle.reader.specs.Reading.{source_limit, entered, ahead}
use Rattle.token_record.specs.Record.{Call, next_token, peek_token, has_more, bookmark, restore_bookmark, remove_bookmark}
use Rattle.token_record.specs.Record.{current_token_index, enter_hex_pattern_mode, enter_hex_jump_mode, wants}
use Rattle.token_record.specs.Record.{Answer, token, none, truth, index, done, refused, Reply, reply, bookmark_limit, member, without, least}
use Rattle.token_room.specs.Room.{slots_in, nth, read, write_all}
use Rattle.bookmarks.specs.Bookmarks.{padded, held, insert}
use Rattle.window.specs.declared.Window.{Window}

-- What a call is handed beside the source, and leaves: the window, and every lent number.
pub record State : Type 0 where
  pub window : Window
  pub room : List ℕ

abbrev pub state : Window → List ℕ → State
state w room = record { window = w; room = room }

-- The live bookmarks; and how many tokens are kept, from the smaller of the current index and the least of them on.
abbrev pub marks : Window → List TokenIndex
marks w = take w.live w.bookmarks

abbrev pub kept : Window → ℕ
kept w = w.fetched.0 - least w.current.0 (marks w)

-- Opening: nothing fetched, no bookmark. The source and the room are known by their lengths from here on.
abbrev pub fresh_at : Reader → ℕ → ℕ → Window
fresh_at r bytes slots =
    record { bookmarks = padded []; live = 0; bytes = bytes; slots = slots; reader = r; fetched = nth 0; current = nth 0 }

abbrev pub fresh : ℕ → ℕ → Window
fresh = fresh_at (record { place = record { 0 = 0 }; mode = Normal })

abbrev pub start : List ℕ → List ℕ → State
start src room = state (fresh (length src) (slots_in (length room))) room

-- Refused opening gives back a window for a source over the limit, which every later call refuses by 24.
abbrev pub unopened : Window
unopened = fresh (source_limit + 1) 0

abbrev pub open_of : List ℕ → List ℕ → Reply State
open_of src room = cond (leb (length src) source_limit) (reply done (start src room)) (reply (refused 1) (state unopened room))

-- Refusal 24 is given where one of these fails, in the order of its row in document 01's table: the source within the limit; the
-- source and W as at opening; the bookmarks held in order, and none of them above the number fetched; nor the current index; not
-- more tokens kept than W; the place not below the number fetched, and within the source.
abbrev pub tests : ℕ → ℕ → Window → List Bool
tests bytes len w =
    leb bytes source_limit
    ∷ eqb w.bytes bytes
    ∷ eqb w.slots (slots_in len)
    ∷ held w.live w.fetched.0 w.bookmarks
    ∷ leb w.current.0 w.fetched.0
    ∷ leb (kept w) w.slots
    ∷ leb w.fetched.0 w.reader.place.0
    ∷ leb w.reader.place.0 bytes
    ∷ []

unfoldable pub sound : ℕ → ℕ → Window → Bool
sound bytes len w = each (λ b. b) (tests bytes len w)

-- The parts that calls change.
abbrev pub moved : TokenIndex → Window → Window
moved i w =
    record { bookmarks = w.bookmarks; live = w.live; bytes = w.bytes; slots = w.slots; reader = w.reader; fetched = w.fetched; current = i }

abbrev pub bookmarked : List TokenIndex → ℕ → Window → Window
bookmarked a n w =
    record { bookmarks = a; live = n; bytes = w.bytes; slots = w.slots; reader = w.reader; fetched = w.fetched; current = w.current }

abbrev pub marked : List TokenIndex → Window → Window
marked l w = bookmarked (padded l) (length l) w

abbrev pub read_on : Reader → ℕ → Window → Window
read_on r n w =
    record { bookmarks = w.bookmarks; live = w.live; bytes = w.bytes; slots = w.slots; reader = r; fetched = nth n; current = w.current }

abbrev pub switched : Mode → Window → Window
switched m w = read_on (entered m w.reader) w.fetched.0 w

-- Fetching n tokens from the current one on, or those up to the end: they go into their slots.
unfoldable pub fetch : List ℕ → ℕ → State → State
fetch src n s =
    let w = s.window in
    let a = ahead (w.current.0 + n - w.fetched.0) src w.reader in
    state (read_on a.reader (w.fetched.0 + length a.tokens) w) (write_all s.room w.fetched.0 a.tokens)

-- The token n after the current one, read from its slot; whether there is a current one; the window past it.
abbrev pub seen : ℕ → ℕ → ℕ → List ℕ → Answer
seen current fetched n room = cond (ltb (current + n) fetched) (token (read room (nth (current + n)))) none

abbrev pub look : ℕ → State → Answer
look n s = seen s.window.current.0 s.window.fetched.0 n s.room

abbrev pub more : Window → Bool
more w = ltb w.current.0 w.fetched.0

abbrev pub past : Window → Window
past w = cond (more w) (moved (nth (w.current.0 + 1)) w) w

abbrev pub with_window : State → Window → State
with_window s w = state w s.room

-- What each call answers once it has fetched.
unfoldable pub answered : Call → State → Reply State
answered next_token s = reply (look 0 s) (with_window s (past s.window))
answered (peek_token n) s = reply (look n s) s
answered has_more s = reply (truth (more s.window)) s
answered bookmark s =
    let w = s.window in
    cond (ltb w.live bookmark_limit) (reply (index w.current) (with_window s (marked (insert w.current (marks w)) w))) (reply (refused 3) s)
answered (restore_bookmark i) s =
    let w = s.window in
    cond (member i (marks w)) (reply done (with_window s (moved i w))) (reply (refused 4) s)
answered (remove_bookmark i) s =
    let w = s.window in
    cond (member i (marks w)) (reply done (with_window s (marked (without i (marks w)) w))) (reply (refused 4) s)
answered current_token_index s = reply (index s.window.current) s
answered enter_hex_pattern_mode s = reply done (with_window s (switched HexPattern s.window))
answered enter_hex_jump_mode s = reply done (with_window s (switched HexJump s.window))

-- A call: 24 comes before all; then 2, where more tokens would be kept than there are slots; then what the call itself refuses.
abbrev pub overfull : Call → State → Bool
overfull c v = leb 1 (wants c) && ltb v.window.slots (kept v.window)

unfoldable pub step : List ℕ → Call → State → Reply State
step src c s =
    let v = fetch src (wants c) s in
    cond (sound (length src) (length s.room) s.window)
    (cond (overfull c v) (reply (refused 2) s) (answered c v))
    (reply (refused 24) s)

-- The code's answers in document 01's values, with the window given back and the room.
abbrev pub told_by : {T : Type 0} → (T → Answer) → Result T Refusal → Answer
told_by f (Ok x) = f x
told_by f (Err n) = refused (number_of n)

abbrev pub token_or_none : Option Token → Answer
token_or_none (Some x) = token x
token_or_none None = none

abbrev pub token_told : Result (Option Token) Refusal → Answer
token_told = told_by token_or_none

abbrev pub more_told : Result Bool Refusal → Answer
more_told = told_by truth

abbrev pub index_told : Result TokenIndex Refusal → Answer
index_told = told_by index

abbrev pub done_told : Result Unit Refusal → Answer
done_told = told_by (λ u. done)

abbrev pub token_reply : Given (Option Token) Window → List ℕ → Reply State
token_reply g room = reply (token_told g.answer) (state g.after room)

abbrev pub more_reply : Given Bool Window → List ℕ → Reply State
more_reply g room = reply (more_told g.answer) (state g.after room)

abbrev pub index_reply : Given TokenIndex Window → List ℕ → Reply State
index_reply g room = reply (index_told g.answer) (state g.after room)

abbrev pub done_reply : Given Unit Window → List ℕ → Reply State
done_reply g room = reply (done_told g.answer) (state g.after room)
