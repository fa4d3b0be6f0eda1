-- Computed examples of the record: document 01's cases of the window, and what each call answers and leaves, state by state.
-- Assumes nothing.
use Rattle.std.specs.Prelude.{ℕ, ◌≡◌, refl, true, false, List, [], ◌∷◌, ◌++◌, map, replicate}
use Rattle.refusals.specs.Calls.{run, after_all}
use Rattle.tokens.specs.declared.Mode.{Mode}
use Rattle.tokens.specs.declared.Mode.TheVariants.{Normal, HexPattern, HexJump}
use Rattle.tokens.specs.declared.Token.{Token}
use Rattle.tokens.specs.declared.TokenIndex.{TokenIndex}
use Rattle.tokens.specs.Tokens.{ascii}
use Rattle.tokens.specs.Scan.{token}
use Rattle.token_record.specs.Record.{Call, next_token, peek_token, has_more, bookmark, restore_bookmark, remove_bookmark, current_token_index, enter_hex_pattern_mode, enter_hex_jump_mode, Answer, none, truth, index, done, refused, Reply, reply, Record, opened, fetch, whole, outnumbers, bounded}
use Rattle.token_record.specs.Record as record_of

abbrev pub at : ℕ → TokenIndex
at i = record { 0 = i }

abbrev pub found : ℕ → ℕ → ℕ → Answer
found k a e = record_of.token (token k a e)

-- `a b c`: back at the earliest bookmark, which is removed while a later one lives
abbrev pub go_back : List Call
go_back = bookmark ∷ next_token ∷ next_token ∷ bookmark ∷ restore_bookmark (at 0) ∷ remove_bookmark (at 0) ∷ []

abbrev pub others : List Call
others = bookmark ∷ restore_bookmark (at 0) ∷ remove_bookmark (at 0) ∷ current_token_index ∷ enter_hex_pattern_mode ∷ enter_hex_jump_mode ∷ []

-- a switch acts behind the last token fetched: `ab` was peeked, and `cd` is a byte
abbrev pub ahead : List Call
ahead = peek_token 1 ∷ enter_hex_pattern_mode ∷ next_token ∷ next_token ∷ next_token ∷ has_more ∷ current_token_index ∷ []

-- a bookmark that is not live, and one of two that are equal
abbrev pub again : List Call
again = restore_bookmark (at 0) ∷ bookmark ∷ bookmark ∷ remove_bookmark (at 0) ∷ restore_bookmark (at 0) ∷ remove_bookmark (at 0) ∷ remove_bookmark (at 0) ∷ []

-- What calls come to, each of them made from the same record: a call changes what it is for, and nothing else.
abbrev pub each : List ℕ → List Call → Record → List (Reply Record)
each src cs r = map (λ c. whole src c r) cs

abbrev pub standing : List Token → Mode → ℕ → List TokenIndex → Record
standing ts m c ms = record { tokens = ts; mode = m; current = at c; bookmarks = ms }

-- Amid `ab cd ef`: three tokens are fetched, and the current one is the second.
abbrev pub text : List ℕ
text = ascii "ab cd ef"

abbrev pub three : List Token
three = token 72 0 2 ∷ token 78 2 3 ∷ token 72 3 5 ∷ []

abbrev pub amid : Mode → List TokenIndex → Record
amid m ms = standing three m 1 ms

-- in every mode and whatever bookmarks live: what is fetched is read as it is, and a switch moves nothing but the mode
abbrev pub readings : List Call
readings = next_token ∷ peek_token 1 ∷ has_more ∷ current_token_index ∷ enter_hex_pattern_mode ∷ enter_hex_jump_mode ∷ []

-- bookmarks before and after the current token: one is made, gone to or removed, and no token is lost
abbrev pub around : List TokenIndex
around = at 2 ∷ at 0 ∷ at 0 ∷ []

abbrev pub markings : List Call
markings = bookmark ∷ restore_bookmark (at 2) ∷ restore_bookmark (at 0) ∷ remove_bookmark (at 2) ∷ remove_bookmark (at 0) ∷ []

-- At the end of the source the answer is none, the mode stays and nothing moves; a bookmark there is as good as any other.
abbrev pub at_end : Mode → List TokenIndex → Record
at_end m ms = standing (token 74 0 1 ∷ token 78 1 2 ∷ []) m 2 ms

abbrev pub ending : List Call
ending = next_token ∷ peek_token 0 ∷ peek_token 7 ∷ has_more ∷ current_token_index ∷ enter_hex_pattern_mode ∷ enter_hex_jump_mode ∷ []

-- A refused call changes nothing: by 4, by 3, and by 2 where part of what is wanted would have room.
abbrev pub crowded : Mode → Record
crowded m = standing (token 80 0 2 ∷ []) m 1 (replicate 64 (at 0))

-- Before anything is fetched, in every mode; and on no byte there is nothing to fetch.
abbrev pub fresh : Mode → List TokenIndex → Record
fresh m ms = standing [] m 0 ms
