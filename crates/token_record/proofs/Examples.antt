-- Computed examples of the record: document 01's cases of the window, and what each call answers and leaves, state by state.
-- Assumes nothing.
use Rattle.std.specs.Prelude.{ℕ, ◌≡◌, refl, true, false, List, [], ◌∷◌, ◌++◌, map, replicate}
use Rattle.refusals.specs.Calls.{run, after_all}
use Rattle.tokens.specs.declared.Mode.{Mode}
use Rattle.tokens.specs.declared.Mode.TheVariants.{Normal, HexPattern, HexJump}
use Rattle.tokens.specs.declared.Token.{Token}
use Rattle.tokens.specs.declared.TokenIndex.{TokenIndex}
use Rattle.tokens.specs.Tokens.{ascii}
use Rattle.tokens.specs.Scan.{token}
use Rattle.token_record.specs.Record.{Call, next_token, peek_token, has_more, bookmark, restore_bookmark, remove_bookmark, current_token_index, enter_hex_pattern_mode, enter_hex_jump_mode, Answer, none, truth, index, done, refused, Reply, reply, Record, opened, fetch, whole, outnumbers, bounded}
use Rattle.token_record.specs.Record as record_of
use Rattle.token_record.specs.Examples.{again, ahead, amid, around, at, at_end, crowded, each, ending, found, fresh, go_back, markings, others, readings, standing, text, three}

rewound : run (whole (ascii "a b c")) (go_back ++ next_token ∷ next_token ∷ next_token ∷ []) opened
    ≡ index (at 0) ∷ found 72 0 1 ∷ found 78 1 2 ∷ index (at 2) ∷ done ∷ done ∷ found 72 0 1 ∷ found 78 1 2 ∷ found 72 2 3 ∷ []
unfolding run whole
rewound = refl

-- one slot on `a b`
one_slot : run (bounded 1 (ascii "a b")) (peek_token 0 ∷ peek_token 1 ∷ next_token ∷ next_token ∷ []) opened
    ≡ found 72 0 1 ∷ refused 2 ∷ found 72 0 1 ∷ found 78 1 2 ∷ []
unfolding run bounded
one_slot = refl

-- no slot: of a token nothing can be answered, of the end all; and the calls that fetch nothing are not refused
no_slot : (run (bounded 0 (ascii "a")) (has_more ∷ next_token ∷ peek_token 0 ∷ []) opened ≡ refused 2 ∷ refused 2 ∷ refused 2 ∷ [])
    × (run (bounded 0 []) (has_more ∷ next_token ∷ peek_token 7 ∷ []) opened ≡ truth false ∷ none ∷ none ∷ [])
unfolding run bounded
no_slot = (refl, refl)

not_fetching : run (bounded 0 (ascii "a")) others opened ≡ index (at 0) ∷ done ∷ done ∷ index (at 0) ∷ done ∷ done ∷ []
unfolding run bounded
not_fetching = refl

one_wanted : run (bounded 1 (ascii "a b")) (has_more ∷ next_token ∷ []) opened ≡ truth true ∷ found 72 0 1 ∷ []
unfolding run bounded
one_wanted = refl

not_outnumbered : outnumbers 0 (ascii "a") bookmark (fetch (ascii "a") 1 opened) ≡ false
unfolding outnumbers
not_outnumbered = refl

-- kept are the tokens from the least bookmark on, and from the current index where that is smaller
kept_from_the_bookmark :
    run (bounded 2 (ascii "a b c")) (bookmark ∷ next_token ∷ next_token ∷ next_token ∷ remove_bookmark (at 0) ∷ next_token ∷ []) opened
    ≡ index (at 0) ∷ found 72 0 1 ∷ found 78 1 2 ∷ refused 2 ∷ done ∷ found 72 2 3 ∷ []
unfolding run bounded
kept_from_the_bookmark = refl

kept_from_the_current : run (bounded 2 (ascii "a b c")) (go_back ++ peek_token 2 ∷ next_token ∷ peek_token 1 ∷ []) opened
    ≡ index (at 0) ∷ found 72 0 1 ∷ found 78 1 2 ∷ index (at 2) ∷ done ∷ done ∷ refused 2 ∷ found 72 0 1 ∷ found 72 2 3 ∷ []
unfolding run bounded
kept_from_the_current = refl

-- low is the least of all live bookmarks, not of the last one made
kept_from_the_least : run (bounded 2 (ascii "a b c")) (bookmark ∷ next_token ∷ next_token ∷ bookmark ∷ next_token ∷ []) opened
    ≡ index (at 0) ∷ found 72 0 1 ∷ found 78 1 2 ∷ index (at 2) ∷ refused 2 ∷ []
unfolding run bounded
kept_from_the_least = refl

-- a restore is refused only where the index is not live: a live bookmark that lies ahead is gone to
restored_ahead :
    run (whole (ascii "a b c")) (bookmark ∷ next_token ∷ next_token ∷ bookmark ∷ restore_bookmark (at 0) ∷ restore_bookmark (at 2) ∷ next_token ∷ []) opened
    ≡ index (at 0) ∷ found 72 0 1 ∷ found 78 1 2 ∷ index (at 2) ∷ done ∷ done ∷ found 72 2 3 ∷ []
unfolding run whole
restored_ahead = refl

-- 64 bookmarks, and one more
too_many : run (whole []) (replicate 65 bookmark) opened ≡ replicate 64 (index (at 0)) ++ refused 3 ∷ []
unfolding run whole
too_many = refl

switch_ahead : run (whole (ascii "ab cd")) ahead opened
    ≡ found 78 2 3 ∷ done ∷ found 72 0 2 ∷ found 78 2 3 ∷ found 80 3 5 ∷ truth false ∷ index (at 3) ∷ []
unfolding run whole
switch_ahead = refl

-- so does the switch to jump mode: behind the blank that was peeked, `4KB` begins with the integer `4`
jump_ahead : run (whole (ascii "a 4KB")) (peek_token 1 ∷ enter_hex_jump_mode ∷ next_token ∷ next_token ∷ next_token ∷ []) opened
    ≡ found 78 1 2 ∷ done ∷ found 72 0 1 ∷ found 78 1 2 ∷ found 74 2 3 ∷ []
unfolding run whole
jump_ahead = refl

not_live : run (whole []) again opened
    ≡ refused 4 ∷ index (at 0) ∷ index (at 0) ∷ done ∷ done ∷ done ∷ refused 4 ∷ []
unfolding run whole
not_live = refl

-- the two modes, and that the mode reached stays: behind `c`, which is no hex byte, `12` is an integer
pattern_mode : run (whole (ascii "4d")) (enter_hex_pattern_mode ∷ next_token ∷ []) opened ≡ done ∷ found 80 0 2 ∷ []
unfolding run whole
pattern_mode = refl

jump_mode : run (whole (ascii "4KB")) (enter_hex_jump_mode ∷ next_token ∷ []) opened ≡ done ∷ found 74 0 1 ∷ []
unfolding run whole
jump_mode = refl

mode_reached : run (whole (ascii "abc 12")) (enter_hex_pattern_mode ∷ next_token ∷ next_token ∷ next_token ∷ next_token ∷ []) opened
    ≡ done ∷ found 80 0 2 ∷ found 72 2 3 ∷ found 78 3 4 ∷ found 74 4 6 ∷ []
unfolding run whole
mode_reached = refl

-- the record after calls
after_two : (after_all (whole (ascii "a b")) (next_token ∷ next_token ∷ []) opened).current ≡ at 2
unfolding after_all whole
after_two = refl

amid_reading : (m : Mode) (ms : List TokenIndex) → each text readings (amid m ms)
    ≡ reply (found 78 2 3) (standing three m 2 ms) ∷ reply (found 72 3 5) (amid m ms) ∷ reply (truth true) (amid m ms)
    ∷ reply (index (at 1)) (amid m ms) ∷ reply done (amid HexPattern ms) ∷ reply done (amid HexJump ms) ∷ []
unfolding whole
amid_reading m ms = refl

-- a peek fetches up to the wanted index or the end, whichever comes first; the mode reached stays, and bookmarks live on
amid_fetching : (ms : List TokenIndex) → each text (peek_token 2 ∷ peek_token 9 ∷ []) (amid HexPattern ms)
    ≡ reply (found 78 5 6) (standing (three ++ token 78 5 6 ∷ []) HexPattern 1 ms)
    ∷ reply none (standing (three ++ token 78 5 6 ∷ token 80 6 8 ∷ []) HexPattern 1 ms) ∷ []
unfolding whole
amid_fetching ms = refl

amid_reaching : (ms : List TokenIndex) → each (ascii "ab cdxy") (peek_token 2 ∷ []) (amid HexPattern ms)
    ≡ reply (found 72 5 7) (standing (three ++ token 72 5 7 ∷ []) Normal 1 ms) ∷ []
unfolding whole
amid_reaching ms = refl

amid_marking : (m : Mode) → each text markings (amid m around)
    ≡ reply (index (at 1)) (amid m (at 1 ∷ around)) ∷ reply done (standing three m 2 around) ∷ reply done (standing three m 0 around)
    ∷ reply done (amid m (at 0 ∷ at 0 ∷ [])) ∷ reply done (amid m (at 2 ∷ at 0 ∷ [])) ∷ []
unfolding whole
amid_marking m = refl

one_bookmark : (m : Mode) → each text (bookmark ∷ restore_bookmark (at 0) ∷ remove_bookmark (at 0) ∷ []) (amid m (at 0 ∷ []))
    ≡ reply (index (at 1)) (amid m (at 1 ∷ at 0 ∷ [])) ∷ reply done (standing three m 0 (at 0 ∷ [])) ∷ reply done (amid m []) ∷ []
unfolding whole
one_bookmark m = refl

no_bookmark : (m : Mode) → whole text bookmark (amid m []) ≡ reply (index (at 1)) (amid m (at 1 ∷ []))
unfolding whole
no_bookmark m = refl

end_reading : (m : Mode) (ms : List TokenIndex) → each (ascii "1 ") ending (at_end m ms)
    ≡ reply none (at_end m ms) ∷ reply none (at_end m ms) ∷ reply none (at_end m ms) ∷ reply (truth false) (at_end m ms)
    ∷ reply (index (at 2)) (at_end m ms) ∷ reply done (at_end HexPattern ms) ∷ reply done (at_end HexJump ms) ∷ []
unfolding whole
end_reading m ms = refl

end_marking : (m : Mode) → each (ascii "1 ") (bookmark ∷ restore_bookmark (at 1) ∷ restore_bookmark (at 2) ∷ remove_bookmark (at 2) ∷ []) (at_end m (at 1 ∷ at 2 ∷ []))
    ≡ reply (index (at 2)) (at_end m (at 2 ∷ at 1 ∷ at 2 ∷ [])) ∷ reply done (standing (at_end m []).tokens m 1 (at 1 ∷ at 2 ∷ []))
    ∷ reply done (at_end m (at 1 ∷ at 2 ∷ [])) ∷ reply done (at_end m (at 1 ∷ [])) ∷ []
unfolding whole
end_marking m = refl

unchanged : (m : Mode)
    → (each text (restore_bookmark (at 1) ∷ remove_bookmark (at 1) ∷ []) (amid m around) ≡ reply (refused 4) (amid m around) ∷ reply (refused 4) (amid m around) ∷ [])
    × (each text (restore_bookmark (at 0) ∷ remove_bookmark (at 0) ∷ []) (amid m []) ≡ reply (refused 4) (amid m []) ∷ reply (refused 4) (amid m []) ∷ [])
    × (whole (ascii "4d 12") bookmark (crowded m) ≡ reply (refused 3) (crowded m))
    × (bounded 2 (ascii "4d 12") (peek_token 1) (crowded HexPattern) ≡ reply (refused 2) (crowded HexPattern))
unfolding bounded
unchanged m = (refl, refl, refl, refl)

at_first : (ms : List TokenIndex) → each (ascii "a b") (next_token ∷ peek_token 0 ∷ has_more ∷ []) (fresh Normal ms)
    ≡ reply (found 72 0 1) (standing (token 72 0 1 ∷ []) Normal 1 ms) ∷ reply (found 72 0 1) (standing (token 72 0 1 ∷ []) Normal 0 ms)
    ∷ reply (truth true) (standing (token 72 0 1 ∷ []) Normal 0 ms) ∷ []
unfolding whole
at_first ms = refl

on_no_byte : (m : Mode) (ms : List TokenIndex) → each [] ending (fresh m ms)
    ≡ reply none (fresh m ms) ∷ reply none (fresh m ms) ∷ reply none (fresh m ms) ∷ reply (truth false) (fresh m ms)
    ∷ reply (index (at 0)) (fresh m ms) ∷ reply done (fresh HexPattern ms) ∷ reply done (fresh HexJump ms) ∷ []
unfolding whole
on_no_byte m ms = refl

marked_first : (m : Mode) → each (ascii "a b") (bookmark ∷ restore_bookmark (at 0) ∷ remove_bookmark (at 0) ∷ restore_bookmark (at 1) ∷ []) (fresh m (at 0 ∷ []))
    ≡ reply (index (at 0)) (fresh m (at 0 ∷ at 0 ∷ [])) ∷ reply done (fresh m (at 0 ∷ [])) ∷ reply done (fresh m []) ∷ reply (refused 4) (fresh m (at 0 ∷ [])) ∷ []
unfolding whole
marked_first m = refl
