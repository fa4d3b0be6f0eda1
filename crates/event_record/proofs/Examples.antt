-- Computed examples of the record: document 01's marked case, the rules of "Event stream" one by one, every refusal at its edge,
-- and what each call answers and leaves, state by state.
-- Assumes nothing.
use Rattle.std.specs.Prelude.{ℕ, ◌≡◌, refl, Bool, true, false, List, [], ◌∷◌, ◌++◌, map}
use Rattle.refusals.specs.Calls.{run, after_all}
use Rattle.event_record.specs.declared.Span.{Span}
use Rattle.event_record.specs.declared.Event.{Event}
use Rattle.event_record.specs.Record.{Call, push_token, push_error, begin, end, end_with_error, bookmark, pop, truncate, remove_bookmark, Answer, done, none, position, refused, Reply, reply, Record, opened, holding, marked, span, event_of, at, answered}
use Rattle.event_record.specs.Record as record_of
use Rattle.event_record.specs.Examples.{alone, amid, bare, cut, each, error, event, forged, four_pops, mark, remove, says, standing, token, two}

-- Marked: Begin, bookmark, token, end, truncate: refusal 8. At the Begin itself the events balance.
not_balanced : says 9 9 (begin 5 ∷ bookmark ∷ token 0 1 ∷ end ∷ cut 1 ∷ cut 0 ∷ remove 0 ∷ pop ∷ [])
    ≡ done ∷ mark 1 ∷ done ∷ done ∷ refused 8 ∷ done ∷ done ∷ none ∷ []
unfolding run answered
not_balanced = refl

-- A Begin takes the end of the last token as its start and end; an End sets the Begin's end and has the same kind and span.
node : says 9 9 (token 0 4 ∷ begin 5 ∷ token 6 7 ∷ end ∷ four_pops)
    ≡ done ∷ done ∷ done ∷ done ∷ event 2 72 0 4 ∷ event 0 5 4 7 ∷ event 2 72 6 7 ∷ event 1 5 4 7 ∷ []
unfolding run answered
node = refl

-- Nodes inside nodes: each End closes the innermost, with its own kind.
nested : says 9 9 (begin 5 ∷ token 0 2 ∷ begin 6 ∷ token 2 3 ∷ end ∷ token 3 4 ∷ end ∷ pop ∷ pop ∷ pop ∷ pop ∷ pop ∷ pop ∷ pop ∷ pop ∷ [])
    ≡ done ∷ done ∷ done ∷ done ∷ done ∷ done ∷ done ∷ event 0 5 0 4 ∷ event 2 72 0 2 ∷ event 0 6 2 3 ∷ event 2 72 2 3 ∷ event 1 6 2 3
    ∷ event 2 72 3 4 ∷ event 1 5 0 4 ∷ none ∷ []
unfolding run answered
nested = refl

-- What stands where a Begin was: its start is kept, whatever its end was.
start_kept : run answered (end ∷ pop ∷ pop ∷ []) (forged (event_of 0 5 (span 3 8) ∷ []) (0 ∷ [])) ≡ done ∷ event 0 5 3 0 ∷ event 1 5 3 0 ∷ []
unfolding run answered
start_kept = refl

-- Plain end keeps an empty node.
empty_kept : says 9 9 (begin 5 ∷ end ∷ four_pops) ≡ done ∷ done ∷ event 0 5 0 0 ∷ event 1 5 0 0 ∷ none ∷ none ∷ []
unfolding run answered
empty_kept = refl

-- End with error sets the kind of both to 0, but drops a Begin that is the last event. An error's own span moves no last token.
error_kind : says 9 9 (token 0 4 ∷ begin 5 ∷ error 8 9 ∷ end_with_error ∷ four_pops)
    ≡ done ∷ done ∷ done ∷ done ∷ event 2 72 0 4 ∷ event 0 0 4 4 ∷ event 3 9 8 9 ∷ event 1 0 4 4 ∷ []
unfolding run answered
error_kind = refl

empty_dropped : says 9 9 (begin 5 ∷ begin 6 ∷ end_with_error ∷ end ∷ four_pops)
    ≡ done ∷ done ∷ done ∷ done ∷ event 0 5 0 0 ∷ event 1 5 0 0 ∷ none ∷ none ∷ []
unfolding run answered
empty_dropped = refl

only_the_begin_dropped : says 9 9 (token 0 1 ∷ token 1 2 ∷ begin 5 ∷ end_with_error ∷ four_pops)
    ≡ done ∷ done ∷ done ∷ done ∷ event 2 72 0 1 ∷ event 2 72 1 2 ∷ none ∷ none ∷ []
unfolding run answered
only_the_begin_dropped = refl

-- A failed node that is empty is removed, and nothing else: the next Begin still takes the end of the last token, one popped long ago too.
last_kept : says 9 9 (token 0 4 ∷ pop ∷ begin 5 ∷ end_with_error ∷ begin 6 ∷ end ∷ pop ∷ []) ≡ done ∷ event 2 72 0 4 ∷ done ∷ done ∷ done ∷ done ∷ event 0 6 4 4 ∷ []
unfolding run answered
last_kept = refl

-- End with error is refused only where nothing is open: with a bookmark live the empty node goes too, and the bookmark stays.
dropped_under_a_bookmark : says 9 9 (bookmark ∷ begin 5 ∷ end_with_error ∷ pop ∷ remove 0 ∷ pop ∷ []) ≡ mark 0 ∷ done ∷ done ∷ refused 9 ∷ done ∷ none ∷ []
unfolding run answered
dropped_under_a_bookmark = refl

-- Truncate: the last token is then the last Token event remaining ..
last_remaining : says 9 9 (token 0 1 ∷ token 1 2 ∷ error 1 2 ∷ bookmark ∷ token 2 3 ∷ cut 3 ∷ remove 3 ∷ pop ∷ pop ∷ pop ∷ begin 5 ∷ end ∷ pop ∷ [])
    ≡ done ∷ done ∷ done ∷ mark 3 ∷ done ∷ done ∷ done ∷ event 2 72 0 1 ∷ event 2 72 1 2 ∷ event 3 9 1 2 ∷ done ∷ done ∷ event 0 5 2 2 ∷ []
unfolding run answered
last_remaining = refl

-- .. else the last one popped, an error popped after it being none ..
last_popped : says 9 9 (token 0 1 ∷ token 1 4 ∷ error 5 6 ∷ pop ∷ pop ∷ pop ∷ bookmark ∷ token 4 8 ∷ cut 0 ∷ begin 5 ∷ end ∷ remove 0 ∷ pop ∷ [])
    ≡ done ∷ done ∷ done ∷ event 2 72 0 1 ∷ event 2 72 1 4 ∷ event 3 9 5 6 ∷ mark 0 ∷ done ∷ done ∷ done ∷ done ∷ done ∷ event 0 5 4 4 ∷ []
unfolding run answered
last_popped = refl

-- .. else 0 to 0. The bookmark lives on, and truncating to the end changes nothing.
last_none : says 9 9 (error 5 6 ∷ bookmark ∷ token 4 8 ∷ cut 2 ∷ cut 1 ∷ cut 1 ∷ begin 5 ∷ end ∷ remove 1 ∷ pop ∷ pop ∷ [])
    ≡ done ∷ mark 1 ∷ done ∷ done ∷ done ∷ done ∷ done ∷ done ∷ done ∷ event 3 9 5 6 ∷ event 0 5 0 0 ∷ []
unfolding run answered
last_none = refl

-- An error that is popped is no token, whatever the last token is then.
error_popped : says 9 9 (error 5 6 ∷ token 1 4 ∷ pop ∷ bookmark ∷ cut 0 ∷ remove 0 ∷ begin 5 ∷ end ∷ pop ∷ [])
    ≡ done ∷ done ∷ event 3 9 5 6 ∷ mark 1 ∷ done ∷ done ∷ done ∷ done ∷ event 0 5 0 0 ∷ []
unfolding run answered
error_popped = refl

-- A Begin and an End are no tokens, wherever they stand.
nodes_no_tokens : says 9 9 (begin 5 ∷ token 0 4 ∷ end ∷ token 4 6 ∷ begin 6 ∷ token 6 8 ∷ end ∷ bookmark ∷ cut 4 ∷ begin 7 ∷ end ∷ cut 3 ∷ remove 0 ∷ begin 8 ∷ end
    ∷ four_pops)
    ≡ done ∷ done ∷ done ∷ done ∷ done ∷ done ∷ done ∷ mark 7 ∷ done ∷ done ∷ done ∷ done ∷ done ∷ done ∷ done
    ∷ event 0 5 0 4 ∷ event 2 72 0 4 ∷ event 1 5 0 4 ∷ event 0 8 4 4 ∷ []
unfolding run answered
nodes_no_tokens = refl

whole_span_kept : (after_all answered (token 0 4 ∷ begin 5 ∷ end ∷ bookmark ∷ cut 3 ∷ []) (opened 9 9)).last ≡ span 0 4
unfolding after_all answered
whole_span_kept = refl

-- An event in document 01's order: a tag, a kind or message, start, end.
an_event : event_of 2 72 (span 3 4) ≡ record { tag = 2; kind = 72; span = record { start = record { 0 = 3 }; end = record { 0 = 4 } } }
an_event = refl

-- Opening.
at_opening : opened 2 1
    ≡ record { slots = 2; places = 1; events = []; opens = []; bookmarks = 0; last = span 0 0; gone = span 0 0; popped = false }
at_opening = refl

-- What a sequence leaves: a pop moves neither the last token nor the open nodes' count, and is remembered.
left : after_all answered (begin 5 ∷ token 2 3 ∷ end ∷ pop ∷ pop ∷ bookmark ∷ bookmark ∷ begin 6 ∷ begin 7 ∷ []) (opened 9 4)
    ≡ record {
      slots = 9;
      places = 4;
      events = event_of 1 5 (span 0 3) ∷ event_of 0 6 (span 3 3) ∷ event_of 0 7 (span 3 3) ∷ [];
      opens = 1 ∷ 2 ∷ [];
      bookmarks = 2;
      last = span 2 3;
      gone = span 2 3;
      popped = true;
    }
unfolding after_all answered
left = refl

-- Before anything is popped, that is remembered too.
none_popped : after_all answered (token 2 3 ∷ bookmark ∷ remove 0 ∷ []) (opened 1 0)
    ≡ record {
      slots = 1;
      places = 0;
      events = event_of 2 72 (span 2 3) ∷ [];
      opens = [];
      bookmarks = 0;
      last = span 2 3;
      gone = span 0 0;
      popped = false;
    }
unfolding after_all answered
none_popped = refl

-- 3: 65,535 bookmarks live.
many : (run answered (bookmark ∷ bookmark ∷ []) (marked 65534 (opened 9 9)) ≡ mark 0 ∷ refused 3 ∷ [])
    × (run answered (bookmark ∷ []) (marked 65536 (opened 9 9)) ≡ refused 3 ∷ [])
unfolding run answered
many = (refl, refl)

-- 4: none lives. 10: past the end. In this order; and a position that is no bookmark's is taken.
not_live : says 9 9 (token 0 1 ∷ cut 0 ∷ remove 0 ∷ cut 2 ∷ remove 2 ∷ bookmark ∷ cut 2 ∷ remove 2 ∷ cut 1 ∷ remove 0 ∷ remove 0 ∷ [])
    ≡ done ∷ refused 4 ∷ refused 4 ∷ refused 4 ∷ refused 4 ∷ mark 1 ∷ refused 10 ∷ refused 10 ∷ done ∷ done ∷ refused 4 ∷ []
unfolding run answered
not_live = refl

-- 8 comes after 4 and 10.
order_of_8 : says 9 9 (begin 5 ∷ cut 0 ∷ bookmark ∷ cut 2 ∷ cut 0 ∷ end ∷ cut 0 ∷ [])
    ≡ done ∷ refused 4 ∷ mark 1 ∷ refused 10 ∷ refused 8 ∷ done ∷ done ∷ []
unfolding run answered
order_of_8 = refl

-- Remove is refused by 4 and 10 only: a bookmark goes whether or not the events from it on balance.
removed_unbalanced : says 9 9 (begin 5 ∷ bookmark ∷ end ∷ bookmark ∷ begin 6 ∷ cut 1 ∷ cut 2 ∷ remove 1 ∷ remove 2 ∷ remove 2 ∷ [])
    ≡ done ∷ mark 1 ∷ done ∷ mark 2 ∷ done ∷ refused 8 ∷ refused 8 ∷ done ∷ done ∷ refused 4 ∷ []
unfolding run answered
removed_unbalanced = refl

-- Begin against End by tag alone: errors and kinds count for nothing, and neither does a node that is open before the position.
by_tag_alone : says 9 9 (bookmark ∷ begin 0 ∷ error 0 1 ∷ end_with_error ∷ begin 5 ∷ cut 4 ∷ cut 5 ∷ end ∷ cut 3 ∷ cut 0 ∷ [])
    ≡ mark 0 ∷ done ∷ done ∷ done ∷ done ∷ done ∷ refused 10 ∷ done ∷ done ∷ done ∷ []
unfolding run answered
by_tag_alone = refl

-- An End whose Begin lies before the position does not balance, whatever follows it.
ends_first : says 9 9 (begin 5 ∷ end ∷ bookmark ∷ begin 6 ∷ end ∷ cut 1 ∷ cut 3 ∷ cut 2 ∷ [])
    ≡ done ∷ done ∷ mark 2 ∷ done ∷ done ∷ refused 8 ∷ refused 8 ∷ done ∷ []
unfolding run answered
ends_first = refl

-- Nodes inside nodes balance; an End more does not.
deep : (says 9 9 (bookmark ∷ begin 5 ∷ begin 6 ∷ begin 7 ∷ end ∷ end ∷ end ∷ cut 1 ∷ cut 0 ∷ [])
    ≡ mark 0 ∷ done ∷ done ∷ done ∷ done ∷ done ∷ done ∷ refused 8 ∷ done ∷ [])
    × (says 9 9 (begin 5 ∷ begin 6 ∷ end ∷ end ∷ bookmark ∷ cut 1 ∷ cut 2 ∷ cut 0 ∷ [])
    ≡ done ∷ done ∷ done ∷ done ∷ mark 4 ∷ refused 8 ∷ refused 8 ∷ done ∷ [])
unfolding run answered
deep = (refl, refl)

-- 5: no slot beyond the reserved; a Begin wants two.
full : (says 1 9 (token 0 1 ∷ token 1 2 ∷ error 1 2 ∷ begin 5 ∷ []) ≡ done ∷ refused 5 ∷ refused 5 ∷ refused 5 ∷ [])
    × (says 1 9 (begin 5 ∷ error 1 2 ∷ error 1 2 ∷ []) ≡ refused 5 ∷ done ∷ refused 5 ∷ [])
    × (says 2 9 (begin 5 ∷ token 0 1 ∷ error 0 1 ∷ begin 6 ∷ end ∷ token 0 1 ∷ []) ≡ done ∷ refused 5 ∷ refused 5 ∷ refused 5 ∷ done ∷ refused 5 ∷ [])
    × (says 4 9 (begin 5 ∷ begin 6 ∷ token 0 1 ∷ end_with_error ∷ token 0 1 ∷ token 1 2 ∷ [])
    ≡ done ∷ done ∷ refused 5 ∷ done ∷ done ∷ done ∷ [])
unfolding run answered
full = (refl, refl, refl, refl)

-- 6: nothing open.
nothing_open : says 9 9 (end ∷ end_with_error ∷ begin 5 ∷ end ∷ end ∷ end_with_error ∷ [])
    ≡ refused 6 ∷ refused 6 ∷ done ∷ done ∷ refused 6 ∷ refused 6 ∷ []
unfolding run answered
nothing_open = refl

-- 7: start above end, or end above 65,535; before 5.
no_span : (says 2 9 (token 2 1 ∷ error 2 1 ∷ token 1 1 ∷ error 65535 65535 ∷ []) ≡ refused 7 ∷ refused 7 ∷ done ∷ done ∷ [])
    × (says 2 9 (token 0 65536 ∷ error 65536 65536 ∷ []) ≡ refused 7 ∷ refused 7 ∷ [])
    × (says 0 9 (token 2 1 ∷ error 0 65536 ∷ token 1 2 ∷ error 1 2 ∷ []) ≡ refused 7 ∷ refused 7 ∷ refused 5 ∷ refused 5 ∷ [])
unfolding run answered
no_span = (refl, refl, refl)

-- 9: a bookmark lives, or a node is open.
not_settled : says 9 9 (pop ∷ bookmark ∷ pop ∷ remove 0 ∷ begin 5 ∷ pop ∷ end ∷ pop ∷ [])
    ≡ none ∷ mark 0 ∷ refused 9 ∷ done ∷ done ∷ refused 9 ∷ done ∷ event 0 5 0 0 ∷ []
unfolding run answered
not_settled = refl

not_settled_yet : says 9 9 (bookmark ∷ bookmark ∷ remove 0 ∷ pop ∷ remove 0 ∷ pop ∷ []) ≡ mark 0 ∷ mark 0 ∷ done ∷ refused 9 ∷ done ∷ none ∷ []
unfolding run answered
not_settled_yet = refl

-- 11: D nodes open; before 5.
too_deep : (says 9 0 (begin 5 ∷ []) ≡ refused 11 ∷ [])
    × (says 9 2 (begin 5 ∷ begin 6 ∷ begin 7 ∷ end ∷ begin 8 ∷ []) ≡ done ∷ done ∷ refused 11 ∷ done ∷ done ∷ [])
    × (says 0 0 (begin 5 ∷ end ∷ pop ∷ []) ≡ refused 11 ∷ refused 6 ∷ none ∷ [])
unfolding run answered
too_deep = (refl, refl, refl)

-- a token may lie before the last one, or be empty: it is the last token then; a Begin may have kind 0
amid_pushing : (d : ℕ) (y : Event) (n : ℕ) (x g : Span) (b : Bool) → each (token 1 3 ∷ token 7 7 ∷ error 6 8 ∷ []) (amid 7 d y n x g b)
    ≡ reply done (standing 7 d (two 6 y ++ event_of 2 72 (span 1 3) ∷ []) (1 ∷ 2 ∷ []) n (span 1 3) g b)
    ∷ reply done (standing 7 d (two 6 y ++ event_of 2 72 (span 7 7) ∷ []) (1 ∷ 2 ∷ []) n (span 7 7) g b)
    ∷ reply done (standing 7 d (two 6 y ++ event_of 3 9 (span 6 8) ∷ []) (1 ∷ 2 ∷ []) n x g b) ∷ []
unfolding answered
amid_pushing d y n x g b = refl

amid_opening : (y : Event) (n : ℕ) (x g : Span) (b : Bool) → answered (begin 0) (amid 8 4 y n x g b)
    ≡ reply done (standing 8 4 (two 6 y ++ event_of 0 0 (span x.end.0 x.end.0) ∷ []) (1 ∷ 2 ∷ 4 ∷ []) n x g b)
unfolding answered
amid_opening y n x g b = refl

amid_closing : (e d : ℕ) (y : Event) (n : ℕ) (g : Span) (b : Bool) → each (end ∷ end_with_error ∷ []) (amid e d y n (span 2 9) g b)
    ≡ reply done (standing e d (event_of 2 72 (span 2 4) ∷ event_of 0 5 (span 4 4) ∷ event_of 0 6 (span 4 9) ∷ y ∷ event_of 1 6 (span 4 9) ∷ []) (1 ∷ []) n (span 2 9) g b)
    ∷ reply done (standing e d (event_of 2 72 (span 2 4) ∷ event_of 0 5 (span 4 4) ∷ event_of 0 0 (span 4 9) ∷ y ∷ event_of 1 0 (span 4 9) ∷ []) (1 ∷ []) n (span 2 9) g b)
    ∷ []
unfolding answered
amid_closing e d y n g b = refl

amid_marking : (e d : ℕ) (y : Event) (x g : Span) (b : Bool) → each (bookmark ∷ remove 4 ∷ remove 3 ∷ []) (amid e d y 2 x g b)
    ≡ reply (position (at 4)) (amid e d y 3 x g b) ∷ reply done (amid e d y 1 x g b) ∷ reply done (amid e d y 1 x g b) ∷ []
unfolding answered
amid_marking e d y x g b = refl

-- truncating seeks the last token anew, and leaves the open nodes, the bookmarks and what was popped
amid_truncating : (e d : ℕ) (x g : Span) (b : Bool) → each (cut 4 ∷ cut 3 ∷ []) (amid e d (event_of 2 72 (span 5 6)) 2 x g b)
    ≡ reply done (amid e d (event_of 2 72 (span 5 6)) 2 (span 5 6) g b)
    ∷ reply done (standing e d (event_of 2 72 (span 2 4) ∷ event_of 0 5 (span 4 4) ∷ event_of 0 6 (span 4 4) ∷ []) (1 ∷ 2 ∷ []) 2 (span 2 4) g b) ∷ []
unfolding answered
amid_truncating e d x g b = refl

empty_node : (e d n : ℕ) (g : Span) (b : Bool) → each (end ∷ end_with_error ∷ []) (alone e d n (span 2 4) g b)
    ≡ reply done (standing e d (event_of 0 5 (span 4 4) ∷ event_of 1 5 (span 4 4) ∷ []) [] n (span 2 4) g b) ∷ reply done (standing e d [] [] n (span 2 4) g b) ∷ []
unfolding answered
empty_node e d n g b = refl

empty_node_marked : (e d : ℕ) (x g : Span) (b : Bool) → each (bookmark ∷ cut 1 ∷ remove 0 ∷ []) (alone e d 1 x g b)
    ≡ reply (position (at 1)) (alone e d 2 x g b) ∷ reply done (alone e d 1 g g b) ∷ reply done (alone e d 0 x g b) ∷ []
unfolding answered
empty_node_marked e d x g b = refl

-- All closed and no bookmark: a pop gives the first event, and moves the last token popped only where it is one.
popping : (e d : ℕ) (es : List Event) (x g : Span) (b : Bool)
    → (answered pop (standing e d (event_of 2 72 (span 2 4) ∷ es) [] 0 x g b) ≡ reply (event 2 72 2 4) (standing e d es [] 0 x (span 2 4) true))
    × (answered pop (standing e d (event_of 3 9 (span 2 4) ∷ es) [] 0 x g b) ≡ reply (event 3 9 2 4) (standing e d es [] 0 x g true))
    × (answered pop (standing e d (event_of 1 5 (span 2 4) ∷ es) [] 0 x g b) ≡ reply (event 1 5 2 4) (standing e d es [] 0 x g true))
    × (answered pop (standing e d [] [] 0 x g b) ≡ reply none (standing e d [] [] 0 x g b))
unfolding answered
popping e d es x g b = (refl, refl, refl, refl)

nothing_stands : (d n : ℕ) (x g : Span) (b : Bool) → each (token 8 9 ∷ error 8 9 ∷ []) (bare 1 d n x g b)
    ≡ reply done (standing 1 d (event_of 2 72 (span 8 9) ∷ []) [] n (span 8 9) g b) ∷ reply done (standing 1 d (event_of 3 9 (span 8 9) ∷ []) [] n x g b) ∷ []
unfolding answered
nothing_stands d n x g b = refl

nothing_marked : (e d : ℕ) (x g : Span) (b : Bool) → each (bookmark ∷ cut 0 ∷ remove 0 ∷ []) (bare e d 1 x g b)
    ≡ reply (position (at 0)) (bare e d 2 x g b) ∷ reply done (bare e d 1 g g b) ∷ reply done (bare e d 0 x g b) ∷ []
unfolding answered
nothing_marked e d x g b = refl

-- A refused call changes nothing, whatever the number.
unchanged : (e d n : ℕ) (y : Event) (x g : Span) (b : Bool)
    → (each (token 4 3 ∷ error 4 3 ∷ []) (amid e d y n x g b) ≡ reply (refused 7) (amid e d y n x g b) ∷ reply (refused 7) (amid e d y n x g b) ∷ [])
    × (each (cut 5 ∷ remove 5 ∷ pop ∷ []) (amid e d y 2 x g b)
    ≡ reply (refused 10) (amid e d y 2 x g b) ∷ reply (refused 10) (amid e d y 2 x g b) ∷ reply (refused 9) (amid e d y 2 x g b) ∷ [])
    × (each (token 4 5 ∷ error 4 5 ∷ begin 5 ∷ []) (amid 6 4 y n x g b)
    ≡ reply (refused 5) (amid 6 4 y n x g b) ∷ reply (refused 5) (amid 6 4 y n x g b) ∷ reply (refused 5) (amid 6 4 y n x g b) ∷ [])
    × (each (begin 5 ∷ []) (amid e 2 y n x g b) ≡ reply (refused 11) (amid e 2 y n x g b) ∷ [])
    × (each (end ∷ end_with_error ∷ []) (bare e d n x g b) ≡ reply (refused 6) (bare e d n x g b) ∷ reply (refused 6) (bare e d n x g b) ∷ [])
    × (each (cut 0 ∷ remove 0 ∷ []) (bare e d 0 x g b) ≡ reply (refused 4) (bare e d 0 x g b) ∷ reply (refused 4) (bare e d 0 x g b) ∷ [])
    × (answered bookmark (bare e d 65535 x g b) ≡ reply (refused 3) (bare e d 65535 x g b))
    × (answered pop (bare e d 2 x g b) ≡ reply (refused 9) (bare e d 2 x g b)) × (answered pop (amid e d y 0 x g b) ≡ reply (refused 9) (amid e d y 0 x g b))
    × (answered (cut 0) (alone e d 1 x g b) ≡ reply (refused 8) (alone e d 1 x g b))
unfolding answered
unchanged e d n y x g b = (refl, refl, refl, refl, refl, refl, refl, refl, refl, refl)
