-- A call of the event stream as four numbers, its answer as five; both in the code's structs. Assumes nothing.
use Rattle.std.specs.Prelude.{ℕ, ◌%◌, ◌≡◌, refl, List, [], ◌∷◌, length, get_or}
use Rattle.event_record.specs.Record.{Call, push_token, push_error, begin, end, end_with_error, bookmark, truncate, remove_bookmark, pop, Answer, done, none, position, event, refused, Reply, span, at}
use Rattle.events.specs.Stream.{State, state}
use Rattle.event_scripts.specs.declared.asking.Asked.{Asked}
use Rattle.event_scripts.specs.declared.asking.ToldGiven.{ToldGiven}

-- A call is four numbers: which one, and its arguments. Of a kind or message the low 16 bits count.
abbrev pub kind_of : ℕ → ℕ
kind_of a = a % 65536

abbrev pub calls : ℕ → ℕ → ℕ → List Call
calls a b c =
    push_token (kind_of a) (span b c)
    ∷ push_error (kind_of a) (span b c)
    ∷ begin (kind_of a)
    ∷ end
    ∷ end_with_error
    ∷ bookmark
    ∷ truncate (at a)
    ∷ remove_bookmark (at a)
    ∷ []

unfoldable pub call_of : ℕ → ℕ → ℕ → ℕ → Call
call_of op a b c = get_or (calls a b c) op pop

-- An answer is five numbers: which one, and its values.
abbrev pub numbers : Answer → List ℕ
numbers none = 0 ∷ 0 ∷ 0 ∷ 0 ∷ 0 ∷ []
numbers (event y) = 1 ∷ y.tag ∷ y.kind ∷ y.span.start.0 ∷ y.span.end.0 ∷ []
numbers (position p) = 3 ∷ p.0 ∷ 0 ∷ 0 ∷ 0 ∷ []
numbers done = 4 ∷ 0 ∷ 0 ∷ 0 ∷ 0 ∷ []
numbers (refused n) = 5 ∷ n ∷ 0 ∷ 0 ∷ 0 ∷ []

-- as many each
pub five : (a : Answer) → length (numbers a) ≡ 5
five none = refl
five (event y) = refl
five (position p) = refl
five done = refl
five (refused n) = refl

-- The structs: the call that is asked for; and the answer's numbers beside the state.
abbrev pub asked_for : Asked → Call
asked_for x = call_of x.op x.arg x.start x.end

abbrev pub told_reply : ToldGiven → List ℕ → List ℕ → List ℕ × State
told_reply g room opens = (g.told, state g.stream room opens)

abbrev pub told_of : Reply State → List ℕ × State
told_of y = (numbers y.answer, y.after)
