-- A call of the window as two numbers, its answer as four; and what the code of a call by number gives.
-- Assumes nothing.
use Rattle.std.specs.Prelude.{ℕ, ◌≡◌, refl, cond, List, [], ◌∷◌, length, get_or}
use Rattle.scripts.specs.Scripts.{Form}
use Rattle.token_record.specs.Record.{Call, next_token, peek_token, has_more, bookmark, restore_bookmark, remove_bookmark, current_token_index, enter_hex_pattern_mode, enter_hex_jump_mode, Answer, token, none, truth, index, done, refused, Reply}
use Rattle.token_room.specs.Room.{nth}
use Rattle.window.specs.Window.{State, state}
use Rattle.window_scripts.specs.declared.asking.ToldGiven.{ToldGiven}

-- A call is two numbers: which one, and its argument.
abbrev pub calls : ℕ → List Call
calls arg =
    next_token
    ∷ peek_token arg
    ∷ has_more
    ∷ bookmark
    ∷ restore_bookmark (nth arg)
    ∷ remove_bookmark (nth arg)
    ∷ enter_hex_pattern_mode
    ∷ enter_hex_jump_mode
    ∷ []

unfoldable pub call_of : ℕ → ℕ → Call
call_of op arg = get_or (calls arg) op current_token_index

-- An answer is four numbers: which one, and its values.
abbrev pub numbers : Answer → List ℕ
numbers none = 0 ∷ 0 ∷ 0 ∷ 0 ∷ []
numbers (token x) = 1 ∷ x.kind ∷ x.start.0 ∷ x.end.0 ∷ []
numbers (truth b) = 2 ∷ cond b 1 0 ∷ 0 ∷ 0 ∷ []
numbers (index i) = 3 ∷ i.0 ∷ 0 ∷ 0 ∷ []
numbers done = 4 ∷ 0 ∷ 0 ∷ 0 ∷ []
numbers (refused n) = 5 ∷ n ∷ 0 ∷ 0 ∷ []

-- as many each; and both together
pub four : (a : Answer) → length (numbers a) ≡ 4
four none = refl
four (token x) = refl
four (truth b) = refl
four (index i) = refl
four done = refl
four (refused n) = refl

abbrev pub form : Form Call Answer
form = record { call_width = 2; call_of = λ f. call_of (f 0) (f 1); answer_width = 4; numbers = numbers; sized = four }

-- What the code gives, with the room; and a reply, its answer as numbers.
abbrev pub told_reply : ToldGiven → List ℕ → State × List ℕ
told_reply c room = (state c.window room, c.told)

abbrev pub told_of : Reply State → State × List ℕ
told_of y = (y.after, numbers y.answer)
