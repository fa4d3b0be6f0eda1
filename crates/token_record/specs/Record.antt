-- Demand 3's record: it fetches when the window does, drops no token, and gives refusals 3 and 4 as the window does. It is to be read
-- beside document 01's "Window"; what a token is, the definition's scan says. Assumes nothing.
use Rattle.std.specs.Prelude.{ℕ, suc, min, ◌+◌, ◌-◌, Bool, false, cond, ◌&&◌, ◌||◌, List, [], ◌∷◌, ◌++◌, length, drop, eqb, leb, ltb}
use Rattle.refusals.specs.Calls as calls
use Rattle.tokens.specs.declared.Mode.{Mode}
use Rattle.tokens.specs.declared.Mode.TheVariants.{Normal, HexPattern, HexJump}
use Rattle.tokens.specs.declared.Token.{Token}
use Rattle.tokens.specs.declared.TokenIndex.{TokenIndex}
use Rattle.tokens.specs.Tokens.{tables_1}
use Rattle.tokens.specs.Scan.{ends, list_first}

-- The calls, under the Rust's names.
pub data Call : Type 0 where
  next_token has_more bookmark current_token_index enter_hex_pattern_mode enter_hex_jump_mode : Call
  peek_token : ℕ → Call
  restore_bookmark remove_bookmark : TokenIndex → Call

-- What they answer, in document 01's values; a refusal by its number.
pub data Answer : Type 0 where
  token : Token → Answer
  none done : Answer
  truth : Bool → Answer
  index : TokenIndex → Answer
  refused : ℕ → Answer

abbrev pub Reply : Type 0 → Type 0
Reply S = calls.Reply Answer S

abbrev pub reply : {S : Type 0} → Answer → S → Reply S
reply a s = calls.reply a s

-- The record: every token fetched so far, the mode in which scanning goes on, the current index, the live bookmarks in no order.
pub record Record : Type 0 where
  pub tokens : List Token
  pub mode : Mode
  pub current : TokenIndex
  pub bookmarks : List TokenIndex

abbrev pub opened : Record
opened = record { tokens = []; mode = Normal; current = record { 0 = 0 }; bookmarks = [] }

abbrev pub moved : TokenIndex → Record → Record
moved i r = record { tokens = r.tokens; mode = r.mode; current = i; bookmarks = r.bookmarks }

abbrev pub marked : List TokenIndex → Record → Record
marked l r = record { tokens = r.tokens; mode = r.mode; current = r.current; bookmarks = l }

abbrev pub switched : Mode → Record → Record
switched m r = record { tokens = r.tokens; mode = m; current = r.current; bookmarks = r.bookmarks }

-- Next, peek n and has_more fetch: how many tokens each wants, from the current one on. No other call fetches.
abbrev pub wants : Call → ℕ
wants next_token = 1
wants (peek_token n) = suc n
wants has_more = 1
wants bookmark = 0
wants (restore_bookmark i) = 0
wants (remove_bookmark i) = 0
wants current_token_index = 0
wants enter_hex_pattern_mode = 0
wants enter_hex_jump_mode = 0

-- All of them or those up to the end, whichever comes first. Scanning goes on where the last token fetched ends.
unfoldable pub fetch : List ℕ → ℕ → Record → Record
unfolding list_first
fetch src n r =
    let l = list_first (r.current.0 + n - length r.tokens) tables_1 src (ends 0 r.tokens) r.mode in
    record { tokens = r.tokens ++ l.tokens; mode = l.mode; current = r.current; bookmarks = r.bookmarks }

-- The token n after the current one, and whether there is a current one.
abbrev pub first : List Token → Answer
first [] = none
first (x ∷ xs) = token x

abbrev pub look : ℕ → Record → Answer
look n r = first (drop (r.current.0 + n) r.tokens)

abbrev pub more : Record → Bool
more r = ltb r.current.0 (length r.tokens)

-- Bookmarks: up to 64, with repeats.
abbrev pub bookmark_limit : ℕ
bookmark_limit = 64

unfoldable pub member : TokenIndex → List TokenIndex → Bool
member i [] = false
member i (m ∷ ms) = eqb m.0 i.0 || member i ms

unfoldable pub without : TokenIndex → List TokenIndex → List TokenIndex
without i [] = []
without i (m ∷ ms) = cond (eqb m.0 i.0) ms (m ∷ without i ms)

-- What each call answers once it has fetched.
unfoldable pub answered : Call → Record → Reply Record
unfolding member without
answered next_token r = reply (look 0 r) (cond (more r) (moved (record { 0 = suc r.current.0 }) r) r)
answered (peek_token n) r = reply (look n r) r
answered has_more r = reply (truth (more r)) r
answered bookmark r =
    cond (ltb (length r.bookmarks) bookmark_limit) (reply (index r.current) (marked (r.current ∷ r.bookmarks) r)) (reply (refused 3) r)
answered (restore_bookmark i) r = cond (member i r.bookmarks) (reply done (moved i r)) (reply (refused 4) r)
answered (remove_bookmark i) r = cond (member i r.bookmarks) (reply done (marked (without i r.bookmarks) r)) (reply (refused 4) r)
answered current_token_index r = reply (index r.current) r
answered enter_hex_pattern_mode r = reply done (switched HexPattern r)
answered enter_hex_jump_mode r = reply done (switched HexJump r)

-- The record that never drops a token.
unfoldable pub whole : List ℕ → Call → Record → Reply Record
unfolding fetch answered
whole src c r = answered c (fetch src (wants c) r)

-- Low is the smaller of the current index and the least live bookmark; kept are the tokens from low up to the last fetched.
unfoldable pub least : ℕ → List TokenIndex → ℕ
least c [] = c
least c (m ∷ ms) = min m.0 (least c ms)

abbrev pub kept : Record → ℕ
kept r = length r.tokens - least r.current.0 r.bookmarks

-- Whether a call would then keep more tokens than there are slots; and the record with so many slots, which refuses by 2 just there.
unfoldable pub outnumbers : ℕ → List ℕ → Call → Record → Bool
unfolding least fetch
outnumbers w src c r = leb 1 (wants c) && ltb w (kept (fetch src (wants c) r))

unfoldable pub bounded : ℕ → List ℕ → Call → Record → Reply Record
unfolding outnumbers whole
bounded w src c r = cond (outnumbers w src c r) (reply (refused 2) r) (whole src c r)
