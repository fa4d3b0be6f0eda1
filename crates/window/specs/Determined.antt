-- The promises leave no choice: two results of a call that satisfy its contract are equal, with every lent number. For the code's
-- answers can be read back from document 01's values, by which the contracts speak of them. Assumes nothing.
use Rattle.std.specs.Prelude.{ℕ, ◌≡◌, refl, Bool, false, List, Option, Some, None, Result, Ok, Err}
use Rattle.std.proofs.Common.{ap}
use Rattle.patterns.specs.Determined.{Once}
use Rattle.patterns.proofs.Determined.{once}
use Rattle.tokens.specs.declared.Token.{Token}
use Rattle.tokens.specs.declared.TokenIndex.{TokenIndex}
use Rattle.refusals.specs.declared.Given.{Given}
use Rattle.refusals.specs.declared.Refusal.{Refusal}
use Rattle.refusals.specs.RefusalLaws.{read_refusal, read_back}
use Rattle.token_record.specs.Record.{Answer, token, none, truth, index, done, refused, reply}
use Rattle.window.specs.declared.Window.{Window}
use Rattle.window.specs.Window.{state, token_told, more_told, index_told, done_told, token_reply, more_reply, index_reply, done_reply}

-- a call's answer that can be read back from what it is told by, beside the window and the room
module _ {T : Type 0} (told : Result T Refusal → Answer) (read : Answer → Result T Refusal) (same : (a : Result T Refusal) → read (told a) ≡ a) where
  reply_once : Once (λ (p : Given T Window × List ℕ). reply (told p.0.answer) (state p.0.after p.1))
  reply_once =
      once _ (λ r. (record { answer = read r.answer; after = r.after.window }, r.after.room))
      (λ p. ap (λ (a : Result T Refusal). (record { answer = a; after = p.0.after }, p.1)) (same p.0.answer))

-- next_token and peek_token
abbrev token_read : Answer → Result (Option Token) Refusal
token_read (token x) = Ok (Some x)
token_read none = Ok None
token_read (truth b) = Ok None
token_read (index i) = Ok None
token_read done = Ok None
token_read (refused n) = Err (read_refusal n)

token_same : (a : Result (Option Token) Refusal) → token_read (token_told a) ≡ a
token_same (Ok (Some x)) = refl
token_same (Ok None) = refl
token_same (Err n) = ap (λ (x : Refusal). Err x) (read_back n)

pub token_once : Once (λ (p : Given (Option Token) Window × List ℕ). token_reply p.0 p.1)
token_once = reply_once token_told token_read token_same

-- has_more
abbrev more_read : Answer → Result Bool Refusal
more_read (token x) = Ok false
more_read none = Ok false
more_read (truth b) = Ok b
more_read (index i) = Ok false
more_read done = Ok false
more_read (refused n) = Err (read_refusal n)

more_same : (a : Result Bool Refusal) → more_read (more_told a) ≡ a
more_same (Ok b) = refl
more_same (Err n) = ap (λ (x : Refusal). Err x) (read_back n)

pub more_once : Once (λ (p : Given Bool Window × List ℕ). more_reply p.0 p.1)
more_once = reply_once more_told more_read more_same

-- bookmark and current_token_index
abbrev index_read : Answer → Result TokenIndex Refusal
index_read (token x) = Ok (record { 0 = 0 })
index_read none = Ok (record { 0 = 0 })
index_read (truth b) = Ok (record { 0 = 0 })
index_read (index i) = Ok i
index_read done = Ok (record { 0 = 0 })
index_read (refused n) = Err (read_refusal n)

index_same : (a : Result TokenIndex Refusal) → index_read (index_told a) ≡ a
index_same (Ok i) = refl
index_same (Err n) = ap (λ (x : Refusal). Err x) (read_back n)

pub index_once : Once (λ (p : Given TokenIndex Window × List ℕ). index_reply p.0 p.1)
index_once = reply_once index_told index_read index_same

-- opening, restore_bookmark, remove_bookmark and the switches
abbrev pub done_read : Answer → Result Unit Refusal
done_read (token x) = Ok tt
done_read none = Ok tt
done_read (truth b) = Ok tt
done_read (index i) = Ok tt
done_read done = Ok tt
done_read (refused n) = Err (read_refusal n)

pub done_same : (a : Result Unit Refusal) → done_read (done_told a) ≡ a
done_same (Ok u) = refl
done_same (Err n) = ap (λ (x : Refusal). Err x) (read_back n)

pub done_once : Once (λ (p : Given Unit Window × List ℕ). done_reply p.0 p.1)
done_once = reply_once done_told done_read done_same
