-- How the answers of an opening and of the next token are read back from what they are told by: the promises leave no choice
-- (proofs/Determined). Assumes nothing.
use Rattle.std.specs.Prelude.{Option, Some, None, Result, Ok, Err}
use Rattle.refusals.specs.declared.Refusal.{Refusal}
use Rattle.refusals.specs.RefusalLaws.{read_refusal}
use Rattle.tokens.specs.declared.Token.{Token}
use Rattle.reader.specs.Reading.{Answer, ready, end, found, refused}

abbrev pub done_read : Answer → Result (Unit {0}) Refusal
done_read (ready r) = Ok tt
done_read end = Ok tt
done_read (found x r) = Ok tt
done_read (refused n) = Err (read_refusal n)

abbrev pub next_read : Answer → Result (Option Token) Refusal
next_read (ready r) = Ok None
next_read end = Ok None
next_read (found x r) = Ok (Some x)
next_read (refused n) = Err (read_refusal n)
