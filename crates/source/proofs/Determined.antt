-- The promises leave no choice: what opening and the next token give can be read back from what it is told by.
-- Assumes nothing.
use Rattle.std.specs.Prelude.{◌≡◌, refl, Option, Some, None, Result, Ok, Err}
use Rattle.std.proofs.Common.{ap}
use Rattle.patterns.specs.Determined.{Once}
use Rattle.patterns.proofs.Determined.{once}
use Rattle.refusals.specs.declared.Refusal.{Refusal}
use Rattle.refusals.specs.RefusalLaws.{read_back}
use Rattle.tokens.specs.declared.Token.{Token}
use Rattle.reader.specs.declared.Reader.{Reader}
use Rattle.source.specs.Sources.{done_told, open_reply, reader_of}
use Rattle.source.specs.Next.{next_told, next_reply}
use Rattle.source.specs.Determined.{done_read, next_read}

-- opening
done_same : (a : Result (Unit {0}) Refusal) → done_read (done_told a) ≡ a
done_same (Ok u) = refl
done_same (Err n) = ap (λ q. Err q) (read_back n)

pub open_once : Once open_reply
open_once =
    once _ (λ r. record { answer = done_read r.answer; after = r.after })
    (λ g. ap (λ (a : Result (Unit {0}) Refusal). record { answer = a; after = g.after }) (done_same g.answer))

-- the next token
next_same : (a : Result (Option Token) Refusal) (r : Reader) → next_read (next_told a r) ≡ a
next_same (Ok None) r = refl
next_same (Ok (Some x)) r = refl
next_same (Err n) r = ap (λ q. Err q) (read_back n)

pub next_once : Once next_reply
next_once =
    once _ (λ r. record { answer = next_read r.answer; after = r.after })
    (λ g. ap (λ (a : Result (Option Token) Refusal). record { answer = a; after = g.after }) (next_same g.answer (reader_of g.after)))
