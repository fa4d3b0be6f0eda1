-- What an advance over the tokens gives is what an iterator promises: the first of those that are left, and then fewer are.
-- Assumes nothing.
use Rattle.std.specs.Prelude.{◌≡◌, ⊤, Option, Some, None, MatchOption}
use Rattle.std.specs.Iterator.{YieldsFirst, item_count, MakesProgress}
use Rattle.tokens.specs.declared.Token.{Token}
use Rattle.reader.specs.declared.remaining.Tokens.{Tokens}
use Rattle.reader.specs.Following.{Onward, Ends, rest}
use Rattle.reader.proofs.Following.{fewer, rest_end, rest_more}

module _ (s t : Tokens) where
  abbrev pub Moves : Option Token → Type 0
  Moves o = (t.src ≡ s.src) × MatchOption o (Ends s.src.now s.reader × (t.reader ≡ s.reader)) (λ x. Onward s.src.now s.reader x t.reader)

  pub next_first : (o : Option Token) → Moves o → YieldsFirst (λ (s : Tokens). rest s.src.now s.reader) s o t
  next_first None h = (rest_end _ _ h.1.0, rw (h.0, h.1.1) (rest_end _ _ h.1.0))
  next_first (Some x) h = rw h.0 (rest_more _ _ _ _ h.1)

  pub next_goes : (o : Option Token) → Moves o → MakesProgress (λ (s : Tokens). ⊤) (item_count (λ (s : Tokens). rest s.src.now s.reader)) s o t
  next_goes None h = record { on = λ _. tt; keeps = tt; rests = λ _. tt }
  next_goes (Some x) h = record { on = λ _. (tt, tt, rw h.0 (fewer _ _ h.1)); keeps = tt; rests = λ _. tt }
