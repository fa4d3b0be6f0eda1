-- A switch is answered at once: it wants no token. So it is refused by 24, or is the reader's own where it stands.
-- Assumes nothing.
use Rattle.std.specs.Prelude.{ℕ, ◌≡◌, cond, List, length, Ok, Err}
use Rattle.std.proofs.Common.{sym, ◌∙◌}
use Rattle.patterns.proofs.Bools.{by_test}
use Rattle.tokens.specs.declared.Mode.{Mode}
use Rattle.refusals.specs.declared.Given.{Given}
use Rattle.refusals.specs.declared.Refusal.TheVariants.{NotAsOpened}
use Rattle.reader.specs.declared.Reader.{Reader}
use Rattle.reader.specs.Reading.{entered}
use Rattle.token_record.specs.Record.{Call, done, reply, wants}
use Rattle.window.specs.declared.Window.{Window}
use Rattle.window.specs.Window.{State, sound, read_on, switched, with_window, answered, step, done_reply}
use Rattle.window.specs.SoundLaws.{fit}
use Rattle.window.specs.WindowLaws.{not_sound, answered_now}

-- A switch: 24, or the window with the reader switched.
abbrev pub switch : ℕ → ℕ → Reader → Window → Given Unit Window
switch bytes len r w =
    cond (sound bytes len w) (record { answer = Ok tt; after = read_on r w.fetched.0 w }) (record { answer = Err NotAsOpened; after = w })

-- The switches: 24, or the reader's own where it stands.
module _ (src : List ℕ) (s : State) (r : Reader) where
  pub switches : (c : Call) (m : Mode) → wants c ≡ 0 → (answered c s ≡ reply done (with_window s (switched m s.window)))
      → r ≡ entered m s.window.reader
      → done_reply (switch (length src) (length s.room) r s.window) s.room ≡ step src c s
  switches c m e a f =
      by_test (sound (length src) (length s.room) s.window)
      (λ p. rw (p, f) (sym a ∙ answered_now src s c e (fit _ _ _ p)))
      (λ p. rw p (not_sound src s c p))
