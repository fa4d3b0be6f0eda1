-- A refused call changes neither the stream nor the lent rooms, whatever they hold: a ground that holds leaves the state, and where none
-- holds the answer is no refusal. Assumes nothing.
use Rattle.std.specs.Prelude.{ℕ, ◌≡◌, refl, not, List, [], ◌∷◌}
use Rattle.std.proofs.Common.{subst}
use Rattle.event_record.specs.declared.Event.{Event}
use Rattle.event_record.specs.Record.{Call, push_token, push_error, begin, end, end_with_error, bookmark, truncate, remove_bookmark, pop, refused, Reply, Record, first_popped, taken, grounds}
use Rattle.events.specs.Stream.{State, view, laid, sound, answered, step}
use Rattle.event_view.proofs.CallLaws.{either_way}
use Rattle.event_view.specs.Still.{Given}

first_given : (es : List Event) (r : Record) → Given (first_popped es r).answer
first_given [] r = tt
first_given (y ∷ ys) r = tt

pub taken_given : (c : Call) (r : Record) → Given (taken c r).answer
unfolding taken
taken_given (push_token k x) r = tt
taken_given (push_error m x) r = tt
taken_given (begin k) r = tt
taken_given end r = tt
taken_given end_with_error r = tt
taken_given bookmark r = tt
taken_given (truncate p) r = tt
taken_given (remove_bookmark p) r = tt
taken_given pop r = first_given r.events r

module _ (c : Call) (s : State) (n : ℕ) where
  abbrev Still : Reply State → Type 0
  Still x = x.answer ≡ refused n → x.after ≡ s

  answered_still : Still (answered c s)
  unfolding answered laid
  answered_still =
      let r = view s in
      either_way refused s (laid s (taken c r)) Still (grounds c r) (λ m e. refl) (λ f e. absurd (subst Given e (taken_given c r)))

  pub refused_still : (step c s).answer ≡ refused n → (step c s).after ≡ s
  unfolding step
  refused_still = either_way refused s (answered c s) Still ((not (sound s), 24) ∷ []) (λ m e. refl) (λ f. answered_still)
