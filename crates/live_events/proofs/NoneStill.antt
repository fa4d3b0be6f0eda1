-- A pop that finds none changes neither the stream nor the lent rooms, whatever they hold: the list that is laid is the one that stands.
-- Assumes nothing.
use Rattle.std.specs.Prelude.{◌≡◌, refl, not, List, [], ◌∷◌}
use Rattle.std.proofs.Common.{sym, ap, subst}
use Rattle.std.proofs.lemmas.Bool.{not-false}
use Rattle.event_record.specs.declared.Event.{Event}
use Rattle.event_record.specs.Record.{Call, push_token, push_error, begin, end, end_with_error, bookmark, truncate, remove_bookmark, pop, Answer, done, none, position, event, refused, Reply, first_popped, taken, grounds}
use Rattle.events.specs.Stream.{State, view, laid, sound, answered, step}
use Rattle.events.specs.SoundLaws.{Fit, fit}
use Rattle.events.specs.HoldLaws.{opened_inside, unstored}
use Rattle.event_view.proofs.CallLaws.{either_way}

-- an answer is not none
abbrev Some : Answer → Type 0
Some done = Unit
Some none = ⊥
Some (position p) = Unit
Some (event y) = Unit
Some (refused n) = Unit

module _ (s : State) where
  abbrev Kept : Reply State → Type 0
  Kept x = x.answer ≡ none → x.after ≡ s

  module _ (k : Fit s) where
    first_kept : (es : List Event) → Kept (laid s (first_popped es (view s)))
    unfolding laid view
    first_kept [] e =
        ap (λ (x : Reply State). x.after)
        (sym (unstored s none (view s) s.stream.count s.stream.opened refl refl refl (opened_inside s k)))
    first_kept (y ∷ ys) e = absurd (subst Some e tt)

    laid_kept : (c : Call) → Kept (laid s (taken c (view s)))
    unfolding laid taken
    laid_kept (push_token n x) e = absurd (subst Some e tt)
    laid_kept (push_error n x) e = absurd (subst Some e tt)
    laid_kept (begin n) e = absurd (subst Some e tt)
    laid_kept end e = absurd (subst Some e tt)
    laid_kept end_with_error e = absurd (subst Some e tt)
    laid_kept bookmark e = absurd (subst Some e tt)
    laid_kept (truncate p) e = absurd (subst Some e tt)
    laid_kept (remove_bookmark p) e = absurd (subst Some e tt)
    laid_kept pop e = first_kept (view s).events e

    answered_kept : (c : Call) → Kept (answered c s)
    unfolding answered
    answered_kept c =
        either_way refused s (laid s (taken c (view s))) Kept (grounds c (view s)) (λ m e. refl) (λ f. laid_kept c)

  pub none_still : (c : Call) → (step c s).answer ≡ none → (step c s).after ≡ s
  unfolding step
  none_still c =
      either_way refused s (answered c s) Kept ((not (sound s), 24) ∷ []) (λ m e. refl)
      (λ f. answered_kept (fit s refl (not-false _ f.0)) c)
