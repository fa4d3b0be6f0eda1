-- Demand 1: a refused call changes neither the window nor the lent room, whatever they hold. Refusals 24 and 2 give back what was
-- handed in; 3 and 4 come from calls that want no token, and such a call, once sound, fetches none. Assumes nothing.
use Rattle.std.specs.Prelude.{ℕ, ◌+◌, ◌≡◌, refl, true, List, length, ltb}
use Rattle.std.proofs.Common.{ap, ◌∙◌, arith}
use Rattle.patterns.proofs.Bools.{by_test}
use Rattle.token_record.specs.Record.{Call, next_token, peek_token, has_more, bookmark, restore_bookmark, remove_bookmark, current_token_index, enter_hex_pattern_mode, enter_hex_jump_mode, Answer, refused, bookmark_limit, wants, member}
use Rattle.window.specs.Window.{State, marks, sound, fetch, look, overfull, answered, step}
use Rattle.window.specs.SoundLaws.{fit}
use Rattle.window.specs.WindowLaws.{fetch_none}
use Rattle.demand3.specs.Refused.{Refusal}

pub refusal : {n : ℕ} {a : Answer} → a ≡ refused n → Refusal n a
refusal e = rw e refl

module _ (n : ℕ) (s : State) where
  look_given : (k : ℕ) → Refusal n (look k s) → ⊥
  look_given k h = by_test (ltb (s.window.current.0 + k) s.window.fetched.0) (λ e. rw e at h) (λ e. rw e at h)

  -- what a call itself refuses
  answered_still : (c : Call) → Refusal n (answered c s).answer → (wants c ≡ 0) × ((answered c s).after ≡ s)
  unfolding answered
  answered_still next_token h = absurd (look_given 0 h)
  answered_still (peek_token k) h = absurd (look_given k h)
  answered_still has_more h = absurd h
  answered_still bookmark h = by_test (ltb s.window.live bookmark_limit) (λ e. absurd (rw e at h)) (λ e. rw e (refl, refl))
  answered_still (restore_bookmark i) h = by_test (member i (marks s.window)) (λ e. absurd (rw e at h)) (λ e. rw e (refl, refl))
  answered_still (remove_bookmark i) h = by_test (member i (marks s.window)) (λ e. absurd (rw e at h)) (λ e. rw e (refl, refl))
  answered_still current_token_index h = absurd h
  answered_still enter_hex_pattern_mode h = absurd h
  answered_still enter_hex_jump_mode h = absurd h

module _ (src : List ℕ) (c : Call) (s : State) (n : ℕ) where
  own_still : sound (length src) (length s.room) s.window ≡ true → Refusal n (answered c (fetch src (wants c) s)).answer
      → (answered c (fetch src (wants c) s)).after ≡ s
  own_still e h =
      let k = answered_still n (fetch src (wants c) s) c h in
      k.1 ∙ ap (λ (m : ℕ). fetch src m s) k.0 ∙ fetch_none src s 0 (omega (arith, (fit (length src) (length s.room) s.window e).current_low))

  pub refused_still : (step src c s).answer ≡ refused n → (step src c s).after ≡ s
  unfolding step
  refused_still h =
      by_test (sound (length src) (length s.room) s.window)
      (λ e. by_test (overfull c (fetch src (wants c) s)) (λ o. rw (e, o)) (λ o. rw (e, o) (own_still e (refusal (rw (e, o) at h)))))
      (λ e. rw e)
