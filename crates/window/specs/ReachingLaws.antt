-- What fetching answers is what is reached, for its test is that of the tokens kept; and no number of tokens beyond the source's bytes is
-- more than all of them. Assumes nothing.
use Prim.Native.Nat.{ℕ, suc, min, ◌+◌, ◌-◌, ◌≤◌, ◌<◌}
use Rattle.std.specs.Prelude.{◌≡◌, refl, true, false, ◌&&◌, List, leb, ltb, Result, Ok, Err}
use Rattle.std.proofs.Common.{ap, ◌∙◌, arith}
use Rattle.std.proofs.Math.ListN.{length}
use borrow.Author.Tests.{le-leb, lt-leb, le-ltb, ltb-true, ltb-false, leb-true, leb-false}
use Rattle.patterns.proofs.Bools.{by_test}
use Rattle.patterns.specs.Determined.{Once}
use Rattle.patterns.proofs.Determined.{once}
use Rattle.refusals.specs.declared.Refusal.{Refusal}
use Rattle.tokens.specs.declared.TokenIndex.{TokenIndex}
use Rattle.reader.specs.declared.Reader.{Reader}
use Rattle.reader.specs.Reading.{source_limit, ahead}
use Rattle.reader.specs.Reading as reading
use Rattle.reader.proofs.Following.{ahead_all}
use Rattle.token_record.specs.Record.{done, refused, reply, least}
use Rattle.fetching.specs.declared.Stored.{Stored}
use Rattle.fetching.specs.Fetching.{fetched, outcome}
use Rattle.bookmarks.specs.HeldLaws.{least_le}
use Rattle.window.specs.declared.Window.{Window}
use Rattle.window.specs.Window.{State, marks, kept, sound, fetch, done_told, done_reply}
use Rattle.window.specs.SoundLaws.{Fit, fit_sound}
use Rattle.window.specs.WindowLaws.{fetch_none}
use Rattle.window.specs.Determined.{done_read, done_same}
use Rattle.window.specs.Reaching.{reach, reached}
use Rattle.window.specs.ReachingParts.{gathered, turned}

-- from the limit on, every number of tokens is all of them
ahead_most : (src : List ℕ) (r : Reader) (k : ℕ) → length src ≤ source_limit → ahead (min k source_limit) src r ≡ ahead k src r
ahead_most src r k h =
    by_test (leb k source_limit)
    (λ e. let l : k ≤ source_limit = leb-true _ _ e in let m : min k source_limit ≡ k = omega arith in ap (λ n. ahead n src r) m)
    (λ e. let l : source_limit < k = leb-false _ _ e in ahead_all src r (min k source_limit) k (omega arith) (omega arith))

fetched_most : (src : List ℕ) (r : Reader) (room : List ℕ) (first : TokenIndex) (k spare : ℕ) → length src ≤ source_limit
    → fetched src r room first (min k source_limit) spare ≡ fetched src r room first k spare
unfolding fetched
fetched_most src r room first k spare h = rw (ahead_most src r k h)

module _ (src : List ℕ) (s : State) where
  pub not_reached : (n : ℕ) → sound (length src) (length s.room) s.window ≡ false → reply (refused 24) s ≡ reach src n s
  unfolding reach
  not_reached n e = rw e

  module _ (f : Fit (length src) (length s.room) s.window) where
    -- where the token wanted has been fetched, so have all before it
    pub reached_now : (n : ℕ) → s.window.current.0 + n ≤ s.window.fetched.0 → reply done s ≡ reach src n s
    unfolding reach
    reached_now n h = rw (fit_sound (length src) (length s.room) s.window f, fetch_none src s n h, le-ltb _ _ f.room)

    -- fetching's answer is what is reached: its reader and index are sound, and its test is that of the tokens kept
    abbrev beyond : ℕ → ℕ
    beyond n = s.window.current.0 + n - s.window.fetched.0

    reader_sound : (reading.sound src s.window.reader && leb s.window.fetched.0 s.window.reader.place.0) ≡ true
    reader_sound =
        rw (le-leb _ _ f.limit, le-leb _ _ f.inside, le-leb _ _ f.fetched_low)

    reached_fetched : (n : ℕ)
        → turned s.window (gathered s.window.reader s.window.fetched (fetched src s.window.reader s.room s.window.fetched (beyond n) (s.window.slots - kept s.window)))
        ≡ reach src n s
    unfolding fetched reach fetch
    reached_fetched n =
        let w = s.window in
        let a = ahead (beyond n) src w.reader in
        let spare = w.slots - kept w in
        let then : ℕ = w.fetched.0 + length a.tokens - least w.current.0 (marks w) in
        let m = least_le w.current.0 (marks w) in
        let k = f.room in
        let l = f.current_low in
        by_test (ltb w.slots then)
        (λ q.
        let h : w.slots < then = ltb-true _ _ q in
        rw (fit_sound (length src) (length s.room) w f, reader_sound, q, lt-leb (length a.tokens) spare (omega arith)))
        (λ q.
        let h : then ≤ w.slots = ltb-false _ _ q in
        rw (fit_sound (length src) (length s.room) w f, reader_sound, q, le-leb (length a.tokens) spare (omega arith)))

    -- as many as are wanted beyond those ready, which are fetched and not taken
    pub reached_by : (n need spare : ℕ) → s.window.fetched.0 - s.window.current.0 ≤ n
        → need ≡ min (n - (s.window.fetched.0 - s.window.current.0) + 1) source_limit → spare ≡ s.window.slots - kept s.window
        → turned s.window (gathered s.window.reader s.window.fetched (fetched src s.window.reader s.room s.window.fetched need spare))
        ≡ reach src (suc n) s
    reached_by n need spare h p q =
        let w = s.window in
        let k : n - (w.fetched.0 - w.current.0) + 1 ≡ beyond (suc n) = omega (arith, f.current_low) in
        let most : fetched src w.reader s.room w.fetched need spare
        ≡ fetched src w.reader s.room w.fetched (beyond (suc n)) (w.slots - kept w) =
        rw (p, q, k) (fetched_most src w.reader s.room w.fetched (beyond (suc n)) (w.slots - kept w) f.limit) in
        ap (λ o. turned w (gathered w.reader w.fetched o)) most ∙ reached_fetched (suc n)

-- what fetching's outcome comes to, in its values
pub reached_turned : (w : Window) (r : Result Stored Refusal) (room : List ℕ) → done_reply (reached w r) room ≡ turned w (gathered w.reader w.fetched (outcome r room))
reached_turned w (Ok r) room = refl
reached_turned w (Err n) room = refl

-- The contract of reaching leaves no choice: what it came to can be read back.
pub reached_once : (w : Window) → Once (λ (p : Result Stored Refusal × List ℕ). done_reply (reached w p.0) p.1)
reached_once w = once _ (λ y. (came (done_read y.answer) (record { reader = y.after.window.reader; next = y.after.window.fetched }), y.after.room)) (λ p. ap (λ (r : Result Stored Refusal). (r, p.1)) (came_back p.0))
  where
    came : Result Unit Refusal → Stored → Result Stored Refusal
    came (Ok u) s = Ok s
    came (Err n) s = Err n

    came_back : (r : Result Stored Refusal) → came (done_read (done_told (reached w r).answer)) (record { reader = (reached w r).after.reader; next = (reached w r).after.fetched }) ≡ r
    came_back (Ok s) = refl
    came_back (Err n) = ap (λ (a : Result Unit Refusal). came a (record { reader = w.reader; next = w.fetched })) (done_same (Err n))
