-- The tests of refusal 24 in the parts in which the code asks them: of the lengths, of the record alone, of the last open place.
-- Assumes nothing.
use Rattle.std.specs.Prelude.{ℕ, ◌+◌, ◌-◌, ◌≤◌, ◌≡◌, Bool, true, ◌&&◌, ◌||◌, length, eqb, leb, ltb}
use Rattle.std.proofs.Common.{sym, ◌∙◌, arith, leb-true, leb-false, le-leb, eqb-true}
use Rattle.std.proofs.Math.Bool.{and-true, and_assoc}
use Rattle.std.proofs.lemmas.Bool.{lt-leb}
use Rattle.patterns.proofs.Bools.{and_first, and_second, by_test}
use Rattle.event_room.specs.Room.{slots_in}
use Rattle.events.specs.declared.Stream.{Stream}
use Rattle.events.specs.Stream.{State, sound}
use Rattle.events.specs.SoundLaws.{begun}

-- the tests of the record alone
abbrev pub within : Stream → Bool
within t = (eqb t.slots 0 || ltb t.front.0 t.slots) && leb (t.count + t.opened) t.slots && leb t.opened t.places

-- where the record and the lengths are right, the open nodes have their places
pub places_enough : (t : Stream) (e d : ℕ) {w : Bool} → w ≡ within t → (eqb t.slots e && eqb t.places d && w) ≡ true
    → t.opened ≤ d
places_enough t e d {w} p h =
    let lengths = eqb t.slots e && eqb t.places d in
    let front = (eqb t.slots 0 || ltb t.front.0 t.slots) && leb (t.count + t.opened) t.slots in
    let same : t.places ≡ d = eqb-true _ _ (and_second (eqb t.slots e) _ (and_first lengths w h)) in
    let nodes : t.opened ≤ t.places = leb-true _ _ (and_second front _ (sym p ∙ and_second lengths w h)) in
    omega arith

-- a bound on a sum, asked without the sum
pub moved_leb : (n o e : ℕ) → o ≤ e → leb n (e - o) ≡ leb (n + o) e
moved_leb n o e h =
    by_test (leb (n + o) e) (λ t. rw t (le-leb n (e - o) (omega (arith, leb-true (n + o) e t))))
    (λ t. rw t (lt-leb n (e - o) (omega (arith, leb-false (n + o) e t))))

-- the tests in parts, as they are asked
pub in_parts : (s : State) {e : ℕ} {w b : Bool} → e ≡ slots_in (length s.room) → w ≡ within s.stream
    → (eqb s.stream.slots e && eqb s.stream.places (length s.opens) && w) ≡ b → (b && begun s) ≡ sound s
unfolding sound
in_parts s p q r = rw (← r, p, q) (simp (and_assoc, and-true))
