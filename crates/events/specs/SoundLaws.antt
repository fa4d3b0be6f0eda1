-- The tests of refusal 24 as facts, and back; and that 24 comes before all.
-- Assumes nothing.
use Rattle.std.specs.Prelude.{ℕ, ◌+◌, ◌≤◌, ◌<◌, ◌≡◌, refl, Bool, false, ◌||◌, length, eqb}
use Rattle.std.proofs.Common.{sym, ◌∙◌, arith}
use Rattle.std.proofs.Math.Bool.{true}
use Rattle.std.proofs.Math.Dec.{ltb}
use borrow.Author.Tests.{ltb-true, lt-ltb, leb-true, le-leb, eqb-true, eqb-false, eq-eqb, ne_eqb}
use Rattle.patterns.proofs.Bools.{and_both, and_first, and_second, by_test}
use Rattle.patterns.proofs.Lists.{each_right}
use Rattle.refusals.specs.declared.Refusal.{Refusal}
use Rattle.refusals.specs.declared.Refusal.TheVariants.{NotAsOpened}
use Rattle.refusals.specs.Refusals.{number_of}
use Rattle.event_record.specs.Record.{Call, refused, Reply, reply, begin_tag}
use Rattle.event_room.specs.Room.{slots_in}
use Rattle.events.specs.Stream.{State, inner_place, begins, tests, sound, answered, step}
use Rattle.events.specs.Parts.{event_at}

-- what holds of a stream and its rooms that a later call takes
pub record Fit (s : State) : Type 0 where
  pub slots_same : s.stream.slots ≡ slots_in (length s.room)
  pub places_same : s.stream.places ≡ length s.opens
  pub front_inside : 0 < s.stream.slots → s.stream.front.0 < s.stream.slots
  pub within : s.stream.count + s.stream.opened ≤ s.stream.slots
  pub nodes : s.stream.opened ≤ s.stream.places
  pub inner_inside : 0 < s.stream.opened → inner_place s < s.stream.count
  pub inner_begins : 0 < s.stream.opened → (event_at s.stream s.room (inner_place s)).tag ≡ begin_tag

-- and of one that is refused first of all
abbrev pub Unfit : State → Refusal → Type 0
Unfit s n = (n ≡ NotAsOpened) × (sound s ≡ false)

-- the test of the last open place
abbrev pub begun : State → Bool
begun s = eqb s.stream.opened 0 || begins s (inner_place s)

-- a test that is asked only where a number is not 0
or_some : (n : ℕ) (b : Bool) → (eqb n 0 || b) ≡ true → 0 < n → b ≡ true
or_some n b e h = rw (ne_eqb n 0 (λ z. omega (arith, z))) at e

some_or : (n : ℕ) (b : Bool) → (0 < n → b ≡ true) → (eqb n 0 || b) ≡ true
some_or n b f = by_test (eqb n 0) (λ e. rw e) (λ e. let d : n ≡ 0 → ⊥ = eqb-false n 0 e in rw (e, f (omega arith)))

module _ (s : State) where
  pub fit : {b : Bool} → b ≡ sound s → b ≡ true → Fit s
  unfolding sound
  fit p e =
      let h = each_right (λ b. b) (tests s) (sym p ∙ e) in
      let last : 0 < s.stream.opened → begins s (inner_place s) ≡ true = or_some _ _ h.1.1.1.1.1.0 in
      record {
        slots_same = eqb-true _ _ h.0;
        places_same = eqb-true _ _ h.1.0;
        front_inside = λ l. ltb-true _ _ (or_some _ _ h.1.1.0 l);
        within = leb-true _ _ h.1.1.1.0;
        nodes = leb-true _ _ h.1.1.1.1.0;
        inner_inside = λ l. ltb-true _ _ (and_first _ _ (last l));
        inner_begins = λ l. eqb-true _ _ (and_second (ltb (inner_place s) s.stream.count) _ (last l));
      }

  pub fit_sound : Fit s → sound s ≡ true
  unfolding sound
  fit_sound k =
      let front : (eqb s.stream.slots 0 || ltb s.stream.front.0 s.stream.slots) ≡ true =
      some_or _ _ (λ l. lt-ltb _ _ (k.front_inside l)) in
      let inner : begun s ≡ true = some_or _ _ (λ l. and_both _ _ (lt-ltb _ _ (k.inner_inside l)) (eq-eqb _ _ (k.inner_begins l))) in
      rw (eq-eqb _ _ k.slots_same, eq-eqb _ _ k.places_same, front, le-leb _ _ k.within, le-leb _ _ k.nodes, inner)

  -- refusal 24 comes before all
  pub not_sound : (c : Call) {b : Bool} → b ≡ sound s → b ≡ false → reply (refused 24) s ≡ step c s
  unfolding step
  not_sound c p e = rw (sym p ∙ e)

  pub answered_now : (c : Call) → sound s ≡ true → answered c s ≡ step c s
  unfolding step
  answered_now c e = rw e

  pub passed_on : (c : Call) {b : Bool} {x : Reply State} → b ≡ sound s → b ≡ true → x ≡ answered c s → x ≡ step c s
  passed_on c p e h = h ∙ answered_now c (sym p ∙ e)

  pub when_sound : (c : Call) {b : Bool} {x : Reply State} → b ≡ sound s → b ≡ true → (Fit s → x ≡ answered c s) → x ≡ step c s
  when_sound c p e h = passed_on c p e (h (fit p e))

  -- so it comes before all in the code
  pub refused_first : (c : Call) {n : Refusal} → Unfit s n → reply (refused (number_of n)) s ≡ step c s
  refused_first c u = rw u.0 (not_sound c refl u.1)

  pub when_fit : (c : Call) {x : Reply State} → Fit s → x ≡ answered c s → x ≡ step c s
  when_fit c k h = h ∙ answered_now c (fit_sound k)
