-- Laws of the loop over a ring that asks for balance, turn by turn: the first event of those that are left decides, or they are as
-- balanced as the rest. By the list that stands in the ring. Assumes nothing.
use Prim.Native.Nat.{ℕ, suc, ◌+◌, ◌-◌, ◌≤◌, ◌<◌}
use Rattle.std.specs.Prelude.{◌≡◌, Bool, false, not, ◌&&◌, List, ◌∷◌, length, drop, eqb}
use Rattle.std.proofs.Math.Path.{ap}
use Rattle.std.proofs.Common.{sym, ◌∙◌, zero-add, eq-eqb}
use native.Mathlib.Omega.{arith}
use Rattle.std.proofs.lemmas.Bool.{eqb-false}
use Rattle.patterns.proofs.Bools.{by_test}
use Rattle.rooms.specs.declared.Slot.{Slot}
use Rattle.event_record.specs.declared.Event.{Event}
use Rattle.event_record.specs.Record.{begin_tag, end_tag, unmatched, depth, balanced}
use Rattle.event_room.specs.Room.{slots_in, slot_of, read, listed}
use Rattle.event_room.specs.RingLaws.{listed_drop}
use Rattle.events.specs.ReadingLaws.{here}

-- an End that is not unmatched ends a node
pub one_open : (n : ℕ) (y : Event) → unmatched n y ≡ false → y.tag ≡ end_tag → 0 < n
one_open n y h t =
    let e : eqb n 0 ≡ false = rw (eq-eqb y.tag end_tag t) at h in
    let d : n ≡ 0 → ⊥ = eqb-false n 0 e in
    omega arith

-- an event opens at most one node
pub one_more : (n : ℕ) (y : Event) → depth n y ≤ n + 1
one_more n y =
    by_test (eqb y.tag begin_tag)
    (λ b. rw b (omega arith))
    (λ b. rw b (by_test (eqb y.tag end_tag) (λ e. rw e (omega arith)) (λ e. rw e (omega arith))))

-- events whose first is unmatched or not
first_decides : (n : ℕ) (y : Event) (ys : List Event) {b : Bool} → unmatched n y ≡ b → balanced n (y ∷ ys) ≡ (not b && balanced (depth n y) ys)
unfolding balanced
first_decides n y ys u = ap (λ b. not b && balanced (depth n y) ys) u

-- y is read in its slot: it is the event at position i of a room with n slots
module _ (room : List ℕ) (f : Slot) (i : ℕ) {n : ℕ} (e : n ≡ slots_in (length room)) {y : Event} (r : y ≡ read room (slot_of n f i)) where
  -- the events from there on, up to a count, d nodes being open before them
  module _ (d count : ℕ) (h : i < count) where
    from_here : listed room f i (count - i) ≡ y ∷ listed room f (i + 1) (count - (i + 1))
    unfolding listed
    from_here =
        let m : count - i ≡ suc (count - (i + 1)) = omega arith in
        ap (λ k. listed room f i k) m ∙ ap (λ z. z ∷ listed room f (i + 1) (count - (i + 1))) (sym (here room f i e r))

    pub balanced_here : {b : Bool} → unmatched d y ≡ b
        → (not b && balanced (depth d y) (listed room f (i + 1) (count - (i + 1)))) ≡ balanced d (listed room f i (count - i))
    balanced_here u = sym (ap (balanced d) from_here ∙ first_decides d y (listed room f (i + 1) (count - (i + 1))) u)

-- before the first turn, and behind the last
pub balanced_start : (room : List ℕ) (f : Slot) (d i count : ℕ) → balanced d (listed room f i (count - i)) ≡ balanced d (drop i (listed room f 0 count))
balanced_start room f d i count = ap (balanced d) (ap (λ j. listed room f j (count - i)) (sym (zero-add i)) ∙ sym (listed_drop room f 0 count i))

pub balanced_end : (room : List ℕ) (f : Slot) (i d count : ℕ) → count ≤ i → eqb d 0 ≡ balanced d (listed room f i (count - i))
unfolding balanced listed
balanced_end room f i d count h =
    let z : count - i ≡ 0 = omega arith in
    ap (λ k. balanced d (listed room f i k)) (sym z)
