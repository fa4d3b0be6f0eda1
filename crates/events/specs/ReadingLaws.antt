-- Laws of the loop over a ring that seeks a token, turn by turn: the last of some events is the last token, or it is sought among the
-- others. By the list that stands in the ring. Assumes nothing.
use Rattle.std.specs.Prelude.{ℕ, ◌+◌, ◌≤◌, ◌≡◌, cond, length, eqb}
use Rattle.std.proofs.Math.Path.{ap}
use Rattle.std.proofs.Common.{sym, ◌∙◌, zero-add, arith, eq-eqb, ne_eqb}
use mathlib.Core.List.{List, [], ◌∷◌, ◌++◌}
use Rattle.rooms.specs.declared.Slot.{Slot}
use Rattle.event_record.specs.declared.Event.{Event}
use Rattle.event_record.specs.declared.Span.{Span}
use Rattle.event_record.specs.Record.{token_tag, last_token}
use Rattle.event_record.proofs.RecordLaws.{last_token_append}
use Rattle.event_room.specs.Room.{slots_in, slot_of, slot_in, read, listed}
use Rattle.event_room.specs.RingLaws.{listed_more}

-- y is read in its slot: it is the event at position i of a room with n slots
module _ (room : List ℕ) (f : Slot) (i : ℕ) {n : ℕ} (e : n ≡ slots_in (length room)) {y : Event} (r : y ≡ read room (slot_of n f i)) where
  pub here : y ≡ read room (slot_in room f i)
  here = r ∙ ap (λ m. read room (slot_of m f i)) e

  -- the events before it and itself, m together
  module _ (x : Span) {m : ℕ} (k : i + 1 ≡ m) where
    up_to_here : last_token x (listed room f 0 m) ≡ cond (eqb y.tag token_tag) y.span (last_token x (listed room f 0 i))
    unfolding last_token
    up_to_here =
        let l : List Event = listed room f 0 i in
        ap (λ j. last_token x (listed room f 0 j)) (sym k)
        ∙ ap (last_token x) (listed_more room f 0 i)
        ∙ ap (λ j. last_token x (l ++ (read room (slot_in room f j) ∷ []))) (zero-add i)
        ∙ ap (λ z. last_token x (l ++ (z ∷ []))) (sym here)
        ∙ last_token_append x l (y ∷ [])

    pub token_here : y.tag ≡ token_tag → y.span ≡ last_token x (listed room f 0 m)
    token_here t = sym (up_to_here ∙ rw (eq-eqb y.tag token_tag t))

    pub token_before : (y.tag ≡ token_tag → ⊥) → last_token x (listed room f 0 i) ≡ last_token x (listed room f 0 m)
    token_before t = sym (up_to_here ∙ rw (ne_eqb y.tag token_tag t))

-- where none is left
pub token_none : (room : List ℕ) (f : Slot) (x : Span) (n : ℕ) → n ≤ 0 → x ≡ last_token x (listed room f 0 n)
unfolding last_token listed
token_none room f x n h =
    let z : n ≡ 0 = omega arith in
    ap (λ k. last_token x (listed room f 0 k)) (sym z)
