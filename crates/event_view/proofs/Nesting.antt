-- The record over calls: events and open nodes keep within their slots and places, and the open nodes are the Begins that no End closes.
-- A pushed End closes the innermost; truncate cuts off what balances; pop is taken only where all is closed. Assumes nothing.
use Rattle.std.specs.Prelude.{ℕ, ◌+◌, ◌-◌, ◌≤◌, ◌<◌, ◌≡◌, true, List, [], ◌∷◌, ◌++◌, set, take, eqb, ltb}
use Rattle.std.proofs.Math.Path.{refl, sym}
use Rattle.std.proofs.Common.{ap, ◌∙◌, true≢false, arith, length-append, length-take, length-set}
use Rattle.std.proofs.Math.Bool.{false}
use Rattle.std.proofs.Math.ListN.{length}
use Rattle.std.proofs.Math.Dec.{leb}
use borrow.Author.Tests.{ltb-false, leb-false, eqb-true, eqb-false, not-false}
use Rattle.patterns.proofs.Bools.{by_test}
use Rattle.patterns.proofs.Lists.{empty}
use Rattle.refusals.specs.Calls.{after_all}
use Rattle.event_record.specs.declared.Span.{Span}
use Rattle.event_record.specs.declared.Event.{Event}
use Rattle.event_record.specs.Record.{Call, push_token, push_error, begin, end, end_with_error, bookmark, truncate, remove_bookmark, pop, refused, Record, span, event_of, begin_tag, end_tag, token_tag, error_tag, error_kind, opened, holding, marked, lasting, pushed, begun, cut, inner, inner_event, outer, ended, dropped, first_popped, spare, taken, grounds, answered}
use Rattle.event_record.specs.Unclosed.{nested, unclosed, nest, all_but_last, BeginAt}
use Rattle.event_record.proofs.Unclosed.{unclosed_cut, unclosed_rest, unclosed_more, unclosed_dropped, innermost_begins, nested_set}
use Rattle.event_view.specs.CallLaws.{Clear}
use Rattle.event_view.proofs.CallLaws.{either_way, always}
use Rattle.event_view.specs.Nesting.{Nested, Sized}
use Rattle.event_view.proofs.Sizes.{sized}

some : (n : ℕ) → eqb n 0 ≡ false → 0 < n
some n e = let d : ¬ (n ≡ 0) = eqb-false n 0 e in omega arith

pub opened_sized : (e d : ℕ) → Sized e d (opened e d)
opened_sized e d = record { slots_same = refl; places_same = refl; within = omega arith; nodes = omega arith }

module _ (e d : ℕ) (r : Record) (z : Sized e d r) where
  more_sized : (y : Event) (x : Span) → ltb (spare r) 1 ≡ false → Sized e d (pushed y (lasting x r))
  more_sized y x f =
      sized e d r z (pushed y (lasting x r)) refl refl
      (omega (arith, length-append r.events (y ∷ []), z.slots_same, ltb-false (spare r) 1 f)) z.nodes

  begun_sized : (k : ℕ) → leb r.places (length r.opens) ≡ false → ltb (spare r) 2 ≡ false → Sized e d (begun k r)
  begun_sized k f g =
      let y = event_of begin_tag k (span r.last.end.0 r.last.end.0) in
      let a : length (r.events ++ (y ∷ [])) ≡ length r.events + 1 = length-append r.events (y ∷ []) in
      let b : length (r.opens ++ (length r.events ∷ [])) ≡ length r.opens + 1 = length-append r.opens (length r.events ∷ []) in
      sized e d r z (begun k r) refl refl (omega (arith, z.slots_same, ltb-false (spare r) 2 g))
      (omega (arith, z.places_same, leb-false r.places (length r.opens) f))

  -- one node less
  outer_sized : (es : List Event) → 0 < length r.opens → length es ≤ length r.events + 1 → Sized e d (holding es (outer r) r)
  outer_sized es f h =
      let l : length (outer r) ≡ length r.opens - 1 = length-take (length r.opens - 1) r.opens ∙ omega arith in
      sized e d r z (holding es (outer r) r) refl refl (omega (arith, z.within)) (omega (arith, z.nodes))

  ended_sized : (k : ℕ) → 0 < length r.opens → Sized e d (ended k r)
  ended_sized k f =
      let x = span (inner_event r).span.start.0 r.last.end.0 in
      let es = set r.events (inner r) (event_of begin_tag k x) in
      outer_sized (es ++ (event_of end_tag k x ∷ [])) f
      (omega (arith, length-append es (event_of end_tag k x ∷ []), length-set r.events (inner r) (event_of begin_tag k x)))

  dropped_sized : 0 < length r.opens → Sized e d (dropped r)
  dropped_sized f =
      let n = length r.events - 1 in
      outer_sized (take n r.events) f (omega (arith, length-take n r.events))

  cut_sized : (p : ℕ) → Sized e d (cut p r)
  cut_sized p = sized e d r z (cut p r) refl refl (omega (arith, z.within, length-take p r.events)) z.nodes

  popped_sized : (es : List Event) → length es ≤ length r.events → Sized e d (first_popped es r).after
  popped_sized [] h = z
  popped_sized (y ∷ ys) h = sized e d r z (first_popped (y ∷ ys) r).after refl refl (omega (arith, z.within)) z.nodes

  pub taken_sized : (c : Call) → Clear (grounds c r) → Sized e d (taken c r).after
  unfolding taken grounds
  taken_sized (push_token k x) f = more_sized (event_of token_tag k x) x f.1.0
  taken_sized (push_error m x) f = more_sized (event_of error_tag m x) r.last f.1.0
  taken_sized (begin k) f = begun_sized k f.0 f.1.0
  taken_sized end f = ended_sized (inner_event r).kind (some _ f.0)
  taken_sized end_with_error f =
      let o = some (length r.opens) f.0 in
      by_test (eqb (inner r + 1) (length r.events)) (λ q. rw q (dropped_sized o)) (λ q. rw q (ended_sized error_kind o))
  taken_sized bookmark f = sized e d r z (marked (r.bookmarks + 1) r) refl refl z.within z.nodes
  taken_sized (truncate p) f = cut_sized p.0
  taken_sized (remove_bookmark p) f = sized e d r z (marked (r.bookmarks - 1) r) refl refl z.within z.nodes
  taken_sized pop f = popped_sized r.events (omega arith)

  pub answered_sized : (c : Call) → Sized e d (answered c r).after
  unfolding answered
  answered_sized c = either_way refused r (taken c r) (λ x. Sized e d x.after) (grounds c r) (λ n. z) (taken_sized c)

-- The nodes.
module _ (r : Record) (h : Nested r) where
  -- the innermost open node's Begin
  pub inner_begins : 0 < length r.opens → BeginAt r.events (inner r)
  inner_begins k = rw h (innermost_begins r.events (rw h at k))

  more_nested : (y : Event) → nest (length r.events) r.opens y ≡ unclosed (r.events ++ (y ∷ []))
  more_nested y = ap (λ (ps : List ℕ). nest (length r.events) ps y) h ∙ sym (unclosed_more r.events y)

  ended_nested : (k : ℕ) → 0 < length r.opens → Nested (ended k r)
  ended_nested k f =
      let x = span (inner_event r).span.start.0 r.last.end.0 in
      let y = event_of begin_tag k x in
      let s = nested_set 0 [] r.events (inner r) y (event_of 0 0 (span 0 0)) (sym (inner_begins f).1) in
      ap all_but_last (h ∙ sym s) ∙ sym (unclosed_more (set r.events (inner r) y) (event_of end_tag k x))

  dropped_nested : 0 < length r.opens → eqb (inner r + 1) (length r.events) ≡ true → Nested (dropped r)
  dropped_nested f q =
      let l : inner r + 1 ≡ length r.events = eqb-true (inner r + 1) (length r.events) q in
      let n : length r.events - 1 ≡ inner r = omega arith in
      ap all_but_last h ∙ sym (unclosed_dropped r.events (inner r) (inner_begins f) l) ∙ rw n

  popped_nested : (es : List Event) → length r.opens ≡ 0 → r.opens ≡ unclosed es → Nested (first_popped es r).after
  popped_nested [] n e = h
  popped_nested (y ∷ ys) n e = let z = empty r.opens n in z ∙ sym (unclosed_rest y ys (sym e ∙ z))

  pub taken_nested : (c : Call) → Clear (grounds c r) → Nested (taken c r).after
  unfolding taken grounds
  taken_nested (push_token k x) f = more_nested (event_of token_tag k x)
  taken_nested (push_error m x) f = more_nested (event_of error_tag m x)
  taken_nested (begin k) f = more_nested (event_of begin_tag k (span r.last.end.0 r.last.end.0))
  taken_nested end f = ended_nested (inner_event r).kind (some _ f.0)
  taken_nested end_with_error f =
      let o = some (length r.opens) f.0 in
      by_test (eqb (inner r + 1) (length r.events)) (λ q. rw q (dropped_nested o q)) (λ q. rw q (ended_nested error_kind o))
  taken_nested bookmark f = h
  taken_nested (truncate p) f = h ∙ sym (unclosed_cut p.0 r.events (not-false _ f.1.1.0))
  taken_nested (remove_bookmark p) f = h
  taken_nested pop f =
      let n = length r.opens in
      let k : leb 1 n ≡ false = by_test (leb 1 r.bookmarks) (λ e. absurd (true≢false (rw e at f).0)) (λ e. (rw e at f).0) in
      popped_nested r.events (omega (arith, leb-false 1 n k)) h

  pub answered_nested : (c : Call) → Nested (answered c r).after
  unfolding answered
  answered_nested c = either_way refused r (taken c r) (λ x. Nested x.after) (grounds c r) (λ n. h) (taken_nested c)

-- From opening, over any calls.
pub always_sized : (e d : ℕ) (cs : List Call) → Sized e d (after_all answered cs (opened e d))
always_sized e d cs = always answered (λ r. Sized e d r) (λ c r z. answered_sized e d r z c) cs (opened e d) (opened_sized e d)

pub always_nested : (e d : ℕ) (cs : List Call) → Nested (after_all answered cs (opened e d))
unfolding nested
always_nested e d cs = always answered Nested (λ c r h. answered_nested r h c) cs (opened e d) refl
