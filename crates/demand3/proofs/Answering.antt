-- Once both have fetched, the window answers as the record, and leaves what stands for the record: its marks are the record's in order,
-- and a token from low on is read back from its slot. And the record stays good, since no call lowers low. Assumes nothing.
use Prim.Native.Nat.{ℕ, suc, ◌+◌, ◌≤◌}
use Rattle.std.specs.Prelude.{◌≡◌, List, ◌∷◌}
use Rattle.std.proofs.Math.Path.{refl}
use Rattle.std.proofs.Math.Bool.{true}
use Rattle.std.proofs.Common.{le_refl, add-one, arith, drop_of_length-le, drop-cons, ltb-true, ltb-false}
use Rattle.std.proofs.Math.ListN.{length}
use Rattle.std.proofs.Math.Dec.{ltb}
use Rattle.patterns.proofs.Bools.{by_test}
use Rattle.tokens.specs.declared.Mode.{Mode}
use Rattle.tokens.specs.declared.Mode.TheVariants.{HexPattern, HexJump}
use Rattle.tokens.specs.Scan.{token}
use Rattle.tokens.specs.declared.TokenIndex.{TokenIndex}
use Rattle.token_record.specs.Record.{Call, next_token, peek_token, has_more, bookmark, restore_bookmark, remove_bookmark, current_token_index, enter_hex_pattern_mode, enter_hex_jump_mode, Record, moved, marked, switched, look, more, bookmark_limit, member, without, least, answered}
use Rattle.token_room.specs.Room.{slots_in, nth}
use Rattle.window.specs.Window as of_window
use Rattle.bookmarks.specs.HeldLaws.{length_without, least_le}
use Rattle.token_room.specs.ReadBack.{read_back}
use Rattle.demand3.specs.Lowest.{Below}
use Rattle.demand3.proofs.Lowest.{below_without, below_member, least_from, least_member, least_without}
use Rattle.demand3.specs.Sorting.{sorted}
use Rattle.demand3.proofs.Sorting.{length_sorted, member_sorted, without_sorted}
use Rattle.demand3.specs.Standing.{state_of, reply_of, Good}
use Rattle.demand3.proofs.Standing.{marks_of}

module _ (src room : List ℕ) (r : Record) (g : Good src (slots_in (length room)) r) where
  look_of : (n : ℕ) → of_window.look n (state_of src room r) ≡ look n r
  look_of n =
      let i = r.current.0 + n in
      let k = length r.tokens in
      let h : k ≤ i + slots_in (length room) = omega (arith, g.room, least_le r.current.0 r.bookmarks) in
      by_test (ltb i k)
      (λ e. rw (e, drop-cons r.tokens i (token 0 0 0) (ltb-true i k e), read_back room i r.tokens (ltb-true i k e) h))
      (λ e. rw (e, drop_of_length-le r.tokens (ltb-false i k e)))

  pub answered_of : (c : Call) → of_window.answered c (state_of src room r) ≡ reply_of src room (answered c r)
  unfolding of_window.answered answered sorted
  answered_of next_token = rw (look_of 0, add-one) (by_test (more r) (λ e. rw e) (λ e. rw e))
  answered_of (peek_token n) = rw (look_of n)
  answered_of has_more = refl
  answered_of bookmark =
      let n : ltb (length (sorted r.bookmarks)) bookmark_limit ≡ ltb (length r.bookmarks) bookmark_limit = rw (length_sorted r.bookmarks) in
      rw (marks_of src room r, n)
      (by_test (ltb (length r.bookmarks) bookmark_limit) (λ e. rw e) (λ e. rw e))
  answered_of (restore_bookmark i) =
      rw (marks_of src room r, member_sorted i r.bookmarks) (by_test (member i r.bookmarks) (λ e. rw e) (λ e. rw e))
  answered_of (remove_bookmark i) =
      rw (marks_of src room r, member_sorted i r.bookmarks, without_sorted (length r.tokens) i r.bookmarks g.marks_low)
      (by_test (member i r.bookmarks) (λ e. rw e) (λ e. rw e))
  answered_of current_token_index = refl
  answered_of enter_hex_pattern_mode = refl
  answered_of enter_hex_jump_mode = refl

-- what the calls change of a good record
module _ (src : List ℕ) (w : ℕ) (r : Record) (g : Good src w r) where
  moved_good : (i : TokenIndex) → i.0 ≤ length r.tokens → least r.current.0 r.bookmarks ≤ i.0 → Good src w (moved i r)
  moved_good i h l =
      let k = least_from r.current.0 i.0 (least r.current.0 r.bookmarks) r.bookmarks (le_refl _) l in
      record {
        limit = g.limit;
        current_low = h;
        fetched_low = g.fetched_low;
        inside = g.inside;
        marks_low = g.marks_low;
        few = g.few;
        room = omega (arith, g.room, k);
      }

  marked_good : (l : List TokenIndex) → Below (length r.tokens) l → length l ≤ bookmark_limit
      → least r.current.0 r.bookmarks ≤ least r.current.0 l → Good src w (marked l r)
  marked_good l b n k =
      record {
        limit = g.limit;
        current_low = g.current_low;
        fetched_low = g.fetched_low;
        inside = g.inside;
        marks_low = b;
        few = n;
        room = omega (arith, g.room, k);
      }

  switched_good : (m : Mode) → Good src w (switched m r)
  switched_good m =
      record {
        limit = g.limit;
        current_low = g.current_low;
        fetched_low = g.fetched_low;
        inside = g.inside;
        marks_low = g.marks_low;
        few = g.few;
        room = g.room;
      }

  pub answered_good : (c : Call) → Good src w (answered c r).after
  unfolding answered least
  answered_good next_token =
      let h : least r.current.0 r.bookmarks ≤ suc r.current.0 = omega (arith, least_le r.current.0 r.bookmarks) in
      by_test (more r) (λ e. rw e (moved_good (nth (suc r.current.0)) (ltb-true r.current.0 (length r.tokens) e) h)) (λ e. rw e g)
  answered_good (peek_token n) = g
  answered_good has_more = g
  answered_good bookmark =
      let l = r.current ∷ r.bookmarks in
      let k = length r.bookmarks in
      let h : least r.current.0 r.bookmarks ≤ least r.current.0 l = omega (arith, least_le r.current.0 r.bookmarks) in
      by_test (ltb k bookmark_limit) (λ e. rw e (marked_good l (g.current_low, g.marks_low) (ltb-true k bookmark_limit e) h)) (λ e. rw e g)
  answered_good (restore_bookmark i) =
      let l = r.bookmarks in
      by_test (member i l)
      (λ e. rw e (moved_good i (below_member (length r.tokens) i l g.marks_low e) (least_member r.current.0 i l e))) (λ e. rw e g)
  answered_good (remove_bookmark i) =
      let l = r.bookmarks in
      let b : Below (length r.tokens) (without i l) = below_without (length r.tokens) i l g.marks_low in
      let h : member i l ≡ true → length (without i l) ≤ bookmark_limit = λ e. omega (arith, g.few, length_without i l e) in
      by_test (member i l) (λ e. rw e (marked_good (without i l) b (h e) (least_without r.current.0 i l))) (λ e. rw e g)
  answered_good current_token_index = g
  answered_good enter_hex_pattern_mode = switched_good HexPattern
  answered_good enter_hex_jump_mode = switched_good HexJump
