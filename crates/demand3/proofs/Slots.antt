-- The record with so many slots: it refuses by 2 exactly where a call would outnumber them, since no call of the record itself answers
-- so; and what does not outnumber some slots does not outnumber more. Assumes nothing.
use Rattle.std.specs.Prelude.{ℕ, ◌+◌, ◌≤◌, ◌≡◌, Bool, ◌&&◌, ◌↔◌, List, [], ◌∷◌, length, drop, leb}
use Rattle.std.proofs.Math.Path.{refl}
use Rattle.std.proofs.Math.Bool.{true, false}
use Rattle.std.proofs.Common.{le_trans, arith}
use Rattle.std.proofs.Math.Dec.{ltb}
use borrow.Author.Tests.{ltb-false, le-ltb}
use Rattle.patterns.proofs.Bools.{by_test}
use Rattle.tokens.specs.declared.Token.{Token}
use Rattle.token_record.specs.Record.{Call, next_token, peek_token, has_more, bookmark, restore_bookmark, remove_bookmark, current_token_index, enter_hex_pattern_mode, enter_hex_jump_mode, refused, Record, wants, fetch, first, bookmark_limit, member, answered, whole, kept, outnumbers, bounded}
use Rattle.demand3.specs.Refused.{Refusal}
use Rattle.demand3.proofs.Refused.{refusal}

first_given : (xs : List Token) → Refusal 2 (first xs) → ⊥
first_given [] h = h
first_given (x ∷ xs) h = h

never_2 : (c : Call) (r : Record) → Refusal 2 (answered c r).answer → ⊥
unfolding answered
never_2 next_token r h = first_given (drop (r.current.0 + 0) r.tokens) h
never_2 (peek_token n) r h = first_given (drop (r.current.0 + n) r.tokens) h
never_2 has_more r h = h
never_2 bookmark r h =
    by_test (ltb (length r.bookmarks) bookmark_limit) (λ e. rw e at h) (λ e. let z : 3 ≡ 2 = rw e at h in omega arith)
never_2 (restore_bookmark i) r h = by_test (member i r.bookmarks) (λ e. rw e at h) (λ e. let z : 4 ≡ 2 = rw e at h in omega arith)
never_2 (remove_bookmark i) r h = by_test (member i r.bookmarks) (λ e. rw e at h) (λ e. let z : 4 ≡ 2 = rw e at h in omega arith)
never_2 current_token_index r h = h
never_2 enter_hex_pattern_mode r h = h
never_2 enter_hex_jump_mode r h = h

module _ (w : ℕ) (src : List ℕ) (c : Call) (r : Record) where
  pub refused_where : ((bounded w src c r).answer ≡ refused 2) ↔ (outnumbers w src c r ≡ true)
  unfolding bounded whole
  refused_where = (
    λ e. by_test (outnumbers w src c r) (λ o. o) (λ o. absurd (never_2 c (fetch src (wants c) r) (refusal (rw o at e)))),
    λ o. rw o,
  )

  pub more_slots : (w' : ℕ) → w ≤ w' → outnumbers w src c r ≡ false → outnumbers w' src c r ≡ false
  unfolding outnumbers
  more_slots w' h = go (leb 1 (wants c)) (kept (fetch src (wants c) r))
    where
      go : (b : Bool) (k : ℕ) → (b && ltb w k) ≡ false → (b && ltb w' k) ≡ false
      go true k o = le-ltb w' k (le_trans (ltb-false w k o) h)
      go false k o = refl
