-- What holds at each turn of the loop that writes the lines of some tokens, in rest form: what is done, with what is left, is the whole.
-- Each turn moves one token from what is left to what is done. Assumes nothing.
use Rattle.std.specs.Prelude.{ℕ, ◌+◌, ◌≤◌, ◌≡◌, refl, List, [], ◌∷◌}
use Rattle.std.proofs.Math.Path.{sym, ap}
use Rattle.std.proofs.Common.{◌∙◌, add-zero, arith}
use Rattle.std.proofs.Math.ListN.{length}
use Rattle.tokens.specs.declared.Token.{Token}
use Rattle.listing_text.specs.Listing.{line, lines}
use Rattle.listing_text.specs.Put.{Wrote}
use Rattle.listing_text.proofs.Put.{put_nil, wrote_both}
use Rattle.listing_text.proofs.Numbers.{length_left}
use Rattle.listing_text.specs.Turns.{Writing}

-- at first all are left
pub writing_start : {xs : List Token} {at : ℕ} {out : List ℕ} → at + length (lines xs) ≤ length out → Writing xs at out 0 at out xs
writing_start h = record { counted = omega arith; same = refl; room = h; whole = λ after n f. f }

-- one token more is done
module _ {left next : List Token} {x : Token} (e : left ≡ x ∷ next) {xs : List Token} {at count behind : ℕ} {out₀ out : List ℕ} (w : Writing xs at out₀ count behind out left) where
  pub count_line : count + 1 ≤ length xs
  count_line = omega (arith, w.counted, ap length e)

  pub room_line : behind + length (line x) ≤ length out
  room_line = omega (arith, w.room, length_left e)

  pub writing_next : {n : ℕ} {after : List ℕ} → Wrote behind (line x) out after n → length after ≡ length out → Writing xs at out₀ (count + 1) n after next
  unfolding lines
  writing_next f s =
      record {
        counted = omega (arith, w.counted, ap length e);
        same = s ∙ w.same;
        room = omega (arith, w.room, f.behind, length_left e);
        whole = λ after n g. w.whole after n (rw e (wrote_both f g (omega (arith, w.room, length_left e))));
      }

-- none is left
module _ {xs left : List Token} (e : left ≡ []) {at count behind : ℕ} {out₀ out : List ℕ} (w : Writing xs at out₀ count behind out left) where
  pub count_end : count ≡ length xs
  count_end = omega (arith, w.counted, ap length e)

  pub writing_end : Wrote at (lines xs) out₀ out behind
  unfolding lines
  writing_end = w.whole out behind (rw e (record { bytes = sym (put_nil behind out (omega (arith, w.room))); behind = sym (add-zero behind) }))
