-- What holds at each turn of the loop that measures some tokens' listing, in rest form: what is done, with what is left, is the whole.
-- Each turn moves one token from what is left to what is done. Assumes nothing.
use Rattle.std.specs.Prelude.{ℕ, ◌+◌, ◌≡◌, List, [], ◌∷◌, length}
use Rattle.std.proofs.Common.{ap, arith}
use Rattle.tokens.specs.declared.Token.{Token}
use Rattle.listing_text.specs.Listing.{line, lines, head, text}
use Rattle.listing_text.proofs.Numbers.{length_left, length_text}
use Rattle.listing_text.specs.Measuring.{Measured}

-- at first all are left
pub measured_start : {xs : List Token} → Measured xs 0 0 xs
measured_start = record { counted = omega arith; sized = omega arith }

-- one token more is done
pub measured_next : {left next : List Token} {x : Token} → left ≡ x ∷ next → {xs : List Token} {count bytes : ℕ} → Measured xs count bytes left
    → Measured xs (count + 1) (bytes + length (line x)) next
measured_next e m = record { counted = omega (arith, m.counted, ap length e); sized = omega (arith, m.sized, length_left e) }

-- none is left
pub measured_end : {xs left : List Token} → left ≡ [] → {count bytes n : ℕ} → Measured xs count bytes left → n ≡ length (head count) → n + bytes ≡ length (text xs)
unfolding lines
measured_end {xs} e {count} m h =
    let c : count ≡ length xs = omega (arith, m.counted, ap length e) in
    omega (arith, h, ap (λ n. length (head n)) c, length_text xs, m.sized, ap (λ l. length (lines l)) e)
