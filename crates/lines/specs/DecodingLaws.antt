-- Decoding, pair by pair: what was decoded stands before the place, and the rest from there on decodes as it did.
-- By one look at the front of the rest for each pair. Assumes nothing.
use Rattle.std.specs.Prelude.{ℕ, zero, suc, ◌+◌, ◌-◌, ◌*◌, ◌≤◌, ◌<◌, ◌≡◌, refl, Some, None, List, [], ◌∷◌, ◌++◌, length, set, take, drop}
use Rattle.std.proofs.Common.{sym, ap, ◌∙◌, append_assoc, append-nil, arith, add-one, length-set, take-append-drop, drop-drop, drop-set-lt, take-suc-set, length-take-le}
use Rattle.std.proofs.Math.Nat.{sub-zero}
use Rattle.lines.specs.Hex.{pair, decoded, Decodes}

-- the rest's first byte, and its end
decoded_more : (n : ℕ) (xs : List ℕ) (v : ℕ) → Some v ≡ pair xs → decoded (suc n) xs ≡ v ∷ decoded n (drop 2 xs)
unfolding decoded
decoded_more n xs v h = rw (← h)

decoded_none : (n : ℕ) (xs : List ℕ) → None ≡ pair xs → decoded n xs ≡ []
unfolding decoded
decoded_none zero xs h = refl
decoded_none (suc n) xs h = rw (← h)

decoded_full : (n : ℕ) (xs : List ℕ) → n ≡ 0 → decoded n xs ≡ []
unfolding decoded
decoded_full n xs e = rw e

-- So many bytes were decoded, from the place on up to another, into the front of a room that was `room`.
pub record Decoding (text : List ℕ) (from : ℕ) (room out : List ℕ) (len end : ℕ) : Type 0 where
  pub so_far : decoded (length room) (drop from text) ≡ take len out ++ decoded (length room - len) (drop end text)
  pub placed : end ≡ from + 2 * len
  pub same : length out ≡ length room
  pub behind : drop len out ≡ drop len room
  pub within : len ≤ length room

pub decoding_start : (text : List ℕ) (from : ℕ) (room : List ℕ) → Decoding text from room room 0 from
decoding_start text from room =
    record { so_far = rw (sub-zero (length room)); placed = omega arith; same = refl; behind = refl; within = omega arith }

module _ {text : List ℕ} {from : ℕ} {room out : List ℕ} {len end : ℕ} (d : Decoding text from room out len end) where
  pub decoding_on : (v : ℕ) → Some v ≡ pair (drop end text) → len < length out → Decoding text from room (set out len v) (len + 1) (end + 2)
  decoding_on v e l =
      let k : length room - len ≡ suc (length room - (len + 1)) = omega (arith, d.same) in
      let front : take (len + 1) (set out len v) ≡ take len out ++ (v ∷ []) = rw add-one (take-suc-set out len v l) in
      let rest = decoded (length room - (len + 1)) (drop (end + 2) text) in
      let next : decoded (length room - len) (drop end text) ≡ v ∷ rest =
      ap (λ (n : ℕ). decoded n (drop end text)) k
      ∙ decoded_more (length room - (len + 1)) (drop end text) v e
      ∙ ap (λ (xs : List ℕ). v ∷ decoded (length room - (len + 1)) xs) (drop-drop 2 end text) in
      record {
        so_far =
            d.so_far ∙ ap (λ (xs : List ℕ). take len out ++ xs) next
            ∙ sym (append_assoc (take len out) (v ∷ []) rest)
            ∙ ap (λ (xs : List ℕ). xs ++ rest) (sym front);
        placed = omega (arith, d.placed);
        same = length-set out len v ∙ d.same;
        behind =
            drop-set-lt (len + 1) out len v (omega arith) ∙ sym (drop-drop 1 len out)
            ∙ ap (λ (xs : List ℕ). drop 1 xs) d.behind ∙ drop-drop 1 len room;
        within = omega (arith, d.same);
      }

  ends : decoded (length room - len) (drop end text) ≡ [] → Decodes text from room out len end
  ends e =
      let all : decoded (length room) (drop from text) ≡ take len out =
      d.so_far ∙ ap (λ (xs : List ℕ). take len out ++ xs) e ∙ append-nil (take len out) in
      let l : length (decoded (length room) (drop from text)) ≡ len =
      ap length all ∙ length-take-le len out (omega (arith, d.same, d.within)) in
      record {
        counted = sym l;
        ended = omega (arith, l, d.placed);
        filled =
            sym (take-append-drop len out) ∙ ap (λ (xs : List ℕ). take len out ++ xs) d.behind
            ∙ ap (λ (xs : List ℕ). xs ++ drop len room) (sym all)
            ∙ ap (λ (n : ℕ). decoded (length room) (drop from text) ++ drop n room) (sym l);
      }

  pub decoding_stops : None ≡ pair (drop end text) → Decodes text from room out len end
  decoding_stops e = ends (decoded_none (length room - len) (drop end text) e)

  pub decoding_over : length out ≤ len → Decodes text from room out len end
  decoding_over h = ends (decoded_full (length room - len) (drop end text) (omega (arith, d.same)))
