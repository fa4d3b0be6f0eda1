-- What the variant of a scan's answer says: with a token the reader goes on, and without one it is at the end, since a sound reader is
-- not refused. Assumes nothing.
use Rattle.std.proofs.Common.{ℕ, ◌≡◌, refl, ap, sym, ◌∙◌, List, Some, None, Ok, Err}
use Rattle.tokens.specs.declared.Token.{Token}
use Rattle.reader.specs.declared.Reader.{Reader}
use Rattle.reader.specs.Reading.{Scan, scan_of, scan_told}
use Rattle.reader.specs.Following.{Sound, Onward, Ends, Says}
use Rattle.reader.proofs.Following.{says}

module _ {src : List ℕ} {r : Reader} (h : Sound src r) where
  pub onward : {y : Scan} → scan_told y ≡ scan_of src r → {x : Token} {next : Reader} → y ≡ Ok (Some (x, next)) → Onward src r x next
  onward e {x} {next} q = says src r h (Ok (Some (x, next))) (ap scan_told (sym q) ∙ e)

  -- an answer that is none with a token
  pub at_end : (y : Scan) → scan_told y ≡ scan_of src r → ((x : Token) → (next : Reader) → y ≡ Ok (Some (x, next)) → ⊥) → Ends src r
  at_end y e k = go y (says src r h y e) k
    where
      go : (y : Scan) → Says src r (scan_told y) → ((x : Token) → (next : Reader) → y ≡ Ok (Some (x, next)) → ⊥) → Ends src r
      go (Ok None) s k = s
      go (Ok (Some (x, next))) s k = absurd (k x next refl)
      go (Err n) s k = absurd s
