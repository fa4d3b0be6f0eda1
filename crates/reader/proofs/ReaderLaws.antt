-- The cases of opening a reader: ready or refused. Those of a scan: refused, or the definition's scan, which is at the end or finds a
-- token; the tests of 24 come first. And no two answers are told alike, so that the promises leave no choice. Assumes nothing.
use Rattle.std.specs.Prelude.{ℕ, ◌≤◌, ◌<◌, ◌≡◌, refl, List, length, leb, Option, Some, None, Result, Ok, Err}
use Rattle.std.proofs.Common.{sym, ap, ◌∙◌, arith, leb-true, leb-false, le-leb}
use Rattle.std.proofs.lemmas.Bool.{lt-leb}
use Rattle.patterns.proofs.Bools.{by_test}
use Rattle.patterns.specs.Determined.{Once}
use Rattle.patterns.proofs.Determined.{once}
use Rattle.refusals.specs.declared.Refusal.{Refusal}
use Rattle.refusals.specs.RefusalLaws.{read_back}
use Rattle.tokens.specs.declared.Token.{Token}
use Rattle.tokens.specs.Tokens.{tables_1}
use Rattle.tokens.specs.Scan.{scan}
use Rattle.tokens.proofs.ScanLaws.{scan_end}
use Rattle.reader.specs.declared.Reader.{Reader}
use Rattle.reader.specs.Reading.{source_limit, ready, end, refused, start, open_of, moved, scan_of, opened_told, Scan, scan_told, advanced, entered}
use Rattle.reader.specs.ReaderLaws.{opened_read, scan_read, advanced_read}

module _ (s : List ℕ) where
  -- ready: within the limit, at the start
  pub opened_ready : {r : Reader} → ready r ≡ open_of s → (length s ≤ source_limit) × (r ≡ start)
  opened_ready {r} e =
      by_test (leb (length s) source_limit)
      (λ p. let q = rw p at e in let k : r ≡ start = cc in (leb-true _ _ p, k))
      (λ p. let q = rw p at e in let z : ◌≡◌ {A = ℕ} 0 1 = cc in absurd (omega arith))

  -- refused: over the limit, by 1
  pub opened_refused : {n : ℕ} → refused n ≡ open_of s → (source_limit < length s) × (n ≡ 1)
  opened_refused {n} e =
      by_test (leb (length s) source_limit)
      (λ p. let q = rw p at e in let z : ◌≡◌ {A = ℕ} 0 1 = cc in absurd (omega arith))
      (λ p. let q = rw p at e in let k : n ≡ 1 = cc in (leb-false _ _ p, k))

module _ (s : List ℕ) (r : Reader) where
  pub too_long : source_limit < length s → refused 24 ≡ scan_of s r
  too_long h = rw (lt-leb (length s) source_limit h)

  module _ (l : length s ≤ source_limit) where
    pub past_source : length s < r.place.0 → refused 24 ≡ scan_of s r
    past_source h = rw (le-leb (length s) source_limit l, lt-leb r.place.0 (length s) h)

    -- the definition's scan is the answer
    pub within : r.place.0 ≤ length s → moved (scan tables_1 s r.place.0 r.mode) ≡ scan_of s r
    within h = rw (le-leb (length s) source_limit l, le-leb r.place.0 (length s) h)

    pub at_end : length s ≡ r.place.0 → end ≡ scan_of s r
    at_end e = ap moved (sym ((scan_end tables_1 s r.place.0 r.mode).1 (omega arith))) ∙ within (omega arith)

-- A switch to the mode already in force does nothing.
pub entered_same : (r : Reader) → entered r.mode r ≡ r
entered_same r = refl

opened_same : (y : Result Reader Refusal) → opened_read (opened_told y) ≡ y
opened_same (Ok r) = refl
opened_same (Err n) = ap (λ x. Err x) (read_back n)

pub opened_once : Once opened_told
opened_once = once opened_told opened_read opened_same

pub scan_same : (y : Scan) → scan_read (scan_told y) ≡ y
scan_same (Ok None) = refl
scan_same (Ok (Some (x, r))) = refl
scan_same (Err n) = ap (λ q. Err q) (read_back n)

pub scan_once : Once scan_told
scan_once = once scan_told scan_read scan_same

-- Without a token the reader is the one before, as an advance promises.
pub advanced_same : (before : Reader) (o : Option Token) (q : Reader) → (o ≡ None → q ≡ before) → ◌≡◌ {A = Option Token × Reader} (advanced_read before (advanced o q)) (o, q)
advanced_same before None q h = ap (λ r. (None, r)) (sym (h refl))
advanced_same before (Some x) q h = refl

pub advanced_once : (before : Reader) {o p : Option Token} {q r : Reader} → (o ≡ None → q ≡ before) → (p ≡ None → r ≡ before) → advanced o q ≡ advanced p r → ◌≡◌ {A = Option Token × Reader} (o, q) (p, r)
advanced_once before h k e = sym (advanced_same before _ _ h) ∙ ap (advanced_read before) e ∙ advanced_same before _ _ k
