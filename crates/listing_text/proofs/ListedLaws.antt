-- The cases of what `list` answers, from what opening for a listing says; how much room is always enough; and that the contract
-- leaves no choice. Each is one look at the definition's tests. Assumes nothing.
use Rattle.std.specs.Prelude.{ℕ, ◌+◌, ◌≤◌, ◌≡◌, refl, Bool, cond, List, ◌++◌, take, drop, Result, Ok, Err}
use Rattle.std.proofs.Common.{ap, ◌∙◌, arith, length-append}
use Rattle.std.proofs.Math.Bool.{true, false}
use Rattle.std.proofs.Math.ListN.{length}
use Rattle.std.proofs.Math.Seq.{take-append_seam}
use Rattle.std.proofs.Math.Dec.{leb}
use Rattle.std.proofs.Common.{leb-true, le-leb}
use Rattle.patterns.specs.Determined.{Once}
use Rattle.patterns.proofs.Determined.{once}
use Rattle.refusals.specs.declared.Refusal.{Refusal}
use Rattle.refusals.specs.Calls.{Reply, reply}
use Rattle.refusals.specs.RefusalLaws.{read_back}
use Rattle.tokens.specs.declared.Mode.TheVariants.{Normal}
use Rattle.tokens.specs.Tokens.{tables_1}
use Rattle.tokens.specs.Scan.{tokens}
use Rattle.reader.specs.Reading.{source_limit, start}
use Rattle.reader.specs.Reading as reading
use Rattle.reader.specs.Following.{Sound, rest}
use Rattle.reader.proofs.Following.{start_sound}
use Rattle.listing_text.specs.Listing.{text}
use Rattle.listing_text.specs.Listed.{Answer, written, refused, at_front, listed, listed_told, outcome}
use Rattle.listing_text.specs.Put.{put, Wrote}
use Rattle.listing_text.proofs.Sizes.{text_fits}
use Rattle.listing_text.specs.Fitting.{fitting}
use Rattle.listing_text.specs.ListedLaws.{listed_read}

-- A text that fits and was put, and one that does not fit.
module _ (t out : List ℕ) where
  front_put : leb (length t) (length out) ≡ true → {after : List ℕ} {n : ℕ} → Wrote 0 t out after n → reply (written n) after ≡ at_front t out
  unfolding at_front
  front_put h {after} {n} w = let e : n ≡ length t = omega (arith, w.behind) in rw (h, w.bytes, e)

  front_none : leb (length t) (length out) ≡ false → reply (refused 15) out ≡ at_front t out
  unfolding at_front
  front_none h = rw h

-- an answer that is no refusal
not_refused : (t : Bool) (w : Reply Answer (List ℕ)) (r : ℕ) (out : List ℕ) {n : ℕ} {o : List ℕ} → reply (written n) o ≡ cond t w (reply (refused r) out)
    → reply (written n) o ≡ w
not_refused true w r out e = e
not_refused false w r out {n} e =
    let f : written n ≡ refused r = ap (λ (x : Reply Answer (List ℕ)). x.answer) e in
    let z : ◌≡◌ {A = ℕ} 0 1 = cc in
    absurd (omega arith)

front_text : (t out : List ℕ) {n : ℕ} {o : List ℕ} → reply (written n) o ≡ at_front t out → (n ≤ length o) × (take n o ≡ t)
unfolding at_front
front_text t out {n} {o} e =
    let w : reply (written n) o ≡ reply (written (length t)) (put 0 t out) = not_refused (leb (length t) (length out)) (reply (written (length t)) (put 0 t out)) 15 out e in
    let a : written n ≡ written (length t) = ap (λ (x : Reply Answer (List ℕ)). x.answer) w in
    let f : n ≡ length t = cc in
    let g : o ≡ t ++ drop (0 + length t) out = ap (λ (x : Reply Answer (List ℕ)). x.after) w in
    (omega (arith, ap length g, length-append t (drop (0 + length t) out)), rw (f, g) (take-append_seam t (drop (0 + length t) out)))

module _ (src out : List ℕ) where
  -- What opening for a listing says: a reader from which all tokens are left, and whose text has room; or the refusal.
  abbrev pub Fits : reading.Answer → Type 0
  Fits (reading.ready r) =
      Sound src r × (length (text (rest src r)) ≤ length out) × ((after : List ℕ) (n : ℕ) → Wrote 0 (text (rest src r)) out after n → reply (written n) after ≡ listed src out)
  Fits reading.end = ⊥
  Fits (reading.found x r) = ⊥
  Fits (reading.refused n) = reply (refused n) out ≡ listed src out

  pub fits : (y : reading.Answer) → y ≡ fitting src (length out) → Fits y
  unfolding listed
  fits y e = rw e (go (leb (length src) source_limit) refl)
    where
      within : leb (length src) source_limit ≡ true → (t : Bool) → leb (length (text (rest src start))) (length out) ≡ t → Fits (cond t (reading.ready start) (reading.refused 15))
      within q true h =
          let w : at_front (text (rest src start)) out ≡ listed src out = rw q in (
            start_sound (leb-true (length src) source_limit q),
            leb-true (length (text (rest src start))) (length out) h,
            λ after n f. front_put (text (rest src start)) out h f ∙ w,
          )
      within q false h = let w : at_front (text (rest src start)) out ≡ listed src out = rw q in front_none (text (rest src start)) out h ∙ w

      go : (t : Bool) → leb (length src) source_limit ≡ t
          → Fits (cond t (cond (leb (length (text (rest src start))) (length out)) (reading.ready start) (reading.refused 15)) (reading.refused 1))
      go true q = within q (leb (length (text (rest src start))) (length out)) refl
      go false q = rw q

  -- 983,038 bytes are room for every listing
  pub listed_fits : length src ≤ source_limit → 983038 ≤ length out
      → listed src out ≡ reply (written (length (text (tokens tables_1 Normal src)))) (put 0 (text (tokens tables_1 Normal src)) out)
  unfolding listed
  listed_fits l h =
      let e : length (text (tokens tables_1 Normal src)) ≤ length out = omega (arith, text_fits src start (start_sound l)) in
      rw (le-leb (length src) source_limit l, le-leb (length (text (tokens tables_1 Normal src))) (length out) e)

  -- what is answered to be written stands at the front
  pub listed_written : {n : ℕ} {o : List ℕ} → reply (written n) o ≡ listed src out → (n ≤ length o) × (take n o ≡ text (tokens tables_1 Normal src))
  unfolding listed
  listed_written {n} {o} e =
      front_text (text (tokens tables_1 Normal src)) out (not_refused (leb (length src) source_limit) (at_front (text (tokens tables_1 Normal src)) out) 1 out e)

listed_same : (g : Result ℕ Refusal) → listed_read (listed_told g) ≡ g
listed_same (Ok n) = refl
listed_same (Err x) = ap (λ (y : Refusal). Err y) (read_back x)

pub listed_once : Once (λ (p : Result ℕ Refusal × List ℕ). outcome p.0 p.1)
listed_once = once _ (λ r. (listed_read r.answer, r.after)) (λ p. ap (λ (g : Result ℕ Refusal). (g, p.1)) (listed_same p.0))
