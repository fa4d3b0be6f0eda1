-- The words behind `$`, `#`, `@` and `!`: a mark, and then a tail, which may be empty. One law for the four.
-- Assumes nothing.
use Rattle.std.specs.Prelude.{ℕ, ◌+◌, ◌-◌, ◌<◌, ◌≡◌, refl, true, false, List, [], ◌∷◌, length, get_or, drop, Some}
use Prim.Native.String.{String}
use Rattle.std.proofs.Common.{sym, ap, ◌∙◌, true≢false, arith}
use Rattle.patterns.specs.Utf8.{Class}
use Rattle.patterns.specs.Pattern.{longest}
use Rattle.tokens.specs.declared.Hit.{Hit}
use Rattle.tokens.specs.Unicode.{digits_16}
use Rattle.tokens.specs.Tokens.{ascii, rule, one_of, tail, pattern_word}
use Rattle.tokens.specs.Scan.{hit, better, best}
use Rattle.places.specs.Signs.{inside, matched}
use Rattle.rules.proofs.Better.{of_rule, better_first, matched_some}
use Rattle.rules.specs.First.{First}
use Rattle.rules.proofs.Words.{tail_after}
use Rattle.rules.specs.Marks.{Marked}

-- a byte of a class without 0 is one of the source
pub starts : {s : List ℕ} {at b : ℕ} (c : Class) → c 0 ≡ false → First s at b → c b ≡ true → (at < length s) × (c (get_or s at 0) ≡ true)
starts c z p e = (inside p.byte (λ q. true≢false (sym e ∙ ap c q ∙ z)), ap c (sym p.byte.is) ∙ e)

pub marked_hit : {k at e : ℕ} {s : List ℕ} {h : Hit} → h ≡ better (hit k (e - at)) (hit 0 0) → e ≡ at + 1 + longest (tail digits_16) (drop (at + 1) s) → Marked k s at h
marked_hit {k} {at} {e} {s} q r =
    let n : e - at ≡ 1 + longest (tail digits_16) (drop (at + 1) s) = omega arith in
    record { is = q ∙ ap (λ (n : ℕ). better (hit k n) (hit 0 0)) n }

-- there is one, since the mark is a byte of it
pub marked_some : {k at : ℕ} {s : List ℕ} {h : Hit} → Marked k s at h → Some h ≡ matched h
marked_some {k} {at} {s} {h} r =
    let n = 1 + longest (tail digits_16) (drop (at + 1) s) in
    let e : h ≡ hit k n = r.is ∙ better_first (hit k n) (hit 0 0) (omega arith) (omega arith) in
    matched_some h (rw e (omega arith))

-- the mark x stands at the place
pub pattern_hit : {s : List ℕ} {at b : ℕ} → First s at b → (k x : ℕ) (mark : String) → one_of (ascii mark) 0 ≡ false → one_of (ascii mark) x ≡ true → b ≡ x
    → {h : Hit} → Marked k s at h → h ≡ best (rule k (pattern_word mark digits_16) ∷ []) (drop at s)
pattern_hit {s} {at} p k x mark z c q {h} r =
    let w = starts (one_of (ascii mark)) z p (ap (one_of (ascii mark)) q ∙ c) in
    let e = at + 1 + longest (tail digits_16) (drop (at + 1) s) in
    let n : 1 + longest (tail digits_16) (drop (at + 1) s) ≡ e - at = omega arith in
    of_rule s at k (pattern_word mark digits_16) (r.is ∙ ap (λ (n : ℕ). better (hit k n) (hit 0 0)) n) (tail_after (one_of (ascii mark)) digits_16 s at e w.0 w.1 refl)
