-- UTF-8 reads what it writes, and nothing else: the encoding of each scalar value decodes to it, and whatever decodes is such an encoding.
-- Row by row, Table 3-7 allows just the first two bytes that Table 3-6 makes; each byte after them is six bits either way. Assumes nothing.
use Rattle.std.specs.Prelude.{ℕ, zero, suc, ◌+◌, ◌/◌, ◌≤◌, ◌<◌, max, ◌≡◌, refl, Bool, true, false, cond, ◌&&◌, ◌≢◌, List, [], ◌∷◌, ◌++◌, length, take, leb, ltb, Option, Some, None}
use Rattle.std.proofs.Common.{sym, ap, ◌∙◌, inl, inr, arith, length-take, lt-ltb, le-ltb, ltb-true, ltb-false, le-leb, leb-true, leb-false}
use Rattle.std.proofs.lemmas.Option.{none-some, same_Some}
use Rattle.patterns.specs.declared.Char.{Char}
use Rattle.patterns.specs.declared.Lead.{Lead}
use Rattle.patterns.specs.declared.Lead.TheVariants.{Alone, More, Bad}
use Rattle.patterns.specs.Utf8.{between, lead, join, longer, finish, after_lead, decode, Scalar, trail, encode, whole}
use Rattle.patterns.proofs.Bools.{and_first, and_second, by_test}
use Rattle.patterns.specs.Utf8Laws.{Allows, Begins, Encoded, Right, Sound, shift, trails}

-- one row, and those below it; as nothing begins with 80..C1, they count from C2
row : {low high b : ℕ} {x y : Lead}
    → (low ≤ b → b ≤ high → Right (max 0xC2 low) b x) → Right (max 0xC2 (suc high)) b y → Right (max 0xC2 low) b (cond (between low high b) x y)
row {low} {high} {b} {x} {y} here below = go (leb low b) (leb b high) refl refl
  where
    go : (s t : Bool) → leb low b ≡ s → leb b high ≡ t → Right (max 0xC2 low) b (cond (s && t) x y)
    go true true p q = here (leb-true low b p) (leb-true b high q)
    go true false p q = record { sound = below.sound; complete = λ h. below.complete (omega (arith, leb-false b high q)) }
    go false t p q = record { sound = below.sound; complete = λ h. absurd (omega (arith, leb-false low b p)) }

-- the rows of one and two bytes, of three, of four
table : (b : ℕ) → Right 0xC2 b (lead b)
unfolding lead
table b =
    row (omega arith) (row (omega arith)
    (row (omega arith) (row (omega arith) (row (omega arith) (row (omega arith)
    (row (omega arith) (row (omega arith) (row (omega arith) (omega arith)))))))))

allowed : (k b x : ℕ) → Begins k b x → Allows (lead b) k x
allowed zero b x p = ((table b).complete (omega arith) x).0 p
allowed (suc zero) b x p = ((table b).complete (omega arith) x).1 p
allowed (suc (suc zero)) b x p = ((table b).complete (omega arith) x).2 p
allowed (suc (suc (suc k))) b x p = absurd p

-- the bytes after the first are read as they are written
finishes : (low high k bits v : ℕ) (s : List ℕ) → Allows (More low high k bits) k (shift k v)
    → finish low high k bits (trails k v ++ s) ≡ whole v (length (trails k v))
unfolding finish
finishes low high zero bits v s p = let (_, _, l, h) = p in simp le-leb (ap (λ (w : ℕ). whole w 1) (omega arith))
finishes low high (suc k) bits v s p = let (_, _, l, h) = p in simp le-leb (ap longer (finishes 0x80 0xBF k _ v s (omega arith)))

-- what is broken is no character
pub never : {A : Type 0} {v n : ℕ} → None ≡ whole v n → A
never e = absurd (none-some _ e)

-- one character has one value and one length
pub parts : {v n w m : ℕ} → whole v n ≡ whole w m → (v ≡ w) × (n ≡ m)
parts e = let same = same_Some _ _ e in (ap (λ (c : Char). c.value) same, ap (λ (c : Char). c.len) same)

-- what a test lets through is in its range
passed : (low high b : ℕ) {v n : ℕ} {f : Option Char} → cond (between low high b) f None ≡ whole v n → (low ≤ b) × (b ≤ high) × (f ≡ whole v n)
passed low high b e =
    by_test (between low high b) (λ t. (search (leb-true, and_first), search (leb-true, and_second), rw t at e)) (λ t. never (rw t at e))

-- a character with a byte before it was one of a byte less
pub shorter : (f : Option Char) {v n : ℕ} → longer f ≡ whole v n → (m : ℕ) × (f ≡ whole v m) × (n ≡ suc m)
shorter (Some c) e = let p = parts e in (c.len, ap (λ (w : ℕ). whole w c.len) p.0, sym p.1)
shorter None e = never e

-- and are written as they are read
finished : (low high k bits : ℕ) (s : List ℕ) (v n : ℕ) → 0x80 ≤ low → high ≤ 0xBF → finish low high k bits s ≡ whole v n
    → Allows (More low high k bits) k (shift k v) × (take n s ≡ trails k v) × (n ≡ length (trails k v))
unfolding finish
finished low high k bits [] v n h i e = never e
finished low high zero bits (b ∷ bs) v n h i e =
    let p = passed low high b e in
    let (value, size) = parts p.2 in
    (omega arith, rw (← size) (ap (◌∷ []) (omega arith)), sym size)
finished low high (suc k) bits (b ∷ bs) v n h i e =
    let p = passed low high b e in
    let f = shorter (finish 0x80 0xBF k (join bits b) bs) p.2 in
    let r = finished 0x80 0xBF k (join bits b) bs v f.0 (omega arith) (omega arith) f.1 in
    let same : b ≡ trail (shift (suc k) v) = omega arith in
    (omega arith, rw (f.2, ← same) (ap (b ∷◌) r.1), f.2 ∙ ap suc r.2)

by_less : {A : Type 0} (v n : ℕ) → (v < n → A) → (n ≤ v → A) → A
by_less v n f g = by_test (ltb v n) (λ e. f (ltb-true v n e)) (λ e. g (ltb-false v n e))

-- a scalar value in the terms of `omega`: v is a surrogate, D800..DFFF, if v / 800 is 1B
plain : (v : ℕ) → Scalar v → (v / 0x800 ≢ 0x1B) × (v < 0x110000)
plain v (inl h) = omega arith
plain v (inr h) = omega arith

-- what begins as Table 3-6 has it is a scalar value, and is written so
written : (k b v : ℕ) → Begins k b (shift k v) → Scalar v × (encode v ≡ b ∷ trails k v)
written zero b v p = (inl (omega arith), rw (le-ltb v 0x80 (omega arith), lt-ltb v 0x800 (omega arith), p.0))
written (suc zero) b v p =
    (by_less v 0xD800 inl (λ h. inr (omega arith)), rw (le-ltb v 0x80 (omega arith), le-ltb v 0x800 (omega arith), lt-ltb v 0x10000 (omega arith), p.0))
written (suc (suc zero)) b v p = (inr (omega arith), rw (le-ltb v 0x80 (omega arith), le-ltb v 0x800 (omega arith), le-ltb v 0x10000 (omega arith), p.0))
written (suc (suc (suc k))) b v p = absurd p

-- every scalar value's encoding decodes to it, whatever follows
pub read_back : (v : ℕ) (s : List ℕ) → Scalar v → decode (encode v ++ s) ≡ whole v (length (encode v))
unfolding decode
read_back v s h =
    let p = plain v h in
    by_less v 0x80 (λ q. rw (lt-ltb v 0x80 q, le-leb 0 v (omega arith), le-leb v 0x7F (omega arith)))
    (λ q. by_less v 0x800 (λ r. many 0 (0xC0 + v / 64) (omega arith))
    (λ r. by_less v 0x10000 (λ t. many 1 (0xE0 + v / 64 / 64) (omega arith)) (λ t. many 2 (0xF0 + v / 64 / 64 / 64) (omega arith))))
  where
    go : (k b : ℕ) (l : Lead) → Allows l k (shift k v) → after_lead b l (trails k v ++ s) ≡ whole v (suc (length (trails k v)))
    go k b Alone t = absurd t
    go k b (More low high n bits) t = rw t.0 (ap longer (finishes low high k bits v s (omega arith)))
    go k b Bad t = absurd t

    many : (k b : ℕ) → Begins k b (shift k v) → decode (encode v ++ s) ≡ whole v (length (encode v))
    many k b p = rw (written k b v p).1 (go k b (lead b) (allowed k b (shift k v) p))

-- whatever decodes is the encoding of a scalar value
pub decoded : (s : List ℕ) (v n : ℕ) → decode s ≡ whole v n → Encoded s v n
unfolding decode
decoded [] v n e = never e
decoded (b ∷ bs) v n e = go (lead b) (table b).sound e
  where
    go : (l : Lead) → Sound b l → after_lead b l bs ≡ whole v n → Encoded (b ∷ bs) v n
    go Alone h e =
        let (value, size) = parts e in
        record { scalar = inl (omega arith); bytes = rw (← size, value, lt-ltb v 0x80 (omega arith)); size = rw (← size, lt-ltb v 0x80 (omega arith)) }
    go (More low high k bits) h e =
        let f = shorter (finish low high k bits bs) e in
        let r = finished low high k bits bs v f.0 h.0 h.1 f.1 in
        let w = written k b v (h.2 (shift k v) r.0) in
        record { scalar = w.0; bytes = rw (f.2, w.1) (ap (b ∷◌) r.1); size = rw w.1 (f.2 ∙ ap suc r.2) }
    go Bad h e = never e

-- so it is at least one byte, and no more than there are
pub decoded_size : (s : List ℕ) (v n : ℕ) → decode s ≡ whole v n → (1 ≤ n) × (n ≤ length s)
unfolding decode
decoded_size s v zero e = let d = decoded s v zero e in never (rw (← d.bytes) at (read_back v [] d.scalar))
decoded_size s v (suc n) e = let d = decoded s v (suc n) e in omega (arith, ap length d.bytes, length-take (suc n) s)
