-- UTF-8 reads what it writes, and nothing else: the encoding of each scalar value decodes to it, and whatever decodes is such an encoding.
-- Row by row, Table 3-7 allows just the first two bytes that Table 3-6 makes; each byte after them is six bits either way. Assumes nothing.
use Rattle.std.specs.Prelude.{ℕ, zero, suc, ◌+◌, ◌/◌, ◌≤◌, ◌<◌, ◌≡◌, ◌≢◌, List, [], ◌∷◌, length, take}
use Rattle.patterns.specs.declared.Lead.{Lead}
use Rattle.patterns.specs.declared.Lead.TheVariants.{Alone, More, Bad}
use Rattle.patterns.specs.Utf8.{Scalar, trail, encode}

-- v without its last k groups of six bits
abbrev pub shift : ℕ → ℕ → ℕ
shift zero v = v
shift (suc k) v = shift k v / 64

-- the last k + 1 bytes that v is written with
abbrev pub trails : ℕ → ℕ → List ℕ
trails zero v = trail v ∷ []
trails (suc k) v = trail (shift (suc k) v) ∷ trails k v

-- Table 3-6: a scalar value is written in k + 2 bytes, the first of them b, the first two with its bits x.
abbrev pub Begins : (k b x : ℕ) → Type 0
Begins zero b x = (b ≡ 0xC0 + x / 64) × (0x80 ≤ x) × (x < 0x800)
Begins (suc zero) b x = (b ≡ 0xE0 + x / 64) × (0x20 ≤ x) × (x < 0x400) × (x / 0x20 ≢ 0x1B)
Begins (suc (suc zero)) b x = (b ≡ 0xF0 + x / 64) × (0x10 ≤ x) × (x < 0x110)
Begins (suc (suc (suc k))) b x = ⊥

-- Table 3-7: l allows the second byte that makes the bits x, and then k more.
abbrev pub Allows : Lead → (k x : ℕ) → Type 0
Allows Alone k x = ⊥
Allows (More low high n bits) k x = (n ≡ k) × (x / 64 ≡ bits) × (low ≤ trail x) × (trail x ≤ high)
Allows Bad k x = ⊥

-- what l allows after b begins a scalar value
abbrev pub Sound : ℕ → Lead → Type 0
Sound b Alone = b < 0x80
Sound b (More low high k bits) = (0x80 ≤ low) × (high ≤ 0xBF) × ((x : ℕ) → Allows (More low high k bits) k x → Begins k b x)
Sound b Bad = Unit {0}

-- l is what the rows from the first byte t on say of b, and is right: it allows all that begins a scalar value, and nothing else.
pub record Right (t b : ℕ) (l : Lead) : Type 0 where
  pub sound : Sound b l
  pub complete : t ≤ b → (x : ℕ) → (Begins 0 b x → Allows l 0 x) × (Begins 1 b x → Allows l 1 x) × (Begins 2 b x → Allows l 2 x)

-- The first n bytes of s are the encoding of the scalar value v.
pub record Encoded (s : List ℕ) (v n : ℕ) : Type 0 where
  pub scalar : Scalar v
  pub bytes : take n s ≡ encode v
  pub size : n ≡ length (encode v)
