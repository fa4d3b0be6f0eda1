-- Two patterns with no text in common, by tests that are computed: byte by byte, as long as both are alive, they are never both done
-- (`apart`; `deriv_means` takes a byte off both); or one `needs` a byte that the other, `within` a class, never has. Assumes nothing.
use Rattle.std.specs.Prelude.{ℕ, zero, suc, ◌<◌, ◌≡◌, Bool, true, false, not, ◌&&◌, ◌||◌, List}
use Rattle.patterns.specs.Utf8.{Class}
use Rattle.patterns.specs.Pattern.{Pat, nothing, empty, byte, char, part, seq, alt, star, Matches, nullable, is_nothing, deriv}
use Rattle.patterns.specs.Lists.{All, each, members}

-- a text of bytes
abbrev pub Bytes : List ℕ → Type 0
Bytes = All (λ b. b < 256)

-- the bytes with which a text of a can begin
unfoldable pub live : Pat → List ℕ
unfolding deriv members
live a = members 256 (λ b. not (is_nothing (deriv b a)))

-- a test of every byte, and what it says of each
unfoldable pub each_byte : (ℕ → Bool) → Bool
unfolding members
each_byte f = each f (members 256 (λ b. true))

-- a and r are not both done, and after each of the bytes `firsts` the test f holds
abbrev pub parted : List ℕ → (ℕ → Bool) → Pat → Pat → Bool
parted firsts f a r = not (nullable a && nullable r) && each f firsts

-- a and r have no text in common, as far as n bytes tell
unfoldable pub apart : ℕ → Pat → Pat → Bool
unfolding live
apart zero a r = is_nothing r
apart (suc n) a r = elim (is_nothing r) [ true ↦ true | false ↦ parted (live a) (λ b. apart n (deriv b a) (deriv b r)) a r ]

-- no text of bytes is matched by both
abbrev pub Disjoint : Pat → Pat → Type 0
Disjoint a r = (u : List ℕ) → Bytes u → Matches a u → Matches r u → ⊥

-- Every byte of a text of r is in the class c: another such test, for patterns of bytes.
unfoldable pub within : Class → Pat → Bool
unfolding each_byte
within c nothing = true
within c empty = true
within c (byte p) = each_byte (λ b. not (p b) || c b)
within c (char p) = false
within c (part p low high k bits) = false
within c (seq a r) = within c a && within c r
within c (alt a r) = within c a && within c r
within c (star a) = within c a

abbrev pub Only : Class → List ℕ → Type 0
Only c = All (λ b. c b ≡ true)

-- Every text of r has a byte outside the class c.
unfoldable pub needs : Class → Pat → Bool
unfolding each_byte
needs c nothing = true
needs c empty = false
needs c (byte p) = each_byte (λ b. not (p b && c b))
needs c (char p) = false
needs c (part p low high k bits) = false
needs c (seq a r) = needs c a || needs c r
needs c (alt a r) = needs c a && needs c r
needs c (star a) = false
