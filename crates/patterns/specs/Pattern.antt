-- A small pattern language over bytes: what a pattern is, which texts it matches, and how its longest match is computed.
-- Assumes nothing.
use Rattle.std.specs.Prelude.{ℕ, zero, suc, ◌≡◌, Bool, true, false, cond, ◌&&◌, ◌||◌, ◌⊎◌, List, [], ◌∷◌, ◌++◌, length, eqb, Option}
use Rattle.patterns.specs.declared.Char.{Char}
use Rattle.patterns.specs.declared.Lead.{Lead}
use Rattle.patterns.specs.declared.Lead.TheVariants.{Alone, More, Bad}
use Rattle.patterns.specs.Utf8.{Class, between, lead, join, finish, decode, whole}

-- A pattern. `byte` takes one byte of a class, `char` one well-formed character of a class, and `part` what is left of a character
-- once some of its bytes are read, as `finish` reads it.
pub data Pat : Type 0 where
  nothing empty : Pat
  byte char : Class → Pat
  part : Class → (low high k bits : ℕ) → Pat
  seq alt : Pat → Pat → Pat
  star : Pat → Pat

-- The plain meaning: which texts a pattern matches.

-- one byte of the class p
pub record OneByte (p : Class) (u : List ℕ) : Type 0 where
  pub value : ℕ
  pub read : u ≡ value ∷ []
  pub fits : p value ≡ true

-- one whole character of n bytes, of the class p
pub record OneChar (p : Class) (f : Option Char) (n : ℕ) : Type 0 where
  pub value : ℕ
  pub read : f ≡ whole value n
  pub fits : p value ≡ true

-- a text of P and then one of Q
pub record Split (P Q : List ℕ → Type 0) (u : List ℕ) : Type 0 where
  pub front : List ℕ
  pub back : List ℕ
  pub joined : u ≡ front ++ back
  pub first : P front
  pub second : Q back

-- a row of texts of P
pub data Many (P : List ℕ → Type 0) : List ℕ → Type 0 where
  done : {u : List ℕ} → u ≡ [] → Many P u
  again : {u : List ℕ} (s t : List ℕ) → u ≡ s ++ t → P s → Many P t → Many P u

abbrev pub Matches : Pat → List ℕ → Type 0
Matches nothing u = ⊥
Matches empty u = u ≡ []
Matches (byte p) u = OneByte p u
Matches (char p) u = OneChar p (decode u) (length u)
Matches (part p low high k bits) u = OneChar p (finish low high k bits u) (length u)
Matches (seq a r) u = Split (λ s. Matches a s) (λ t. Matches r t) u
Matches (alt a r) u = Matches a u ⊎ Matches r u
Matches (star a) u = Many (λ s. Matches a s) u

-- Patterns made of these.

abbrev pub literal : List ℕ → Pat
literal [] = empty
literal (b ∷ []) = byte (λ c. eqb c b)
literal (b ∷ c ∷ bs) = seq (byte (λ d. eqb d b)) (literal (c ∷ bs))

abbrev pub plus : Pat → Pat
plus r = seq r (star r)

abbrev pub optional : Pat → Pat
optional r = alt r empty

abbrev pub at_most_two : Pat → Pat
at_most_two r = optional (seq r (optional r))

-- `a` and then `r`, as `seq` has it, grouped to the right and with `nothing` and `empty` worked out
abbrev pub follow : Pat → Pat → Pat
follow nothing r = nothing
follow empty r = r
follow (byte p) r = seq (byte p) r
follow (char p) r = seq (char p) r
follow (part p low high k bits) r = seq (part p low high k bits) r
follow (seq a b) r = seq a (follow b r)
follow (alt a b) r = seq (alt a b) r
follow (star a) r = seq (star a) r

-- patterns one after the other
abbrev pub row : List Pat → Pat
row [] = empty
row (a ∷ []) = a
row (a ∷ b ∷ rs) = follow a (row (b ∷ rs))

-- The longest match, computed byte by byte: `deriv b r` is what is left of r after the byte b. (Longest.antt: this is right.)

abbrev pub nullable : Pat → Bool
nullable nothing = false
nullable empty = true
nullable (byte p) = false
nullable (char p) = false
nullable (part p low high k bits) = false
nullable (seq a r) = nullable a && nullable r
nullable (alt a r) = nullable a || nullable r
nullable (star a) = true

abbrev pub is_nothing : Pat → Bool
is_nothing nothing = true
is_nothing empty = false
is_nothing (byte p) = false
is_nothing (char p) = false
is_nothing (part p low high k bits) = false
is_nothing (seq a r) = false
is_nothing (alt a r) = false
is_nothing (star a) = false

-- `alt`, with `nothing` left out
abbrev pub either : Pat → Pat → Pat
either a r = cond (is_nothing a) r (cond (is_nothing r) a (alt a r))

abbrev pub if_in : Bool → Pat
if_in true = empty
if_in false = nothing

abbrev pub char_after : Class → ℕ → Lead → Pat
char_after p b Alone = if_in (p b)
char_after p b (More low high k bits) = part p low high k bits
char_after p b Bad = nothing

abbrev pub part_after : Bool → Class → ℕ → ℕ → Pat
part_after false p k bits = nothing
part_after true p zero bits = if_in (p bits)
part_after true p (suc k) bits = part p 0x80 0xBF k bits

unfoldable pub deriv : ℕ → Pat → Pat
unfolding lead
deriv b nothing = nothing
deriv b empty = nothing
deriv b (byte p) = if_in (p b)
deriv b (char p) = char_after p b (lead b)
deriv b (part p low high k bits) = part_after (between low high b) p k (join bits b)
deriv b (seq a r) = elim (nullable a) [ true ↦ either (follow (deriv b a) r) (deriv b r) | false ↦ follow (deriv b a) r ]
deriv b (alt a r) = either (deriv b a) (deriv b r)
deriv b (star a) = follow (deriv b a) (star a)

-- r is what is left of a pattern after k bytes, and `best` the end of its longest match among those
unfoldable pub walk : Pat → List ℕ → ℕ → ℕ → ℕ
unfolding deriv
walk r [] k best = cond (nullable r) k best
walk r (b ∷ bs) k best = walk (deriv b r) bs (suc k) (cond (nullable r) k best)

-- the length of the longest prefix that r matches, 0 where it matches none: no rule of a token matches the empty text
abbrev pub longest : Pat → List ℕ → ℕ
longest r s = walk r s 0 0
