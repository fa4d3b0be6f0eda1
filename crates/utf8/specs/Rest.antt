-- A character read byte by byte, and the bounds within which its numbers stay. Each law is one line of `decode` or `finish`, read at a
-- place; that every first byte asks for a rest within the bounds is computed. Assumes nothing.
use Prim.Native.Nat.{ℕ, zero, suc, ◌+◌, ◌-◌, ◌/◌, ◌≤◌, ◌<◌}
use Rattle.std.specs.Prelude.{◌≡◌, refl, Bool, true, cond, ◌&&◌, List, [], ◌∷◌, length, get_or, leb, ltb, Option, Some, None}
use Rattle.std.proofs.Common.{sym, ap, ◌∙◌, add-one, arith, drop_of_length-le}
use Rattle.std.specs.Option.{MatchOption, IsSomeAnd}
use Rattle.std.proofs.Math.Bool.{false}
use Rattle.std.proofs.Math.ListN.{drop}
use Rattle.std.proofs.Math.Seq.{drop-cons}
use borrow.Author.Tests.{le-leb, leb-true, ltb-true}
use Rattle.patterns.specs.declared.Char.{Char}
use Rattle.patterns.specs.declared.Lead.{Lead}
use Rattle.patterns.specs.declared.Lead.TheVariants.{Alone, More, Bad}
use Rattle.patterns.specs.Utf8.{between, lead, join, longer, finish, after_lead, decode, whole}
use Rattle.patterns.proofs.Bools.{and_first, and_second, by_test}
use Rattle.patterns.specs.Apart.{each_byte}
use Rattle.patterns.proofs.Apart.{at_byte}

-- how many bytes a character has
abbrev pub size : Option Char → ℕ
size (Some c) = c.len
size None = 0

-- bits below this leave room for those of k + 1 bytes more in 32 bits
abbrev pub room : ℕ → ℕ
room zero = 0x4000000
room (suc k) = room k / 64

-- what is left to read of a character
pub record Bounded (low high k bits : ℕ) : Type 0 where
  pub least : 0x80 ≤ low
  pub most : high ≤ 0xBF
  pub few : k ≤ 2
  pub small : bits < room k

room_le : (k : ℕ) → room k ≤ 0x4000000
room_le zero = omega arith
room_le (suc k) = omega (arith, room_le k)

pub bits_small : {low high k bits : ℕ} → Bounded low high k bits → bits < 0x4000000
bits_small {k = k} r = omega (arith, room_le k)

-- a byte read
pub join_bounded : {low high k bits b : ℕ} → Bounded low high k bits → b ≤ high → (k ≡ 0 → ⊥) → Bounded 0x80 0xBF (k - 1) (join bits b)
join_bounded {k = zero} r h z = absurd (z refl)
join_bounded {k = suc k} r h z = let e : suc k - 1 ≡ k = omega arith in rw e (omega (arith, r))

-- the first byte read
abbrev bounded : Lead → Bool
bounded Alone = true
bounded (More low high k bits) = leb 0x80 low && (leb high 0xBF && (leb k 2 && ltb bits (room k)))
bounded Bad = true

leads_bounded : each_byte (λ b. bounded (lead b)) ≡ true
unfolding each_byte lead
leads_bounded = refl

pub lead_bounded : {b low high k bits : ℕ} → b < 256 → lead b ≡ More low high k bits → Bounded low high k bits
lead_bounded {b} {low} {high} {k} {bits} h e =
    let t : bounded (More low high k bits) ≡ true = ap bounded (sym e) ∙ at_byte (λ c. bounded (lead c)) leads_bounded b h in
    record {
      least = search (leb-true, and_first);
      most = search (leb-true, and_first, and_second);
      few = search (leb-true, and_first, and_second);
      small = search (ltb-true, and_second);
    }

-- one byte more in front
pub one_longer : {f : Option Char} {v n : ℕ} → f ≡ whole v n → whole v (n + 1) ≡ longer f
one_longer e = rw (e, add-one)

-- what `map` makes of a character, or of none
pub mapped : (o r : Option Char) → MatchOption o (r ≡ None) (λ x. IsSomeAnd r (λ y. Some y ≡ longer (Some x))) → r ≡ longer o
mapped None r h = h
mapped (Some x) None h = absurd h
mapped (Some x) (Some y) h = h

finish_size : (low high k bits : ℕ) (s : List ℕ) → size (finish low high k bits s) ≤ suc k
unfolding finish
finish_size low high k bits [] = omega arith
finish_size low high zero bits (b ∷ bs) = go (between low high b)
  where
    go : (t : Bool) → size (cond t (whole (join bits b) 1) None) ≤ 1
    go true = omega arith
    go false = omega arith
finish_size low high (suc k) bits (b ∷ bs) =
    go (between low high b) (finish 0x80 0xBF k (join bits b) bs) (finish_size 0x80 0xBF k (join bits b) bs)
  where
    go : (t : Bool) (f : Option Char) → size f ≤ suc k → size (cond t (longer f) None) ≤ suc (suc k)
    go true (Some c) h = omega arith
    go true None h = omega arith
    go false f h = omega arith

pub read_size : (low high k bits : ℕ) (s : List ℕ) {f : Option Char} → f ≡ finish low high k bits s → size f ≤ suc k
read_size low high k bits s e = rw e (finish_size low high k bits s)

outside : (low high b : ℕ) → (low ≤ b → b ≤ high → ⊥) → between low high b ≡ false
outside low high b f = by_test (between low high b) (λ t. absurd (f (search (leb-true, and_first)) (search (leb-true, and_second)))) (λ t. t)

-- The rest of a character, at the place i: the source ends; a byte that cannot stand there; the last byte; another.
module _ (low high k bits : ℕ) (s : List ℕ) (i : ℕ) where
  pub rest_end : length s ≤ i → None ≡ finish low high k bits (drop i s)
  unfolding finish
  rest_end h = rw (drop_of_length-le s h)

  module _ (h : i < length s) where
    pub rest_out : (low ≤ get_or s i 0 → get_or s i 0 ≤ high → ⊥) → None ≡ finish low high k bits (drop i s)
    unfolding finish
    rest_out f = rw (drop-cons s i 0) (go k (outside low high (get_or s i 0) f))
      where
        go : (k : ℕ) → between low high (get_or s i 0) ≡ false → None ≡ finish low high k bits (get_or s i 0 ∷ drop (suc i) s)
        go zero e = rw e
        go (suc k) e = rw e

    module _ (l : low ≤ get_or s i 0) (g : get_or s i 0 ≤ high) {w : ℕ} (j : w ≡ join bits (get_or s i 0)) where
      pub rest_last : k ≡ 0 → whole w 1 ≡ finish low high k bits (drop i s)
      unfolding finish
      rest_last z = rw (j, z, drop-cons s i 0, le-leb low (get_or s i 0) l, le-leb (get_or s i 0) high g)

      pub rest_on : (k ≡ 0 → ⊥) → longer (finish 0x80 0xBF (k - 1) w (drop (i + 1) s)) ≡ finish low high k bits (drop i s)
      unfolding finish
      rest_on z = rw (j, add-one, drop-cons s i 0) (go (k - 1) k (omega arith))
        where
          go : (n k : ℕ) → k ≡ suc n
              → longer (finish 0x80 0xBF n (join bits (get_or s i 0)) (drop (suc i) s)) ≡ finish low high k bits (get_or s i 0 ∷ drop (suc i) s)
          go n k p = rw (p, le-leb low (get_or s i 0) l, le-leb (get_or s i 0) high g)

-- A character, at the place i.
module _ (s : List ℕ) (i : ℕ) where
  pub decode_end : length s ≤ i → None ≡ decode (drop i s)
  unfolding decode
  decode_end h = rw (drop_of_length-le s h)

  pub decode_lead : {b : ℕ} {l : Lead} → i < length s → b ≡ get_or s i 0 → lead b ≡ l → after_lead b l (drop (i + 1) s) ≡ decode (drop i s)
  unfolding decode
  decode_lead h p e = rw (p, add-one, drop-cons s i 0, rw p at e)
