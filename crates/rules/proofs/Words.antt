-- Words in normal mode: a keyword where the whole word is one, else IDENT. Every keyword is a text of IDENT, so none is longer than
-- the word; one that is as long stands first in the list and wins, and one that is shorter loses. Assumes nothing.
use Rattle.std.specs.Prelude.{ℕ, zero, suc, ◌+◌, ◌-◌, ◌≤◌, ◌<◌, ◌≡◌, refl, Bool, true, false, cond, ◌&&◌, length, get_or, drop, take, leb, eqb}
use Rattle.std.proofs.Common.{sym, ◌∙◌, subst, arith, length-drop, take_all, eqb-true, leb-true}
use Rattle.std.proofs.Math.Path.{ap}
use Rattle.std.proofs.lemmas.Bool.{false≢true, eqb-false}
use Rattle.std.proofs.Math.Bool.{and-false, and_assoc}
use mathlib.Core.List.{List, [], ◌∷◌, ◌++◌, map}
use Rattle.std.proofs.Math.Decide.{dec_lt}
use Rattle.std.proofs.Math.Dec.{eqb-zero-suc, eqb-suc-zero, eqb-suc-suc}
use Rattle.patterns.specs.Utf8.{Class}
use Rattle.patterns.specs.Pattern.{Pat, byte, seq, literal, Matches, follow, if_in, deriv, longest}
use Rattle.patterns.proofs.Bools.{and_first, and_second}
use Rattle.patterns.specs.Lists.{All, each}
use Rattle.patterns.proofs.Lists.{each_right}
use Rattle.patterns.specs.Walk.{prefix}
use Rattle.patterns.proofs.Walk.{start, move, onto, prefix_long, literal_longest}
use Rattle.patterns.specs.Longest.{Right, is_none, is_longest}
use Rattle.patterns.proofs.Longest.{longest_right, longest_le}
use Rattle.tokens.specs.Kinds.{IDENT}
use Rattle.tokens.specs.Unicode.{digits_16}
use Rattle.tokens.specs.Tokens.{Rule, Spelling, rule, spelled, words_1, word_start, tail, identifier}
use Rattle.tokens.specs.Scan.{hit, better, best}
use Rattle.words.specs.Keywords.{same, keyword_of}
use Rattle.rules.proofs.Better.{better_first, better_longer}
use Rattle.rules.specs.Words.{whole_word}

-- A byte of a class, and then a tail.

opens : (c : Class) (digits : List ℕ) (x : ℕ) → c x ≡ true → deriv x (seq (byte c) (tail digits)) ≡ tail digits
unfolding deriv
opens c digits x e = ap (λ (t : Bool). follow (if_in t) (tail digits)) e

pub tail_after : (c : Class) (digits s : List ℕ) (at e : ℕ) → at < length s → c (get_or s at 0) ≡ true → e ≡ at + 1 + longest (tail digits) (drop (at + 1) s)
    → e ≡ at + longest (seq (byte c) (tail digits)) (drop at s)
tail_after c digits s at e h q r = r ∙ onto (move (start (seq (byte c) (tail digits)) s at) refl h (opens c digits (get_or s at 0) q)) refl

-- the tail ends within the source
pub tail_within : (s : List ℕ) (at e : ℕ) → at < length s → e ≡ at + 1 + longest (tail digits_16) (drop (at + 1) s) → e ≤ length s
tail_within s at e h q = omega (arith, longest_le (tail digits_16) (drop (at + 1) s), length-drop (at + 1) s)

-- A text at the front.

take_prefix : (w xs : List ℕ) → prefix w xs ≡ true → take (length w) xs ≡ w
unfolding prefix
take_prefix [] xs e = refl
take_prefix (y ∷ w) [] e = absurd (false≢true e)
take_prefix (y ∷ w) (x ∷ xs) e = rw (eqb-true x y (and_first (eqb x y) (prefix w xs) e), take_prefix w xs (and_second (eqb x y) (prefix w xs) e))

-- is no longer than the longest match of a pattern that matches it
longest_least : (p : Pat) (w xs : List ℕ) → Matches p w → prefix w xs ≡ true → length w ≤ longest p xs
longest_least p w xs m e = go (longest_right p xs)
  where
    front : Matches p (take (length w) xs)
    front = subst (Matches p) (sym (take_prefix w xs e)) m

    go : {n : ℕ} → Right p xs n → length w ≤ n
    go (is_none a) = absurd (a.never (length w) (prefix_long w xs e) front)
    go {n} (is_longest a) = near (dec_lt n (length w))
      where
        near : Dec (n < length w) → length w ≤ n
        near (yes l) = absurd (a.most (length w) l (prefix_long w xs e) front)
        near (no l) = omega arith

-- and is the text of the first n bytes where it is as long
same_take : (n : ℕ) (xs w : List ℕ) → n ≤ length xs → same (take n xs) w ≡ (prefix w xs && eqb (length w) n)
unfolding same prefix
same_take zero xs [] h = refl
same_take zero xs (y ∷ w) h = rw (eqb-suc-zero (length w)) (sym (and-false (prefix (y ∷ w) xs)))
same_take (suc n) [] w h = absurd (omega arith)
same_take (suc n) (x ∷ xs) [] h = sym (eqb-zero-suc n)
same_take (suc n) (x ∷ xs) (y ∷ w) h = rw (same_take n xs w (omega arith), eqb-suc-suc) (sym (and_assoc (eqb x y) (prefix w xs) (eqb (length w) n)))

-- Over any list of words that a pattern p matches: the best of the words and of p is the word's kind.
module _ (p : Pat) (xs : List ℕ) where
  abbrev n : ℕ
  n = longest p xs

  -- a spelling of l bytes that stands at the front, or not
  one_word : (k m l : ℕ) (t : Bool) → 1 ≤ l → (t ≡ true → l ≤ n) → better (hit k (cond t l 0)) (hit m n) ≡ hit (cond (t && eqb l n) k m) n
  one_word k m l false h f = refl
  one_word k m l true h f = go (eqb l n) refl
    where
      go : (t : Bool) → eqb l n ≡ t → better (hit k l) (hit m n) ≡ hit (cond t k m) n
      go true e = let q : l ≡ n = eqb-true l n e in better_first (hit k l) (hit m n) h (omega arith) ∙ ap (hit k) q
      go false e = let q : ¬ (l ≡ n) = eqb-false l n e in better_longer (hit k l) (hit m n) (omega (arith, f refl))

  abbrev Listed : Spelling → Type 0
  Listed w = (1 ≤ length w.bytes) × Matches p w.bytes

  words_best : (ws : List Spelling) (rs : List Rule) → best rs xs ≡ hit IDENT n → All Listed ws → best (map spelled ws ++ rs) xs ≡ hit (keyword_of ws (take n xs)) n
  unfolding best keyword_of
  words_best [] rs found a = found
  words_best (w ∷ ws) rs found a =
      ap (better (hit w.kind (longest (literal w.bytes) xs))) (words_best ws rs found a.1)
      ∙ ap (λ (l : ℕ). better (hit w.kind l) (hit (keyword_of ws (take n xs)) n)) (literal_longest w.bytes xs)
      ∙ one_word w.kind (keyword_of ws (take n xs)) (length w.bytes) (prefix w.bytes xs) a.0.0 (longest_least p w.bytes xs a.0.1)
      ∙ ap (λ (t : Bool). hit (cond t w.kind (keyword_of ws (take n xs))) n) (sym (same_take n xs w.bytes (longest_le p xs)))

-- The words of list 1: each is a text of IDENT, by a test that is computed.

all_whole : each whole_word words_1 ≡ true
unfolding whole_word words_1
all_whole = refl

-- a text that is its own longest match is matched
matches_whole : (p : Pat) (w : List ℕ) → 1 ≤ length w → longest p w ≡ length w → Matches p w
matches_whole p w h e = go (longest_right p w) e
  where
    go : {n : ℕ} → Right p w n → n ≡ length w → Matches p w
    go (is_none a) q = absurd (omega arith)
    go (is_longest a) q = subst (Matches p) (ap (λ (k : ℕ). take k w) q ∙ take_all (length w) w (omega arith)) a.matched

all_listed : (xs : List ℕ) → All (Listed (identifier digits_16) xs) words_1
unfolding whole_word
all_listed xs = every words_1 (each_right whole_word words_1 all_whole)
  where
    every : (ws : List Spelling) → All (λ w. whole_word w ≡ true) ws → All (Listed (identifier digits_16) xs) ws
    every [] a = tt
    every (w ∷ ws) a =
        let h : 1 ≤ length w.bytes = leb-true 1 (length w.bytes) (and_first (leb 1 (length w.bytes)) (eqb (longest (identifier digits_16) w.bytes) (length w.bytes)) a.0) in
        let e : longest (identifier digits_16) w.bytes ≡ length w.bytes =
        eqb-true (longest (identifier digits_16) w.bytes) (length w.bytes) (and_second (leb 1 (length w.bytes)) (eqb (longest (identifier digits_16) w.bytes) (length w.bytes)) a.0) in
        ((h, matches_whole (identifier digits_16) w.bytes h e), every ws a.1)

-- at a place: e is the word's end, and k its kind
pub word_hit : (s : List ℕ) (at e k : ℕ) → at < length s → word_start (get_or s at 0) ≡ true → e ≡ at + 1 + longest (tail digits_16) (drop (at + 1) s)
    → k ≡ keyword_of words_1 (take (e - at) (drop at s)) → hit k (e - at) ≡ best (map spelled words_1 ++ (rule IDENT (identifier digits_16) ∷ [])) (drop at s)
unfolding best
word_hit s at e k h w q r =
    let n : e - at ≡ longest (identifier digits_16) (drop at s) = omega (arith, tail_after word_start digits_16 s at e h w q) in
    let f : best (rule IDENT (identifier digits_16) ∷ []) (drop at s) ≡ hit IDENT (longest (identifier digits_16) (drop at s)) =
    better_first (hit IDENT (longest (identifier digits_16) (drop at s))) (hit 0 0) (omega arith) (omega arith) in
    ap (λ (j : ℕ). hit j (e - at)) r ∙ ap (λ (l : ℕ). hit (keyword_of words_1 (take l (drop at s))) l) n
    ∙ sym (words_best (identifier digits_16) (drop at s) words_1 (rule IDENT (identifier digits_16) ∷ []) f (all_listed (drop at s)))
