-- A record is read back from its numbers, and 16 numbers, of which the last is 0 or 1, from the record that they are.
-- Assumes nothing.
use Rattle.std.specs.Prelude.{ℕ, zero, suc, ◌+◌, ◌≡◌, refl, Bool, true, false, List, [], ◌∷◌, length, get_or, set, drop, eqb, ltb}
use Rattle.std.proofs.Common.{sym, ap, subst, ◌∙◌, arith, ltb-false, drop-cons}
use Rattle.std.proofs.Math.Seq.{drop-length}
use Rattle.halves.specs.Halves.{join, low_of, high_of, join_back, low_back, high_back}
use Rattle.event_record.specs.Record.{span}
use Rattle.events.specs.declared.Stream.{Stream}
use Rattle.stream_numbers.specs.Numbers.{truth_number, stream_of, numbers_of, forged, Sixteen}

-- a truth value and its number
truth_back : (b : Bool) → eqb (truth_number b) 1 ≡ b
truth_back true = refl
truth_back false = refl

number_back : (n : ℕ) → ltb 1 n ≡ false → truth_number (eqb n 1) ≡ n
number_back zero e = refl
number_back (suc zero) e = refl
number_back (suc (suc n)) e = absurd (omega (arith, ltb-false 1 (suc (suc n)) e))

-- A record from its numbers.
pub stream_back : (t : Stream) → stream_of (numbers_of t) ≡ t
unfolding stream_of numbers_of
stream_back t =
    rw (
      join_back t.slots,
      join_back t.places,
      join_back t.front.0,
      join_back t.count,
      join_back t.opened,
      truth_back t.popped,
    )

-- Numbers from their record.
abbrev firsts : ℕ → ℕ → List ℕ → List ℕ
firsts zero i l = []
firsts (suc n) i l = get_or l i 0 ∷ firsts n (suc i) l

all_from : (n i : ℕ) (l : List ℕ) → length l ≡ i + n → drop i l ≡ firsts n i l
all_from zero i l e =
    let k : length l ≡ i = omega arith in
    subst (λ (m : ℕ). drop m l ≡ []) k (drop-length l)
all_from (suc n) i l e =
    drop-cons l i 0 (omega arith) ∙ ap (λ (k : List ℕ). get_or l i 0 ∷ k) (all_from n (suc i) l (omega arith))

pub numbers_back : (l : List ℕ) → Sixteen l → forged l ≡ false → numbers_of (stream_of l) ≡ l
unfolding stream_of numbers_of
numbers_back l s f =
    let h = s.small in
    rw (
      low_back (get_or l 0 0) (get_or l 1 0) (h 0),
      high_back (get_or l 0 0) (get_or l 1 0) (h 0),
      low_back (get_or l 2 0) (get_or l 3 0) (h 2),
      high_back (get_or l 2 0) (get_or l 3 0) (h 2),
      low_back (get_or l 4 0) (get_or l 5 0) (h 4),
      high_back (get_or l 4 0) (get_or l 5 0) (h 4),
      low_back (get_or l 6 0) (get_or l 7 0) (h 6),
      high_back (get_or l 6 0) (get_or l 7 0) (h 6),
      low_back (get_or l 8 0) (get_or l 9 0) (h 8),
      high_back (get_or l 8 0) (get_or l 9 0) (h 8),
      number_back (get_or l 15 0) f,
    )
    (sym (all_from 16 0 l s.sized))

-- The numbers of a record are not forged.
pub never_forged : (t : Stream) → forged (numbers_of t) ≡ false
unfolding numbers_of
never_forged t = truth_small t.popped
  where
    truth_small : (b : Bool) → ltb 1 (truth_number b) ≡ false
    truth_small true = refl
    truth_small false = refl

-- What the code makes of its parts.
pub numbers_so : (t : Stream) {a b c d e f g h i j p : ℕ}
    → a ≡ low_of t.slots → b ≡ high_of t.slots → c ≡ low_of t.places → d ≡ high_of t.places
    → e ≡ low_of t.front.0 → f ≡ high_of t.front.0
    → g ≡ low_of t.count → h ≡ high_of t.count → i ≡ low_of t.opened → j ≡ high_of t.opened → p ≡ truth_number t.popped
    → ◌≡◌ {A = List ℕ}
    (a ∷ b ∷ c ∷ d ∷ e ∷ f ∷ g ∷ h ∷ i ∷ j ∷ t.bookmarks ∷ t.last.start.0 ∷ t.last.end.0 ∷ t.gone.start.0 ∷ t.gone.end.0 ∷ p ∷ [])
    (numbers_of t)
unfolding numbers_of
numbers_so t qa qb qc qd qe qf qg qh qi qj qp = rw (qa, qb, qc, qd, qe, qf, qg, qh, qi, qj, qp)

pub stream_so : (l : List ℕ) {a b c d e : ℕ}
    → a ≡ join (get_or l 0 0) (get_or l 1 0) → b ≡ join (get_or l 2 0) (get_or l 3 0) → c ≡ join (get_or l 4 0) (get_or l 5 0)
    → d ≡ join (get_or l 6 0) (get_or l 7 0) → e ≡ join (get_or l 8 0) (get_or l 9 0)
    → ◌≡◌ {A = Stream}
    (record {
      slots = a;
      places = b;
      front = record { 0 = c };
      count = d;
      opened = e;
      bookmarks = get_or l 10 0;
      last = span (get_or l 11 0) (get_or l 12 0);
      gone = span (get_or l 13 0) (get_or l 14 0);
      popped = eqb (get_or l 15 0) 1;
    })
    (stream_of l)
unfolding stream_of
stream_so l qa qb qc qd qe = rw (qa, qb, qc, qd, qe)

-- and of what it stores
pub two_stored : {k l : List ℕ} (i j : ℕ) {a b x y : ℕ} → k ≡ l → a ≡ x → b ≡ y → set (set k i a) j b ≡ set (set l i x) j y
two_stored i j p q r = rw (p, q, r)

pub popped_stored : (t : Stream) {k l : List ℕ} {p : ℕ} → k ≡ l → p ≡ truth_number t.popped
    → set (set (set k 13 t.gone.start.0) 14 t.gone.end.0) 15 p
    ≡ set (set (set l 13 t.gone.start.0) 14 t.gone.end.0) 15 (truth_number t.popped)
popped_stored t q r = rw (q, r)
