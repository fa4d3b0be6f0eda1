-- `longest` is right for the plain meaning: the prefix of that length is matched, and no longer one is. By induction on the text:
-- `deriv_means` takes a byte off both sides, and `best` is what `nullable` said of the prefixes so far. Assumes nothing.
use Rattle.std.specs.Prelude.{ℕ, zero, suc, ◌+◌, ◌≤◌, ◌<◌, ◌≡◌, refl, Bool, true, false, cond, List, [], ◌∷◌, length, take}
use Rattle.std.proofs.Common.{zero-le, suc-le-suc, sym, ◌∙◌, le_of_suc-le-suc, add-zero, arith}
use Rattle.std.proofs.lemmas.Bool.{false≢true}
use Rattle.patterns.specs.Pattern.{Pat, Matches, nullable, deriv, walk, longest}
use Rattle.patterns.specs.Meaning.{Same}
use Rattle.patterns.proofs.Meaning.{null_means, deriv_means}
use Rattle.patterns.specs.Longest.{Ends, Right, at_best, at_match, is_longest, is_none}

-- at the end of the text only the empty prefix is left
none_left : (r : Pat) → nullable r ≡ false → (m : ℕ) → m ≤ 0 → Matches r (take m []) → ⊥
none_left r e zero h x = false≢true (sym e ∙ (null_means r).1 x)
none_left r e (suc m) h x = omega arith

nil_ends : (r : Pat) (k best : ℕ) (t : Bool) → nullable r ≡ t → Ends r [] k best (cond t k best)
nil_ends r k best true e = at_match 0 (sym (add-zero k)) (record { inside = zero-le; matched = (null_means r).0 e; most = λ m h l x. omega arith })
nil_ends r k best false e = at_best refl (record { never = none_left r e })

-- a prefix that is not empty is matched where its rest is, by what is left of r
cons_most : (r : Pat) (b : ℕ) (s : List ℕ) (n : ℕ) → ((m : ℕ) → n ≤ m → m ≤ length s → Matches (deriv b r) (take m s) → ⊥)
    → (m : ℕ) → n < m → m ≤ suc (length s) → Matches r (take m (b ∷ s)) → ⊥
cons_most r b s n f zero h l x = omega arith
cons_most r b s n f (suc m) h l x = f m (le_of_suc-le-suc h) (le_of_suc-le-suc l) ((deriv_means r b (take m s)).1 x)

cons_ends : (r : Pat) (b : ℕ) (s : List ℕ) (k best : ℕ) (t : Bool) → nullable r ≡ t → {e : ℕ} → Ends (deriv b r) s (suc k) (cond t k best) e → Ends r (b ∷ s) k best e
cons_ends r b s k best t q {e} (at_match n f l) =
    let g : e ≡ k + suc n = omega arith in
    at_match (suc n) g
    (record {
      inside = suc-le-suc l.inside;
      matched = (deriv_means r b (take n s)).0 l.matched;
      most = cons_most r b s (suc n) (λ m h. l.most m h);
    })
cons_ends r b s k best true q (at_best f l) =
    at_match 0 (f ∙ sym (add-zero k)) (record { inside = zero-le; matched = (null_means r).0 q; most = cons_most r b s 0 (λ m h. l.never m) })
cons_ends r b s k best false q (at_best f l) = at_best f (record { never = never })
  where
    never : (m : ℕ) → m ≤ suc (length s) → Matches r (take m (b ∷ s)) → ⊥
    never zero h x = false≢true (sym q ∙ (null_means r).1 x)
    never (suc m) h x = cons_most r b s 0 (λ i g. l.never i) (suc m) (suc-le-suc zero-le) h x

pub walk_ends : (r : Pat) (s : List ℕ) (k best : ℕ) → Ends r s k best (walk r s k best)
unfolding walk
walk_ends r [] k best = nil_ends r k best (nullable r) refl
walk_ends r (b ∷ s) k best = cons_ends r b s k best (nullable r) refl (walk_ends (deriv b r) s (suc k) (cond (nullable r) k best))

pub longest_right : (r : Pat) (s : List ℕ) → Right r s (longest r s)
longest_right r s = go (walk_ends r s 0 0)
  where
    go : {e : ℕ} → Ends r s 0 0 e → Right r s e
    go (at_best f l) = rw f (is_none l)
    go (at_match n f l) = let g : n ≡ 0 + n = omega arith in rw (f, ← g) (is_longest l)

pub longest_le : (r : Pat) (s : List ℕ) → longest r s ≤ length s
longest_le r s = go (longest_right r s)
  where
    go : {n : ℕ} → Right r s n → n ≤ length s
    go (is_none l) = zero-le
    go (is_longest l) = l.inside

-- two patterns that match the same texts have the same longest matches
pub same_longest : (r r' : Pat) → Same r r' → (s : List ℕ) → longest r s ≡ longest r' s
same_longest r r' f s = go (longest_right r s) (longest_right r' s)
  where
    go : {n m : ℕ} → Right r s n → Right r' s m → n ≡ m
    go (is_none h) (is_none k) = refl
    go (is_none h) (is_longest {n = m} k) = absurd (h.never m k.inside ((f (take m s)).1 k.matched))
    go (is_longest {n = n} h) (is_none k) = absurd (k.never n h.inside ((f (take n s)).0 h.matched))
    go (is_longest {n = n} h) (is_longest {n = m} k) =
        let a : ¬ (n < m) = λ l. h.most m l k.inside ((f (take m s)).1 k.matched) in
        let b : ¬ (m < n) = λ l. k.most n l h.inside ((f (take n s)).0 h.matched) in
        omega arith
