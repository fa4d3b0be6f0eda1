-- What holds of each element of a list, a test of each, and the members of a class: over any elements, said once.
-- By induction on the list, or on the number below which the members are listed. Assumes nothing.
use Rattle.std.specs.Prelude.{ℕ, zero, suc, ◌<◌, ◌≡◌, refl, Bool, true, false, ◌↔◌, List, [], ◌∷◌, ◌++◌, length, get_or, take, eqb}
use Rattle.std.proofs.Common.{sym, ap, ◌∙◌, true≢false, arith, eqb-true}
use Rattle.std.proofs.lemmas.Bool.{eqb-false}
use Rattle.patterns.proofs.Bools.{and_first, and_second, by_test}
use Rattle.patterns.specs.Lists.{All, each, members}

pub all_append : {A : Type 0} (P : A → Type 0) (xs ys : List A) → All P (xs ++ ys) ↔ (All P xs × All P ys)
all_append P [] ys = (λ a. (tt, a), λ a. a.1)
all_append P (x ∷ xs) ys = (
  λ a. ((a.0, ((all_append P xs ys).0 a.1).0), ((all_append P xs ys).0 a.1).1),
  λ a. (a.0.0, (all_append P xs ys).1 (a.0.1, a.1)),
)

-- what holds of each holds of the first n and of any one; and what follows from it holds of each
module _ {A : Type 0} where
  pub all_weaker : (P Q : A → Type 0) → ((x : A) → P x → Q x) → (xs : List A) → All P xs → All Q xs
  all_weaker P Q f [] a = tt
  all_weaker P Q f (x ∷ xs) a = (f x a.0, all_weaker P Q f xs a.1)

  pub all_take : (P : A → Type 0) (n : ℕ) (xs : List A) → All P xs → All P (take n xs)
  all_take P zero xs a = tt
  all_take P (suc n) [] a = tt
  all_take P (suc n) (x ∷ xs) a = (a.0, all_take P n xs a.1)

  pub all_get : (P : A → Type 0) (xs : List A) (n : ℕ) (d : A) → n < length xs → All P xs → P (get_or xs n d)
  all_get P [] n d h a = absurd (omega arith)
  all_get P (x ∷ xs) zero d h a = a.0
  all_get P (x ∷ xs) (suc n) d h a = all_get P xs n d (omega arith) a.1

-- a list of no elements
pub empty : {A : Type 0} (xs : List A) → length xs ≡ 0 → xs ≡ []
empty [] e = refl
empty (x ∷ xs) e = absurd (omega arith)

pub each_right : {A : Type 0} (f : A → Bool) (xs : List A) → each f xs ≡ true → All (λ x. f x ≡ true) xs
each_right f [] e = tt
each_right f (x ∷ xs) e = (and_first (f x) (each f xs) e, each_right f xs (and_second (f x) (each f xs) e))

-- one test that fails
pub each_fails : (bs : List Bool) (k : ℕ) → get_or bs k true ≡ false → false ≡ each (λ b. b) bs
each_fails [] k e = sym e
each_fails (b ∷ bs) zero e = rw e
each_fails (b ∷ bs) (suc k) e = by_test b (λ p. rw p (each_fails bs k e)) (λ p. rw p)

-- what is tested of each member holds of any number in the class
pub each_member : (n : ℕ) (c f : ℕ → Bool) → each f (members n c) ≡ true → (k : ℕ) → k < n → c k ≡ true → f k ≡ true
unfolding members
each_member zero c f e k h q = absurd (omega arith)
each_member (suc n) c f e k h q = go (c n) refl e (each_member n c f)
  where
    go : (t : Bool) → c n ≡ t → each f (elim t [ true ↦ n ∷ members n c | false ↦ members n c ]) ≡ true
        → (each f (members n c) ≡ true → (k : ℕ) → k < n → c k ≡ true → f k ≡ true) → f k ≡ true
    go true p e next =
        by_test (eqb k n) (λ z. ap f (eqb-true k n z) ∙ and_first (f n) (each f (members n c)) e)
        (λ z. let d : ¬ (k ≡ n) = eqb-false k n z in next (and_second (f n) (each f (members n c)) e) k (omega arith) q)
    go false p e next = let d : ¬ (k ≡ n) = λ z. true≢false (sym q ∙ ap c z ∙ p) in next e k (omega arith) q
