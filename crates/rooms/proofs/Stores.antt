-- Numbers stored one after the other: where they are they are read, elsewhere the room is as it was, and storing what stands there changes
-- nothing. By induction on the numbers. Assumes nothing.
use Rattle.std.specs.Prelude.{ℕ, zero, suc, ◌+◌, ◌<◌, ◌≤◌, ◌≡◌, refl, List, [], ◌∷◌, ◌++◌, length, get_or, set, take, drop}
use Rattle.std.proofs.Common.{◌∙◌, arith, add-zero, zero-add, length-set, take-append-drop, length-take-le, get_or-set_same, get_or-set_other}
use Rattle.std.proofs.Math.Seq.{take-append_seam}
use Rattle.std.proofs.lemmas.List.Edits.{sets, sets-eq}

pub sets_other : (vs l : List ℕ) (i j : ℕ) → ((k : ℕ) → k < length vs → j ≡ i + k → ⊥) → get_or (sets l i vs) j 0 ≡ get_or l j 0
sets_other [] l i j d = refl
sets_other (a ∷ vs) l i j d =
    sets_other vs (set l i a) (suc i) j (λ k h e. d (suc k) (omega arith) (omega (arith, e)))
    ∙ get_or-set_other l i j a 0 (λ e. d 0 (omega arith) (omega (arith, e)))

pub sets_here : (vs l : List ℕ) (i j : ℕ) → j < length vs → i + length vs ≤ length l → get_or (sets l i vs) (i + j) 0 ≡ get_or vs j 0
sets_here [] l i j h k = absurd (omega arith)
sets_here (a ∷ vs) l i zero h k =
    rw add-zero (sets_other vs (set l i a) (suc i) i (λ k h e. omega (arith, e)) ∙ get_or-set_same l i a 0 (omega arith))
sets_here (a ∷ vs) l i (suc j) h k =
    let e : i + suc j ≡ suc i + j = omega arith in
    rw e (sets_here vs (set l i a) (suc i) j (omega arith) (omega (arith, length-set l i a)))

pub sets_append : (l : List ℕ) (i : ℕ) (xs ys : List ℕ) → sets l i (xs ++ ys) ≡ sets (sets l i xs) (i + length xs) ys
sets_append l i [] ys = rw add-zero
sets_append l i (a ∷ xs) ys =
    let e : i + suc (length xs) ≡ suc i + length xs = omega arith in
    rw e (sets_append (set l i a) (suc i) xs ys)

-- from the start on, what is stored stands in front of what was there
sets_front : (l vs : List ℕ) → length vs ≤ length l → sets l 0 vs ≡ vs ++ drop (length vs) l
sets_front l vs h = rw zero-add at (sets-eq vs l 0 (omega arith))

pub sets_take : (l : List ℕ) (n : ℕ) → n ≤ length l → sets l 0 (take n l) ≡ l
sets_take l n h =
    let e : length (take n l) ≡ n = length-take-le n l h in
    sets_front l (take n l) (omega (arith, e)) ∙ rw e (take-append-drop n l)

pub take_sets : (l vs : List ℕ) → length vs ≤ length l → take (length vs) (sets l 0 vs) ≡ vs
take_sets l vs h = rw (sets_front l vs h) (take-append_seam vs (drop (length vs) l))
