-- A number names one refusal, since the refusal can be read back from it; and 0 names none.
-- Assumes nothing.
use Rattle.std.specs.Prelude.{ℕ, zero, suc, ◌≤◌, ◌≡◌, refl, cond, eqb}
use Rattle.std.proofs.Common.{sym, ap, ◌∙◌, arith}
use Rattle.refusals.specs.declared.Refusal.{Refusal}
use Rattle.refusals.specs.declared.Refusal.TheVariants.{SourceTooLong, WindowFull, TooManyBookmarks, NotLive, EventsFull, NothingOpen, NoSpan, Unbalanced, NotSettled, PastTheEnd, TooDeep, NoRoom, NotAsOpened}
use Rattle.refusals.specs.Refusals.{number_of}

-- the refusal that a number tells; one that tells none is read as any
abbrev pub read_refusal : ℕ → Refusal
read_refusal n =
    cond (eqb n 1) SourceTooLong (
    cond (eqb n 2) WindowFull (
    cond (eqb n 3) TooManyBookmarks (
    cond (eqb n 4) NotLive (
    cond (eqb n 5) EventsFull (
    cond (eqb n 6) NothingOpen (
    cond (eqb n 7) NoSpan (
    cond (eqb n 8) Unbalanced (
    cond (eqb n 9) NotSettled (
    cond (eqb n 10) PastTheEnd (
    cond (eqb n 11) TooDeep (
    cond (eqb n 15) NoRoom NotAsOpened)))))))))))

pub read_back : (x : Refusal) → read_refusal (number_of x) ≡ x
read_back SourceTooLong = refl
read_back WindowFull = refl
read_back TooManyBookmarks = refl
read_back NotLive = refl
read_back EventsFull = refl
read_back NothingOpen = refl
read_back NoSpan = refl
read_back Unbalanced = refl
read_back NotSettled = refl
read_back PastTheEnd = refl
read_back TooDeep = refl
read_back NoRoom = refl
read_back NotAsOpened = refl

pub number_once : (x y : Refusal) → number_of x ≡ number_of y → x ≡ y
number_once x y e = sym (read_back x) ∙ ap read_refusal e ∙ read_back y

pub number_some : (x : Refusal) → 1 ≤ number_of x
number_some x = go (number_of x) refl
  where
    go : (n : ℕ) → number_of x ≡ n → 1 ≤ n
    go zero e = let w : x ≡ NotAsOpened = sym (read_back x) ∙ ap read_refusal e in absurd (omega (arith, e, ap number_of w))
    go (suc n) e = omega arith
