-- The statuses tell found, none and each refusal apart, since 0 and 100 are no refusal's. And what the code makes of an answer is what the
-- reply tells, since the reply has that answer. Assumes nothing.
use Rattle.std.specs.Prelude.{ℕ, ◌≡◌, refl, Result, Ok, Err}
use Rattle.std.proofs.Common.{sym, ap, ◌∙◌, arith}
use Rattle.refusals.specs.declared.Refusal.{Refusal}
use Rattle.refusals.specs.declared.Refusal.TheVariants.{NotAsOpened}
use Rattle.refusals.specs.Refusals.{number_of}
use Rattle.refusals.specs.RefusalLaws.{read_refusal, read_back, number_some}
use Rattle.refusals.specs.Calls.{Reply, reply}
use Rattle.statuses.specs.Statuses.{Outcome, found, none, refused, status_of, done_outcome, told_by, told_with}

-- no refusal has the status of found or of none
pub apart : (x : Refusal) → (number_of x ≡ status_of found → ⊥) × (number_of x ≡ status_of none → ⊥)
apart x = (
  λ e. omega (arith, number_some x, e),
  λ e. let w : x ≡ NotAsOpened = sym (read_back x) ∙ ap read_refusal e in omega (arith, e, ap number_of w),
)

-- the status of an answer, and what is lent for it, where the reply has that answer
module _ {A S : Type 0} (outcome : A → Outcome) {y : Reply A S} {a : A} {s : S} (e : reply a s ≡ y) where
  pub told_so : {r : ℕ} → r ≡ status_of (outcome a) → (r, s) ≡ told_by outcome y
  told_so q = rw (q, ← e)

  pub told_with_so : {X : Type 0} (written : A → X → X) (x : X) {r : ℕ} {k : X}
      → (r ≡ status_of (outcome a)) × (k ≡ written a x) → (r, k, s) ≡ told_with outcome written y x
  told_with_so written x q = rw (q.0, q.1, ← e)

-- the code's answer that gives nothing else, told as one of the calls' answers
module _ {A : Type 0} (outcome : A → Outcome) (told : Result Unit Refusal → A) (done : outcome (told (Ok tt)) ≡ found)
    (refuse : (n : Refusal) → outcome (told (Err n)) ≡ refused (number_of n)) where
  same_outcome : (d : Result Unit Refusal) → done_outcome d ≡ outcome (told d)
  same_outcome (Ok u) = sym done
  same_outcome (Err n) = sym (refuse n)

  pub told_done_so : {S : Type 0} {y : Reply A S} (d : Result Unit Refusal) {s : S} {r : ℕ} → reply (told d) s ≡ y → r ≡ status_of (done_outcome d)
      → (r, s) ≡ told_by outcome y
  told_done_so d e q = told_so outcome e (q ∙ ap status_of (same_outcome d))
