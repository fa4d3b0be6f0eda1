-- Since the runs rise, `partition_point` ends behind the last that begins at or before v (ends); v is a digit if it is among the ten of
-- that run (found, not_found). Assumes nothing.
use Rattle.std.specs.Prelude.{ℕ, ◌≤◌, ◌≡◌, Bool, true, false, length, leb}
use Rattle.std.specs.Fn.{Called, ComputesKey}
use Rattle.std.specs.List.Sorted.{IsPartitionedBy, IsPartitionPoint}
use Rattle.std.proofs.Common.{arith, rules, tests}
use Rattle.std.proofs.lemmas.List.Sorted.{IsNonDecreasingBy-from_default, IsPartitionedBy-leb, IsPartitionPoint-from_clause}
use denote.Param.Members.{Mut}
use denote.Ref.{Bor}
use Rattle.tokens.specs.Unicode.{digits_16}
use Rattle.tokens.proofs.Examples.{nd_spaced}
use Rattle.words.specs.Digits.{Around, rises, parted, found, not_found}
use Rattle.words.proofs.is_digit.Goals as goal

ends : {F : Type 0} {g : Mut F (Bor ℕ × Unit {0}) Bool} {f : F} (v n : ℕ) → n ≤ length digits_16
    → ((q : ℕ → Bool) → ComputesKey g q f → IsPartitionedBy q digits_16 → IsPartitionPoint (λ d. q d ≡ true) (λ d. q d ≡ false) digits_16 n)
    → ((a : Bor ℕ × Unit {0}) (r : Bool) (f' : F) → Called g f a r f' → (r ≡ leb a.0.now v) × (f' ≡ f)) → Around digits_16 v n n
ends v n h p k =
    let s = IsPartitionedBy-leb (λ d. d) digits_16 v (IsNonDecreasingBy-from_default (λ d. d) digits_16 0 (rises digits_16 nd_spaced)) in
    parted digits_16 v h (IsPartitionPoint-from_clause (λ d. leb d v) digits_16 n p s k)

pub overflow_sub-result-then-runs-ne0 : goal.overflow_sub-result-then-runs-ne0
unfolding digits_16
overflow_sub-result-then-runs-ne0 c =
    let p = c.partition_point-runs.ensures in
    (ends c.args.v _ p.bound p.partitioned (λ a r f' k. search (rules, tests))).below c.if-runs-ne0.true

pub returns-then-runs-ne0 : goal.returns-then-runs-ne0
unfolding digits_16
returns-then-runs-ne0 c =
    let p = c.partition_point-runs.ensures in
    found digits_16 c.args.v (ends c.args.v _ p.bound p.partitioned (λ a r f' k. search (rules, tests))) nd_spaced (omega arith) c.if-runs-ne0.true

pub returns-else-runs-ne0 : goal.returns-else-runs-ne0
unfolding digits_16
returns-else-runs-ne0 c =
    let p = c.partition_point-runs.ensures in
    let e = ends c.args.v _ p.bound p.partitioned (λ a r f' k. search (rules, tests)) in
    rw c.if-runs-ne0.false (not_found digits_16 c.args.v e nd_spaced (omega arith) c.if-runs-ne0.false)
