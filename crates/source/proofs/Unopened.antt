-- A source over the limit is refused by 24 at each scan, and stays as it is. So is one whose opening was refused: it keeps its bytes, and
-- no call changes them. Assumes nothing.
use Rattle.std.specs.Prelude.{ℕ, ◌<◌, ◌≡◌, List, length, leb}
use Rattle.std.proofs.Common.{arith, leb-false}
use Rattle.std.proofs.lemmas.Bool.{lt-leb}
use Rattle.std.specs.Borrow.{Bor}
use Rattle.patterns.proofs.Bools.{by_test}
use Rattle.refusals.specs.Calls.{reply}
use Rattle.reader.specs.Reading.{refused, source_limit}
use Rattle.source.specs.declared.Source.{Source}
use Rattle.source.specs.Sources.{opened_on}
use Rattle.source.specs.Next.{next_of}

pub over_long_refused : (s : Source) → source_limit < length s.src.now → next_of s ≡ reply (refused 24) s
over_long_refused s h = rw (lt-leb (length s.src.now) source_limit h)

-- what a refused opening says of the bytes, which the source keeps
pub unopened_over_long : (src : Bor (List ℕ)) → (opened_on src).answer ≡ refused 1 → source_limit < length src.now
unopened_over_long src e =
    by_test (leb (length src.now) source_limit)
    (λ p. let q = rw p at e in let z : ◌≡◌ {A = ℕ} 0 1 = cc in absurd (omega arith))
    (λ p. leb-false (length src.now) source_limit p)
