-- What `Decided` asks is asked of scalar values alone, and of what is answered: no character has another value, and what is never answered
-- is as good as right. Assumes nothing.
use Rattle.patterns.specs.Utf8.{Class, Scalar}
use Rattle.utf8.specs.Runs.{Decided}
use Rattle.std.specs.Prelude.{◌≡◌}

-- a test that is right of scalar values, and answers anything of other numbers, decides the class
right_of_scalars : (f : Class) → Decided f (λ v r. Scalar v → r ≡ f v)
right_of_scalars f v r s e = e s
