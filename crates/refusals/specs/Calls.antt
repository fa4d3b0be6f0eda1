-- What a call leaves, over any answers and any state: its answer and the state after it; and calls one after the other.
-- Assumes nothing.
use Rattle.std.specs.Prelude.{ℕ, Bool, cond, List, [], ◌∷◌}

pub record Reply (A S : Type 0) : Type 0 where
  pub answer : A
  pub after : S

abbrev pub reply : {A S : Type 0} → A → S → Reply A S
reply a s = record { answer = a; after = s }

-- The first test that holds refuses the call, by its number, and the state stays; else there is the reply.
abbrev pub unless : {A S : Type 0} → (ℕ → A) → List (Bool × ℕ) → S → Reply A S → Reply A S
unless refused [] s r = r
unless refused (g ∷ gs) s r = cond g.0 (reply (refused g.1) s) (unless refused gs s r)

-- The answers to calls, and the state after all of them.
unfoldable pub run : {C A S : Type 0} → (C → S → Reply A S) → List C → S → List A
run f [] s = []
run f (c ∷ cs) s = (f c s).answer ∷ run f cs (f c s).after

unfoldable pub after_all : {C A S : Type 0} → (C → S → Reply A S) → List C → S → S
after_all f [] s = s
after_all f (c ∷ cs) s = after_all f cs (f c s).after
