-- Which call a number asks for, and what a call gives in numbers. By the table of the calls, and from what the call itself promises.
-- Assumes nothing.
use Rattle.std.specs.Prelude.{ℕ, ◌≤◌, ◌≡◌, refl, List, get_or}
use Rattle.std.proofs.Math.ListN.{get_or-eq_default}
use Rattle.patterns.specs.Determined.{Once}
use Rattle.patterns.proofs.Determined.{once}
use Rattle.event_record.specs.Record.{Call, pop, Answer, Reply, reply}
use Rattle.events.specs.declared.Stream.{Stream}
use Rattle.events.specs.Stream.{State, state, step}
use Rattle.event_scripts.specs.declared.asking.Asked.{Asked}
use Rattle.event_scripts.specs.declared.asking.ToldGiven.{ToldGiven}
use Rattle.event_scripts.specs.Asking.{kind_of, calls, call_of, asked_for, numbers, told_reply, told_of}

-- the call of a number, and the one of all numbers behind the table
module _ (x : Asked) (s : State) {r : Reply State} where
  pub of_number : (n : ℕ) → x.op ≡ n → r ≡ step (get_or (calls x.arg x.start x.end) n pop) s → r ≡ step (asked_for x) s
  unfolding call_of
  of_number n e h = rw e h

  pub of_kind : (f : ℕ → Call) (n : ℕ) {k : ℕ} → k ≡ kind_of x.arg → f (kind_of x.arg) ≡ get_or (calls x.arg x.start x.end) n pop
      → x.op ≡ n → r ≡ step (f k) s → r ≡ step (asked_for x) s
  of_kind f n p q e h = of_number n e (rw (← q, ← p) h)

  pub of_none : 8 ≤ x.op → r ≡ step pop s → r ≡ step (asked_for x) s
  unfolding call_of
  of_none l h = rw (get_or-eq_default (calls x.arg x.start x.end) pop l) h

-- a call's reply, and the numbers of its answer
pub gave : {y : Reply State} {a : Answer} {t : Stream} {g : ToldGiven} {room opens : List ℕ}
    → reply a (state t room opens) ≡ y → (g.told ≡ numbers a) × (g.stream ≡ t) → told_reply g room opens ≡ told_of y
gave e n = rw (← e, n.0, n.1)

-- two results that satisfy the promise are equal, with every lent number
pub told_once : Once (λ (p : ToldGiven × (List ℕ × List ℕ)). told_reply p.0 p.1.0 p.1.1)
told_once =
    once _ (λ q. (record { told = q.0; stream = q.1.stream }, (q.1.room, q.1.opens))) (λ p. refl)
