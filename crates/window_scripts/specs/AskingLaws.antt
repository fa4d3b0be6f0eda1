-- Which call a number is; that a call's reply, its answer told as numbers, is what the code gives; and that two results that satisfy this
-- promise are equal, with every lent number. Assumes nothing.
use Rattle.std.specs.Prelude.{ℕ, ◌<◌, ◌≤◌, ◌≡◌, refl, List, get_or, leb}
use Rattle.std.proofs.Common.{sym, ◌∙◌, arith, leb-true, leb-false}
use Rattle.std.proofs.Math.ListN.{get_or-eq_default}
use Rattle.patterns.proofs.Bools.{by_test}
use Rattle.patterns.specs.Determined.{Once}
use Rattle.patterns.proofs.Determined.{once}
use Rattle.token_record.specs.Record.{current_token_index, Answer, Reply, reply}
use Rattle.window.specs.declared.Window.{Window}
use Rattle.window.specs.Window.{State, state}
use Rattle.window_scripts.specs.declared.asking.ToldGiven.{ToldGiven}
use Rattle.window_scripts.specs.Asking.{calls, call_of, numbers, told_reply, told_of}

-- The call of a number.
pub call_known : (op arg n : ℕ) → op ≡ n → call_of op arg ≡ get_or (calls arg) n current_token_index
unfolding call_of
call_known op arg n e = rw e

pub call_beyond : (op arg : ℕ) → 8 ≤ op → call_of op arg ≡ current_token_index
unfolding call_of
call_beyond op arg h = get_or-eq_default (calls arg) current_token_index h

-- those from 6 on want no argument
pub call_plain : (op arg : ℕ) → 6 ≤ op → call_of op arg ≡ call_of op 0
call_plain op arg h =
    by_test (leb 8 op)
    (λ e. let l : 8 ≤ op = leb-true _ _ e in call_beyond op arg l ∙ sym (call_beyond op 0 l))
    (λ e. let l : op < 8 = leb-false _ _ e in
    by_test (leb 7 op)
    (λ e. let k : 7 ≤ op = leb-true _ _ e in let n : op ≡ 7 = omega arith in call_known op arg 7 n ∙ sym (call_known op 0 7 n))
    (λ e. let k : op < 7 = leb-false _ _ e in let n : op ≡ 6 = omega arith in call_known op arg 6 n ∙ sym (call_known op 0 6 n)))

-- The answer and the window of a call, told; and that this is its reply.
pub record Tells (a : Answer) (w : Window) (c : ToldGiven) : Type 0 where
  pub window_after : c.window ≡ w
  pub answer_told : c.told ≡ numbers a

pub gave : {y : Reply State} {a : Answer} {w : Window} {room : List ℕ} {c : ToldGiven} → reply a (state w room) ≡ y → Tells a w c → told_reply c room ≡ told_of y
gave e t = rw (← e, t.window_after, t.answer_told)

pub told_once : Once (λ (p : ToldGiven × List ℕ). told_reply p.0 p.1)
told_once =
    once _
    (λ q. (record { window = q.0.window; told = q.1 }, q.0.room)) (λ p. refl)
