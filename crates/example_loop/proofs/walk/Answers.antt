-- Why the loop of `example_loop::walk` ends, and keeps what is said of it: a call that gives a token moves the index on by one, and never
-- past the number of bytes. This is the law `taken` of the crate window, of any window and any room: from what `next_token` ensures, and
-- from the arm of the `match`, in which its answer is a token; the window that the loop goes on with is the one that `left_in` left.
-- Assumes nothing.
use Rattle.std.proofs.Common.{◌≡◌, ap, arith, rules, Ok, Some}
use Rattle.window.specs.declared.Window.{Window}
use Rattle.window.specs.Taking.{taken}
use Rattle.example_loop.proofs.walk.Goals as goal

pub loop-token-smaller : goal.loop-token-smaller
loop-token-smaller g c =
    let answer : c.next_token.result.answer ≡ Ok (Some c.in-Ok-Some.token) = search rules in
    let further = taken _ _ _ _ _ _ c.next_token.ensures answer in
    let left = ap (λ (w : Window). w.current.0) c.left_in.ensures.1 in
    omega (arith, further.next, further.within, left)

pub loop-token-preserved : goal.loop-token-preserved
loop-token-preserved g c =
    let answer : c.next_token.result.answer ≡ Ok (Some c.in-Ok-Some.token) = search rules in
    let further = taken _ _ _ _ _ _ c.next_token.ensures answer in
    let left = ap (λ (w : Window). w.current.0) c.left_in.ensures.1 in
    (omega (arith, further.next, left), omega (arith, further.next, further.within, left))
