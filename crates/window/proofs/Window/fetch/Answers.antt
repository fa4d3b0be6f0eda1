-- Where the token wanted is there, nothing is to be fetched; else what fetching promises is what is reached.
-- Assumes nothing.
use Rattle.std.proofs.Common.{ℕ, ◌-◌, ap, ◌∙◌, arith}
use Rattle.window.specs.Window.{state}
use Rattle.window.specs.TestLaws.{kept_in_order}
use Rattle.window.specs.ReachingParts.{gathered, turned}
use Rattle.window.specs.ReachingLaws.{reached_now, reached_by, reached_turned}
use Rattle.window.proofs.Window.fetch.Goals as goal

pub returns-then-n-ready : goal.returns-then-n-ready
returns-then-n-ready c =
    let a = c.args in
    reached_now a.src.now (state a.self.now a.room.now) c.requires _ (omega arith)

pub overflow_sub-self : goal.overflow_sub-self
overflow_sub-self c = omega (arith, c.kept.ensures ∙ kept_in_order c.args.self.now c.requires.held_marks, c.requires.room)

pub returns : goal.returns
returns c =
    let a = c.args in
    let w = a.self.now in
    let spare = ap (λ (n : ℕ). w.slots - n) (c.kept.ensures ∙ kept_in_order w c.requires.held_marks) in
    reached_turned w c.fetch.result c.fetch.new.room ∙ ap (λ o. turned w (gathered w.reader w.fetched o)) c.fetch.ensures
    ∙ reached_by a.src.now (state w a.room.now) c.requires a.n _ _ c.if-n-ready.false (omega (arith, c.min-need.ensures)) spare
