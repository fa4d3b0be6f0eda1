-- The bookmarks are tested before it is asked how many tokens are kept, for that is told by the first of them where they are in order.
-- Assumes nothing.
use Rattle.std.proofs.Common.{◌≤◌, ◌<◌, sym, ◌∙◌, arith}
use borrow.Author.Tests.{lt-leb, leb-true, leb-false}
use Rattle.window.specs.Window.{kept}
use Rattle.window.specs.TestLaws.{kept_in_order, unsound, sound_last}
use Rattle.window.proofs.Window.is_sound.Goals.{then-self, else-self}
use Rattle.window.proofs.Window.is_sound.Goals as goal

pub returns-then-not-is_as_opened : goal.returns-then-not-is_as_opened
returns-then-not-is_as_opened c =
    let a = c.args in
    unsound a.bytes a.len a.self.now 0 (sym c.is_as_opened.ensures ∙ c.if-not-is_as_opened.true)

pub returns-then-not-is_sound : goal.returns-then-not-is_sound
returns-then-not-is_sound c =
    let a = c.args in
    unsound a.bytes a.len a.self.now 1 (sym c.is_sound.ensures ∙ c.if-not-is_sound.true)

pub returns-then-kept-self : goal.returns-then-kept-self
returns-then-kept-self c =
    let a = c.args in
    let w = a.self.now in
    let in_order = sym c.is_sound.ensures ∙ c.if-not-is_sound.false in
    elim c.if-self.branch [
      | then-self b ↦
          let few = leb-true _ _ (sym b.value-is ∙ c.if-kept-self.true) in
          let room : kept w ≤ w.slots = omega (arith, b.kept.ensures ∙ kept_in_order w in_order, few) in
          c.is_placed.ensures ∙ sound_last a.bytes a.len w (sym c.is_as_opened.ensures ∙ c.if-not-is_as_opened.false) in_order b.if-self.true room
      | else-self b ↦ absurd (omega (arith, leb-true _ _ (sym b.value-is ∙ c.if-kept-self.true), b.if-self.false))
    ]

pub returns-else-kept-self : goal.returns-else-kept-self
returns-else-kept-self c =
    let a = c.args in
    let w = a.self.now in
    let in_order = sym c.is_sound.ensures ∙ c.if-not-is_sound.false in
    c.if-kept-self.false
    ∙ (elim c.if-self.branch [
      | then-self b ↦
          let many = leb-false _ _ (sym b.value-is ∙ c.if-kept-self.false) in
          let more : w.slots < kept w = omega (arith, b.kept.ensures ∙ kept_in_order w in_order, many) in
          unsound a.bytes a.len w 3 (lt-leb (kept w) w.slots more)
      | else-self b ↦ unsound a.bytes a.len w 2 (lt-leb _ _ b.if-self.false)
    ])
