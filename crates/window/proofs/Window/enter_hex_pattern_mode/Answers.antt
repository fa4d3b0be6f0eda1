-- The reader's own switch, where it stands: behind the last token fetched.
-- Assumes nothing.
use Rattle.std.proofs.Common.{refl, ap, ◌∙◌}
use Rattle.tokens.specs.declared.Mode.TheVariants.{HexPattern}
use Rattle.token_record.specs.Record.{enter_hex_pattern_mode}
use Rattle.refusals.specs.declared.Given.{Given}
use Rattle.window.specs.declared.Window.{Window}
use Rattle.window.specs.Window.{state, answered, done_reply}
use Rattle.window.specs.SwitchLaws.{switches}
use Rattle.window.proofs.Window.enter_hex_pattern_mode.Goals as goal

pub returns : goal.returns
unfolding answered
returns c =
    let a = c.args in
    ap (λ (g : Given Unit Window). done_reply g a.room.now) c.switch.ensures
    ∙ switches a.src.now (state a.self a.room.now) _ enter_hex_pattern_mode HexPattern refl refl c.enter_hex_pattern_mode-in_pattern_mode.ensures
