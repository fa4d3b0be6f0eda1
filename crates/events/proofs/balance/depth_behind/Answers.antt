-- `events::depth_behind` meets its contract: its tests are the definition's, and an End that is not unmatched ends an open node.
-- Assumes nothing.
use Rattle.events.specs.BalanceLaws.{one_open}
use Rattle.events.proofs.balance.depth_behind.Goals as goal

pub overflow_sub-result : goal.overflow_sub-result
overflow_sub-result c =
    one_open c.args.depth c.args.event c.requires.event_value c.in-1.is
