-- How a call goes on from what reaching its tokens answers.
-- Assumes nothing.
use Rattle.token_record.specs.Record.{Call, Answer, token, none, truth, index, done, refused, Reply, reply}
use Rattle.window.specs.Window.{State, answered}

-- a call that has reached its tokens answers; one that was refused has
unfoldable pub proceed : Call → Answer → State → Reply State
proceed c done v = answered c v
proceed c (token x) v = reply (token x) v
proceed c none v = reply none v
proceed c (truth b) v = reply (truth b) v
proceed c (index i) v = reply (index i) v
proceed c (refused n) v = reply (refused n) v
