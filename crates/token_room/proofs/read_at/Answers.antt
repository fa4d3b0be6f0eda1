-- `token_room::read_at` meets its contract: its three loads are a token's numbers, one after the other.
-- Assumes nothing.
use Rattle.token_room.specs.RoomLaws.{loaded}
use Rattle.token_room.proofs.read_at.Goals as goal

pub returns : goal.returns
returns c = let a = c.args in loaded a.room.now a.at
