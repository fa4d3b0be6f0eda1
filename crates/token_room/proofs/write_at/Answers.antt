-- Its three stores are the token's numbers, one after the other.
-- Assumes nothing.
use Rattle.token_room.specs.RoomLaws.{stored}
use Rattle.token_room.proofs.write_at.Goals as goal

pub returns : goal.returns
returns c = let a = c.args in stored a.room.now a.at a.token
