-- The least start.
use Rattle.search_laws.proofs.Room.{least-room}
use Rattle.search_laws.proofs.least_room.Goals as goal

pub returns : goal.returns
returns c = least-room
