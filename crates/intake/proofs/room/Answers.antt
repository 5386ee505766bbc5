-- The room is those bytes by definition.
use Rattle.std.proofs.Common.{refl}
use Rattle.intake.specs.Rooms.{zeros}
use Rattle.intake.proofs.room.Goals as goal

pub returns : goal.returns
unfolding zeros
returns g c = refl
