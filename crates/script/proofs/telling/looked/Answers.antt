-- The word and the date, one after the other.
use Rattle.script.proofs.Told.{joined}
use Rattle.script.proofs.telling.looked.Goals as goal

pub returns-in_ok-write_all-in-Declared : goal.returns-in_ok-write_all-in-Declared
returns-in_ok-write_all-in-Declared g c =
    rw c.in-Declared.is (joined _ _ _ _ _ _ c.in_ok-write_all-in-Declared.ensures.bytes c.dated.ensures)
