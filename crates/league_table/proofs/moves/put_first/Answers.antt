-- League 1, then the bytes of the entry.
use Rattle.league_table.proofs.Moved.{first-stores}
use Rattle.league_table.proofs.moves.put_first.Goals as goal

pub returns : goal.returns
returns c =
    let a = c.args in
    first-stores a.from.now a.to.now a.at a.target c.requires.0 c.requires.1 c.copy_from_slice.ensures.after
