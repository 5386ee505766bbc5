-- The league's share, then the search.
use Rattle.std.proofs.Common.{◌∙◌}
use Rattle.league_table.proofs.Counts.{may-find}
use Rattle.league_table.proofs.own.may_declare.Goals as goal

pub returns-else-own-lt-SHARE : goal.returns-else-own-lt-SHARE
returns-else-own-lt-SHARE c =
    let a = c.args in
    c.is_ok.ensures.value ∙ may-find a.n a.b.now a.own a.key c.requires.b_value _ c.if-own-lt-SHARE.false c.find.ensures
