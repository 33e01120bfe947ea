-- `reader::write_table` meets its contract.
use mathlib.Core.Bool.{true}
use Rattle.reader.proofs.Last.{with-last, without-last}
use Rattle.reader.proofs.write_table.Goals as goal

pub returns-then-last-clause-written : goal.returns-then-last-clause-written
returns-then-last-clause-written c =
    let g = c.walked-last.ensures in
    with-last c.requires (g.wrote true) (g.to_the_end true c.requires) c.put_end.result c.if-last.true c.put_end.ensures.put

pub returns-else-last-clause-written : goal.returns-else-last-clause-written
returns-else-last-clause-written c =
    let g = c.walked-last.ensures in
    without-last c.requires (g.wrote true) (g.to_the_end true c.requires) c.if-last.false
