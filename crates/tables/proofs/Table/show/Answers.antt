use Rattle.std.proofs.Common.{rules}
use Rattle.tables.proofs.Showing.{shows_part, shows_stand-in}
use Rattle.tables.proofs.Table.show.Goals as goal

pub slice_bounds-result-end : goal.slice_bounds-result-end
slice_bounds-result-end c = let inside = (shows_part {stand-in = c.args.stand_in.now} c.in-Some.ensures).0 in search rules

pub returns-in-Some : goal.returns-in-Some
returns-in-Some c = (shows_part c.in-Some.ensures).1

pub returns-in-None : goal.returns-in-None
returns-in-None c = shows_stand-in c.in-None.ensures
