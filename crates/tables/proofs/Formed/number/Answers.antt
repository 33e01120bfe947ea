use Rattle.tables.proofs.Showing.{lacks-record, counted}
use Rattle.tables.proofs.Formed.number.Goals as goal

pub returns-in_err-numbers : goal.returns-in_err-numbers
returns-in_err-numbers c = rw c.from_residual.ensures (lacks-record c.args.self.now.well_formed c.in_err-numbers.ensures)

pub returns : goal.returns
returns c = rw c.then_some.ensures (counted c.args.self.now.well_formed c.in_ok-numbers.ensures)
