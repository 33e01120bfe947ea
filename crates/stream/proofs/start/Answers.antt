-- `stream::start` meets its contract.
use Rattle.output.proofs.Closing.{start-onward}
use Rattle.stream.proofs.start.Goals as goal

pub returns : goal.returns
returns c = start-onward c.start.ensures.result c.onward.ensures
