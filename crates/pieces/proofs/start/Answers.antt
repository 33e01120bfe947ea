-- `pieces::start` meets its contract.
use Rattle.pieces.proofs.Stands.{so-started}
use Rattle.state.proofs.Parts.{started-is}
use Rattle.pieces.proofs.start.Goals as goal

pub returns : goal.returns
returns c = so-started (rw (c.nowhere.ensures, c.first_place-here.ensures, started-is))
