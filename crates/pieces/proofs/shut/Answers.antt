-- `pieces::shut` meets its contract.
use Rattle.state.proofs.Parts.{entered-is}
use Rattle.pieces.proofs.shut.Goals as goal

pub returns : goal.returns
returns c = rw (c.along.ensures, entered-is)
