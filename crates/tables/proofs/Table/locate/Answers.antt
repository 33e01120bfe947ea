use Rattle.tables.specs.Shown.{Located, malformed}
use Rattle.tables.proofs.Table.locate.Goals as goal

pub returns-in_err-formed : goal.returns-in_err-formed
returns-in_err-formed c = rw c.from_residual.ensures (Located.absent (malformed c.in_err-formed.ensures))
