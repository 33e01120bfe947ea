use Rattle.tables.proofs.Distances.{nothing_strays}
use Rattle.writer.proofs.first_uneven.Goals as goal

pub returns-in_err-width : goal.returns-in_err-width
returns-in_err-width c = rw c.from_residual.ensures (nothing_strays _ _ _ _ c.in_err-width.ensures.item.3)
