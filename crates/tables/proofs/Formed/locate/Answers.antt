use Rattle.std.proofs.Common.{arith}
use Rattle.tables.specs.Shown.{Located}
use Rattle.tables.proofs.Showing.{is-absent, is-field, starts-below, lies_at}
use Rattle.tables.proofs.Formed.locate.Goals as goal

pub returns-in_err-k : goal.returns-in_err-k
returns-in_err-k c = rw c.from_residual.ensures (Located.absent (is-absent c.in_err-k.ensures))

pub start_of-start-requires : goal.start_of-start-requires
start_of-start-requires c = omega (arith, is-field c.in_ok-k.ensures)

pub offset_bounds-ends-k : goal.offset_bounds-ends-k
offset_bounds-ends-k c = omega (arith, is-field c.in_ok-k.ensures, c.well_formed)

pub bounds-ends-k : goal.bounds-ends-k
bounds-ends-k c = is-field c.in_ok-k.ensures

-- the field begins no later than it ends
pub overflow_sub-result : goal.overflow_sub-result
overflow_sub-result c = rw c.start_of-start.ensures (starts-below c.in_ok-k.ensures)

pub returns : goal.returns
returns c = lies_at c.in_ok-k.ensures c.start_of-start.ensures
