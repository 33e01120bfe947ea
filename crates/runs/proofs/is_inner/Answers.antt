-- `runs::is_inner` meets its contract: its tests are the ranges of an inner byte.
use mathlib.Core.Path.{sym}
use Rattle.runs.proofs.Bytes.{inner-range}
use Rattle.runs.proofs.is_inner.Goals as goal

pub returns : goal.returns
returns c = sym (inner-range c.args.b)
