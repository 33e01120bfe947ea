use Rattle.std.proofs.Common.{◌-◌}
use Rattle.buoycheck.proofs.main.Given as goal

-- each read adds a byte at least, and past the limit no more is read
abbrev pub decreases-loop-total : goal.decreases-loop-total
decreases-loop-total l = 16777217 - l.total
