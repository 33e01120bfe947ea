-- `spans::walk_on` meets its contract.
use Prim.Native.Nat.{◌-◌}
use mathlib.Core.Path.{◌≡◌}
use lib.ListN.{length}
use Rattle.spans.specs.Walk.{ends_of, Walking}
use Rattle.spans.proofs.Words.{Ground, Reading}
use Rattle.spans.proofs.walk_on.Given as goal

abbrev pub invariant-loop-w : goal.invariant-loop-w
invariant-loop-w l = Reading l.fn.check l.plain.marks l.s l.at l.x l.e l.w × (l.ends ≡ ends_of l.fn.check)

abbrev pub decreases-loop-w : goal.decreases-loop-w
decreases-loop-w l = length l.s - l.x.at

abbrev pub invariant-loop-x : goal.invariant-loop-x
invariant-loop-x l = Walking l.fn.check l.s l.at l.x × Ground l.fn.check l.plain.marks l.s × (l.ends ≡ ends_of l.fn.check)

abbrev pub decreases-loop-x : goal.decreases-loop-x
decreases-loop-x l = length l.s - l.x.at
