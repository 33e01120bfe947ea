-- `spans::inside_from` meets its contract.
use Prim.Native.Nat.{◌-◌, ◌<◌}
use lib.ListN.{length}
use Rattle.spans.specs.Walk.{Between}
use Rattle.spans.proofs.inside_from.Given as goal

abbrev pub invariant-loop-x : goal.invariant-loop-x
invariant-loop-x l = Between l.s l.at l.x × (length l.s < 18446744073709551616)

abbrev pub decreases-loop-x : goal.decreases-loop-x
decreases-loop-x l = length l.s - l.x.end
