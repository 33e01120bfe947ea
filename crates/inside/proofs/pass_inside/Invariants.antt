-- `inside::pass_inside` meets its contract.
use Prim.Native.Nat.{◌-◌}
use lib.ListN.{length}
use Rattle.fill.specs.Walk.{Inside}
use Rattle.inside.proofs.pass_inside.Given as goal

abbrev pub invariant-loop-next : goal.invariant-loop-next
invariant-loop-next l = Inside l.file l.p.at l.p.text l.initial.text l.here.at l.here.text l.text

abbrev pub decreases-loop-next : goal.decreases-loop-next
decreases-loop-next l = length l.file - l.here.at
