-- `jump::Walk::record_end` meets its contract.
use Prim.Native.Nat.{◌-◌}
use lib.ListN.{length}
use Rattle.format.specs.Meant.{dialect_of}
use Rattle.jump.proofs.Bytes.{Going}
use Rattle.jump.proofs.Walk.record_end.Given as goal

abbrev pub invariant-loop-at : goal.invariant-loop-at
invariant-loop-at l = Going (dialect_of l.self.rows.kind.dialect) l.self.file.now l.from l.at l.form

abbrev pub decreases-loop-at : goal.decreases-loop-at
decreases-loop-at l = length l.self.file.now - l.at
