-- `walk::walked` meets its contract. The loop's invariant: what lies between where the walk began and where it is has been written.
-- The measure is what is left of the file.
use Prim.Native.Nat.{◌-◌}
use mathlib.Core.Bool.{Bool}
use lib.ListN.{length}
use Rattle.format.specs.Meant.{dialect_of}
use Rattle.fill.specs.Buffers.{SameBuffers, lists}
use Rattle.fill.specs.Walk.{Wrote}
use Rattle.walk.proofs.walked.Given as goal

abbrev pub invariant-loop-q : goal.invariant-loop-q
invariant-loop-q l = record {
  same : SameBuffers l.initial.to l.to;
  wrote : (w : Bool) → Wrote w (dialect_of l.dialect) l.file l.initial.h (lists l.initial.to) l.h (lists l.to);
}

abbrev pub decreases-loop-q : goal.decreases-loop-q
decreases-loop-q l = length l.file - l.h.at
