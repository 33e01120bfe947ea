-- `walk::pass_fields` meets its contract. Up to i the bytes from h on are plain text, and what lies before h is written; w has the
-- marks from i on to the block's end.
use Prim.Native.Nat.{◌-◌, ◌≤◌}
use lib.ListN.{length}
use Rattle.format.specs.Meant.{dialect_of}
use Rattle.words.proofs.Words.{Marked}
use Rattle.fill.specs.Buffers.{SameBuffers, lists}
use Rattle.walk.proofs.Fields.{Base, Fields}
use Rattle.walk.proofs.pass_fields.Given as goal

abbrev pub invariant-loop-w : goal.invariant-loop-w
invariant-loop-w l = record {
  base : Base (dialect_of l.dialect) l.stops.marks l.file;
  same : SameBuffers l.fn.to l.to;
  fields : Fields (dialect_of l.dialect) l.file l.fn.p (lists l.fn.to) l.i l.h (lists l.to);
  marked : Marked l.stops.marks l.file l.e l.i l.w;
  within : l.e ≤ length l.file;
  small : l.e - l.i ≤ 64;
}

abbrev pub decreases-loop-w : goal.decreases-loop-w
decreases-loop-w l = length l.file - l.i

abbrev pub invariant-loop-i : goal.invariant-loop-i
invariant-loop-i l = record {
  base : Base (dialect_of l.dialect) l.stops.marks l.file;
  same : SameBuffers l.fn.to l.to;
  fields : Fields (dialect_of l.dialect) l.file l.fn.p (lists l.fn.to) l.i l.h (lists l.to);
}

abbrev pub decreases-loop-i : goal.decreases-loop-i
decreases-loop-i l = length l.file - l.i
