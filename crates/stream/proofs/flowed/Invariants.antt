-- `stream::flowed` meets its contract. The loop's invariant: what is to come from the start on is what has come, and then the rest.
use Prim.Native.Nat.{◌-◌}
use lib.ListN.{length}
use Rattle.fill.specs.Buffers.{SameBuffers, lists}
use Rattle.taking.specs.Walk.{rest_of, Grew}
use Rattle.stream.proofs.flowed.Given as goal

abbrev pub invariant-loop-flow : goal.invariant-loop-flow
invariant-loop-flow l = record {
  same : SameBuffers l.initial.to l.to;
  grew : Grew l.piece l.initial.flow (lists l.initial.to) l.flow (lists l.to) (rest_of l.flow l.piece (lists l.to));
}

abbrev pub decreases-loop-flow : goal.decreases-loop-flow
decreases-loop-flow l = length l.piece - l.flow.taken
