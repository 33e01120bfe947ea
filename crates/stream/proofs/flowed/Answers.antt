-- `stream::flowed` meets its contract. The loop's invariant: what is to come from the start on is what has come, and then the rest.
use native.Mathlib.Omega.{arith}
use mathlib.Core.Path.{refl}
use Rattle.fill.proofs.Grown.{same-then}
use Rattle.taking.proofs.Growing.{grew_none}
use Rattle.stream.proofs.Whole.{turn-ended, turn-taken, turn_last}
use Rattle.stream.proofs.flowed.Goals as goal

pub loop-flow-init : goal.loop-flow-init
loop-flow-init c =
    record {
      same = record { same_text = refl; same_ends = refl; same_rows = refl };
      grew = rw c.new-flow.ensures (grew_none (record { taken_in = omega arith; text_in = omega arith; ends_in = omega arith; rows_in = omega arith }));
    }

pub returns-then-flow-before-clause-grew : goal.returns-then-flow-before-clause-grew
returns-then-flow-before-clause-grew c =
    let part = c.passed-part.ensures in
    rw c.new-flow.ensures at (turn-ended c.loop-flow.invariant.grew _ part.grew part.unwritten c.unwrap_or-before.ensures c.take_byte-flow.ensures.took c.if-flow-before.true)

pub loop-flow-preserved : goal.loop-flow-preserved
loop-flow-preserved c =
    let part = c.passed-part.ensures in
    let v = c.loop-flow.invariant in
    record {
      same = same-then v.same (same-then part.same c.take_byte-flow.ensures.same);
      grew = turn-taken v.grew _ part.grew part.unwritten c.unwrap_or-before.ensures c.take_byte-flow.ensures.took c.if-flow-before.false;
    }

pub returns-clause-grew : goal.returns-clause-grew
returns-clause-grew c = rw c.new-flow.ensures at (turn_last c.loop-flow.invariant.grew c.take_byte.ensures.took c.loop-flow-test.false)
