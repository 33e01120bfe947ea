-- `walk::walked` meets its contract.
use native.Mathlib.Omega.{arith}
use mathlib.Core.Bool.{true}
use Rattle.fill.proofs.Grown.{same-then, wrote_then}
use Rattle.stride.proofs.Walk.{ample-on}
use Rattle.walk.proofs.walked.Goals as goal

pub pass_fields-h-requires : goal.pass_fields-h-requires
pass_fields-h-requires c = (c.in-Some.ensures.wrote true).inside (omega (arith, c.in-Some.ensures.further.0))

pub loop-q-smaller : goal.loop-q-smaller
loop-q-smaller c = omega (arith, c.in-Some.ensures.further, (c.pass_fields-h.ensures.wrote true).on)

pub loop-q-preserved : goal.loop-q-preserved
loop-q-preserved c =
    let v = c.loop-q.invariant in
    let k = c.pass_fields-h.ensures in
    record {
      same = same-then v.same (same-then c.take_byte.ensures.same k.same);
      wrote = λ w. wrote_then (v.wrote w) (wrote_then (c.in-Some.ensures.wrote w) (rw c.new-stops.ensures at (k.wrote w)));
    }

pub returns-clause-to_the_end : goal.returns-clause-to_the_end
returns-clause-to_the_end c = λ w m. c.in_default.ensures.no_room_or_byte w (ample-on (c.loop-q.invariant.wrote w) m)
