-- `walk::pass_fields` meets its contract.
use Prim.Native.Nat.{◌+◌, ◌-◌}
use native.Mathlib.Omega.{arith}
use mathlib.Core.Path.{◌≡◌, ◌∙◌}
use lib.Count.{count_trailing_zeros}
use Rattle.fill.proofs.Grown.{same-then}
use Rattle.walk.proofs.Fields.{block_at, first-stop, no_stop, stop-on, field-after, field-within, fields-next}
use Rattle.walk.proofs.pass_fields.Goals as goal

pub returns-then-not-begins-clause-wrote : goal.returns-then-not-begins-clause-wrote
returns-then-not-begins-clause-wrote c = λ w. c.pass_content.ensures w _ _

pub loop-w-init : goal.loop-w-init
loop-w-init c =
    let v = c.loop-i.invariant in
    let k = block_at c.args.stops.now.marks c.args.file.now c.loop-i.i c.block_end-e.result c.word_at-w.result c.block_end-e.ensures c.loop-i-test.true c.word_at-w.ensures in
    record { base = v.base; same = v.same; fields = v.fields; marked = k.1; within = k.2; small = k.3 }

pub returns-in_default-put_field-clause-wrote : goal.returns-in_default-put_field-clause-wrote
returns-in_default-put_field-clause-wrote c = rw c.in_default-put_field.ensures.put.unchanged c.loop-w.invariant.fields.wrote

pub overflow_sub-h : goal.overflow_sub-h
overflow_sub-h c =
    let v = c.loop-w.invariant in
    let stop = first-stop v.base v.fields c.block_end-e.result c.loop-w.w v.marked v.within v.small c.loop-w-test.true in
    omega (arith, field-after v.fields stop.1 c.in-Some.ensures c.in-Some-put_field.ensures.put)

pub loop-w-smaller : goal.loop-w-smaller
loop-w-smaller c =
    let v = c.loop-w.invariant in
    let stop = first-stop v.base v.fields c.block_end-e.result c.loop-w.w v.marked v.within v.small c.loop-w-test.true in
    let put = c.in-Some-put_field.ensures.put in
    omega (arith, field-after v.fields stop.1 c.in-Some.ensures put, field-within v.fields stop.1 c.in-Some.ensures put)

pub loop-w-preserved : goal.loop-w-preserved
loop-w-preserved c =
    let v = c.loop-w.invariant in
    let stop = first-stop v.base v.fields c.block_end-e.result c.loop-w.w v.marked v.within v.small c.loop-w-test.true in
    let put = c.in-Some-put_field.ensures.put in
    let after = field-after v.fields stop.1 c.in-Some.ensures put in
    record {
      base = v.base;
      same = same-then v.same c.put_field.ensures.same;
      fields = fields-next v.fields stop.1 c.in-Some.ensures put;
      marked = c.shifted-w.ensures ∙ stop-on v.base v.fields c.block_end-e.result c.loop-w.w v.marked v.within (count_trailing_zeros 64 c.loop-w.w) c.in-Some-put_field.next.at (omega arith);
      within = v.within;
      small = omega (arith, v.small, after);
    }

pub loop-i-preserved : goal.loop-i-preserved
loop-i-preserved c =
    let v = c.loop-w.invariant in
    let later : c.loop-w.i + (c.block_end-e.result - c.loop-w.i) ≡ c.max-i.result = omega (arith, c.max-i.ensures) in
    record { base = v.base; same = v.same; fields = rw later at (no_stop v.base v.fields c.block_end-e.result c.loop-w.w v.marked v.within c.loop-w-test.false) }
