use Rattle.std.proofs.Common.{length-set}
use Rattle.writer.proofs.Content.{going, room, pair-room, by-quote, by-other, in_all}
use Rattle.writer.proofs.put_inside.Goals as goal
use Rattle.writer.proofs.put_inside.Goals.{then-b-eq34, else-b-eq34}

pub loop-b-init : goal.loop-b-init
loop-b-init c = going _ _ c.requires

pub bounds-out-at : goal.bounds-out-at
bounds-out-at c = room _ _ _ _ _ _ c.loop-b.invariant c.loop-b-test.true

pub bounds-out-at-then-b-eq34 : goal.bounds-out-at-then-b-eq34
bounds-out-at-then-b-eq34 c = simp length-set (pair-room _ _ _ _ _ _ c.loop-b.invariant c.loop-b-test.true c.if-b-eq34.true)

pub loop-b-preserved : goal.loop-b-preserved
loop-b-preserved c =
    elim c.if-b-eq34.branch [
      | then-b-eq34 w ↦ rw (w.out-is, w.at-is) (by-quote _ _ _ _ _ _ c.loop-b.invariant c.loop-b-test.true w.if-b-eq34.true)
      | else-b-eq34 w ↦ rw (w.out-is, w.at-is) (by-other _ _ _ _ _ _ c.loop-b.invariant c.loop-b-test.true w.if-b-eq34.false)
    ]

pub returns-clause-value : goal.returns-clause-value
returns-clause-value c = (in_all _ _ _ _ _ _ c.loop-b.invariant c.loop-b-test.false).0

pub returns-clause-out_after : goal.returns-clause-out_after
returns-clause-out_after c = (in_all _ _ _ _ _ _ c.loop-b.invariant c.loop-b-test.false).1
