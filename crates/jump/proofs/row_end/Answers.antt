-- `jump::row_end` meets its contract.
use native.Mathlib.Omega.{arith}
use Rattle.jump.proofs.Bytes.{row-stops, row_goes}
use Rattle.jump.proofs.row_end.Goals as goal

pub returns-then-w-ne0 : goal.returns-then-w-ne0
returns-then-w-ne0 c =
    (row-stops _ _ _ (λ j. omega (arith, c.type_inv.file j)) c.loop-at.invariant c.loop-at-test.true c.word_at-w.ensures c.if-w-ne0.true).1

pub loop-at-preserved : goal.loop-at-preserved
loop-at-preserved c =
    (row_goes _ _ _ (λ j. omega (arith, c.type_inv.file j)) c.loop-at.invariant c.loop-at-test.true c.word_at-w.ensures c.if-w-ne0.false c.block_end-at.ensures).1
