-- `runs::line_feeds`: each byte adds itself to those passed.
use native.Mathlib.Omega.{arith}
use Rattle.runs.proofs.Lines.{feeds-more, feeds-none}
use Rattle.runs.proofs.line_feeds.Goals as goal

pub loop-b-preserved : goal.loop-b-preserved
loop-b-preserved c =
    let more = feeds-more c.bytes_from-b-items.result.now c.loop-b.b-index c.from-feeds.result c.loop-b-test.true c.from-feeds.ensures in
    (omega (arith, more.0), omega (arith, more.1))

pub returns : goal.returns
returns c = omega (arith, feeds-none c.bytes_from-b-items.result.now c.loop-b.b-index (omega arith))
