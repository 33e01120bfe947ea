-- `runs::since_lf` meets its contract: the bytes from the end that are no LF are those behind the last.
use Rattle.std.proofs.Common.{◌∙◌, drop, not, rules, tests}
use lib.Dec.{eqb}
use Rattle.std.proofs.lemmas.Iterator.Adapters.{YieldsList-from_rev_slice}
use Rattle.runs.proofs.Blocks.{counted-front}
use Rattle.runs.proofs.Lines.{since-counted}
use Rattle.runs.proofs.since_lf.Goals as goal

pub returns : goal.returns
returns c =
    let rest = drop c.args.from c.args.s.now in
    counted-front _ (λ b. not (eqb b 0x0A)) _ c.count.ensures.ran (YieldsList-from_rev_slice rest cc) c.take_while.ensures.closure c.take_while.ensures.done (λ x b q k. search (rules, tests))
    ∙ since-counted rest
