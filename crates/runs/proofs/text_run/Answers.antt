-- `runs::text_run` meets its contract.
use Rattle.std.proofs.Common.{drop, rules, tests}
use Rattle.std.proofs.lemmas.Iterator.{YieldsList-from_slice}
use Rattle.format.specs.Meant.{dialect_of}
use Rattle.runs.specs.Runs.{run, is_plain}
use Rattle.runs.proofs.Blocks.{counted-front}
use Rattle.runs.proofs.text_run.Goals as goal

pub returns : goal.returns
unfolding run
returns c =
    counted-front _ (is_plain (dialect_of c.args.dialect)) _ c.count.ensures.ran (YieldsList-from_slice (drop c.args.from c.args.s.now) cc) c.take_while.ensures.closure c.take_while.ensures.done (λ x b q k. search (rules, tests))
