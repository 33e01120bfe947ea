-- `jump::pairs_end` meets its contract.
use native.Mathlib.Omega.{arith}
use lib.ListN.{drop, length-drop}
use Rattle.runs.proofs.Runs.{pairs-le}
use Rattle.jump.specs.Pass.{no_pairs, pairs_end}
use Rattle.jump.proofs.pairs_end.Goals as goal

pub returns-then-delimiter-eq34 : goal.returns-then-delimiter-eq34
returns-then-delimiter-eq34 c = no_pairs

pub overflow_mul-result : goal.overflow_mul-result
overflow_mul-result c =
    omega (arith, c.requires, c.pair_run.ensures, pairs-le (drop c.args.from c.args.file.now), length-drop c.args.from c.args.file.now, c.well_formed)

pub overflow_add-result : goal.overflow_add-result
overflow_add-result c =
    omega (arith, c.requires, c.pair_run.ensures, pairs-le (drop c.args.from c.args.file.now), length-drop c.args.from c.args.file.now, c.well_formed)

pub returns : goal.returns
returns c = rw c.pair_run.ensures (pairs_end c.if-delimiter-eq34.false)
