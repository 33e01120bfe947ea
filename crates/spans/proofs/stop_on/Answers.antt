-- `spans::stop_on` meets its contract.
use Prim.Native.Nat.{ℕ, ◌+◌, ◌-◌, ◌≤◌}
use mathlib.Core.Path.{◌≡◌}
use native.Mathlib.Omega.{arith}
use lib.ListN.{length, drop, length-drop}
use Rattle.format.specs.Table.{Bytes}
use Rattle.runs.specs.Runs.{pairs}
use Rattle.runs.proofs.Runs.{pairs-le}
use Rattle.spans.proofs.Quoted.{further-line, further-pairs}
use Rattle.spans.proofs.stop_on.Goals as goal

-- the pairs lie in the bytes that are left
fits : (s : Bytes) (i q : ℕ) → q ≡ pairs (drop i s) → q + q ≤ length s - i
fits s i q e = omega (arith, e, pairs-le (drop i s), length-drop i s)

pub returns-then-s-x-eq10 : goal.returns-then-s-x-eq10
returns-then-s-x-eq10 c = further-line c.args.s.now c.args.x c.requires.0 c.if-s-x-eq10.true

pub overflow_add-result-2 : goal.overflow_add-result-2
overflow_add-result-2 c = omega (arith, fits c.args.s.now c.args.x.end c.pair_run-q.result c.pair_run-q.ensures, c.requires)

pub overflow_add-result-3 : goal.overflow_add-result-3
overflow_add-result-3 c = omega (arith, fits c.args.s.now c.args.x.end c.pair_run-q.result c.pair_run-q.ensures, c.requires)

pub overflow_add-result-4 : goal.overflow_add-result-4
overflow_add-result-4 c = omega (arith, fits c.args.s.now c.args.x.end c.pair_run-q.result c.pair_run-q.ensures, c.requires)

pub overflow_add-result-5 : goal.overflow_add-result-5
overflow_add-result-5 c = omega (arith, fits c.args.s.now c.args.x.end c.pair_run-q.result c.pair_run-q.ensures, c.requires)

pub overflow_add-result-6 : goal.overflow_add-result-6
overflow_add-result-6 c = omega (arith, fits c.args.s.now c.args.x.end c.pair_run-q.result c.pair_run-q.ensures, c.requires)

pub returns : goal.returns
returns c = further-pairs c.args.s.now c.args.x c.pair_run-q.result c.pair_run-q.ensures
