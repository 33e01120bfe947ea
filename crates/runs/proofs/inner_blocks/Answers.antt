-- `runs::inner_blocks` meets its contract.
use Rattle.std.proofs.Common.{◌<◌, length, rules, tests}
use mathlib.Core.Path.{sym}
use native.Mathlib.Omega.{arith}
use Rattle.std.proofs.lemmas.List.{drop_all}
use Rattle.runs.specs.Runs.{run, is_inner}
use Rattle.runs.proofs.Runs.{rest-is, run-le}
use Rattle.runs.proofs.inner_blocks.Goals as goal

pub overflow_mul-result : goal.overflow_mul-result
overflow_mul-result c =
    let q = c.whole_blocks.ensures is_inner (λ b r k. search (rules, tests)) in
    omega (arith, q, c.in-Some.ensures.lookup.0.3, run-le is_inner c.in-Some.rest.now)

pub returns-in_default : goal.returns-in_default
unfolding run
returns-in_default c =
    let far : length c.args.s.now < c.args.from = omega (arith, c.in_default.ensures.lookup) in
    rw (drop_all c.args.from c.args.s.now (omega (arith, far)))

pub returns : goal.returns
returns c =
    let e = rest-is c.args.s.now c.in-Some.rest.now c.args.from c.in-Some.ensures.lookup.0.2 in
    let q = c.whole_blocks.ensures is_inner (λ b r k. search (rules, tests)) in
    rw (sym e) (omega (arith, q))
