-- `runs::pair_run` meets its contract.
use Rattle.std.proofs.Common.{rules, ◌<◌, length}
use mathlib.Core.Path.{sym}
use native.Mathlib.Omega.{arith}
use Rattle.std.proofs.lemmas.List.{drop_all}
use Rattle.runs.specs.Runs.{pairs}
use Rattle.runs.proofs.Runs.{rest-is, pairs_none, pairs_one}
use Rattle.runs.proofs.pair_run.Goals as goal

pub returns-in_default : goal.returns-in_default
unfolding pairs
returns-in_default c =
    let far : length c.args.s.now < c.args.from = omega (arith, c.in_default.ensures.lookup) in
    rw (drop_all c.args.from c.args.s.now (omega (arith, far)))

pub returns-in-34-3 : goal.returns-in-34-3
returns-in-34-3 c = let e = rest-is c.args.s.now c.in-Some.rest.now c.args.from c.in-Some.ensures.lookup.0.2 in rw (sym e) (search (rules, pairs_one))

pub returns-in-34-3-2 : goal.returns-in-34-3-2
returns-in-34-3-2 c = let e = rest-is c.args.s.now c.in-Some.rest.now c.args.from c.in-Some.ensures.lookup.0.2 in rw (sym e) (search (rules, pairs_one))

pub returns-in_default-rest : goal.returns-in_default-rest
returns-in_default-rest c = let e = rest-is c.args.s.now c.in-Some.rest.now c.args.from c.in-Some.ensures.lookup.0.2 in rw (sym e) (search (rules, pairs_none))

pub returns-in_default-rest-4 : goal.returns-in_default-rest-4
returns-in_default-rest-4 c = let e = rest-is c.args.s.now c.in-Some.rest.now c.args.from c.in-Some.ensures.lookup.0.2 in rw (sym e) (search (rules, pairs_none))
