-- `runs::is_break` meets its contract.
use Rattle.std.proofs.Common.{rules, ◌<◌, length}
use mathlib.Core.Path.{sym}
use native.Mathlib.Omega.{arith}
use Rattle.std.proofs.lemmas.List.{drop_all}
use Rattle.runs.specs.Runs.{is_break}
use Rattle.runs.proofs.Runs.{rest-is, break_front}
use Rattle.runs.proofs.is_break.Goals as goal

pub returns-in-Some-eq13 : goal.returns-in-Some-eq13
returns-in-Some-eq13 c =
    let e = rest-is c.args.s.now c.in-Some-eq13.field-0.now c.args.at c.in-Some-eq13.ensures.lookup.0.2 in
    rw (sym e) (search (rules, break_front))

pub returns-in_default : goal.returns-in_default
returns-in_default c =
    let l = rw c.in_default.is at c.get.ensures.lookup in
    let e = rest-is c.args.s.now c.in_default.field-0.now c.args.at l.0.2 in
    rw (sym e) (search (rules, break_front))

pub returns-in_default-2 : goal.returns-in_default-2
returns-in_default-2 c =
    let l = rw c.in_default.is at c.get.ensures.lookup in
    let e = rest-is c.args.s.now c.in_default.field-0.now c.args.at l.0.2 in
    rw (sym e) (search (rules, break_front))

pub returns-in_default-4 : goal.returns-in_default-4
unfolding is_break
returns-in_default-4 c =
    let l = rw c.in_default.is at c.get.ensures.lookup in
    let far : length c.args.s.now < c.args.at = omega (arith, l) in
    rw (drop_all c.args.at c.args.s.now (omega (arith, far)))
