use Rattle.std.proofs.Common.{arith, Some, None}
use Rattle.format.proofs.First.{first-inside}
use Rattle.writer.specs.Write.{TableOutcome}
use Rattle.writer.proofs.Outcomes.{contents, records, field-inside, record-inside, holdable}
use Rattle.writer.proofs.judge.Goals as goal

-- there are no more bytes, fields and records than 32 bits count
pub overflow_cast-result : goal.overflow_cast-result
overflow_cast-result c = omega (arith, c.args.formed.now.small, first-inside c.in-Some.ensures)

pub overflow_cast-result-in-Some-first_outside : goal.overflow_cast-result-in-Some-first_outside
overflow_cast-result-in-Some-first_outside c = omega (arith, c.args.formed.now.small, field-inside c.args.formed.now.well_formed c.in-Some-first_outside.ensures)

pub overflow_cast-result-in-Some-first_uneven : goal.overflow_cast-result-in-Some-first_uneven
overflow_cast-result-in-Some-first_uneven c = omega (arith, c.args.formed.now.small, record-inside c.args.formed.now.well_formed c.in-Some-first_uneven.ensures)

pub returns-in-Some : goal.returns-in-Some
returns-in-Some c file out = TableOutcome.refusal_3 c.in-Some.ensures

pub returns-in-Some-first_outside : goal.returns-in-Some-first_outside
returns-in-Some-first_outside c file out =
    TableOutcome.refusal_9 c.in_default.ensures (contents c.args.formed.now.well_formed (Some _) c.in-Some-first_outside.ensures)

pub returns-in-Some-first_uneven : goal.returns-in-Some-first_uneven
returns-in-Some-first_uneven c file out =
    let w = c.args.formed.now.well_formed in
    TableOutcome.refusal_10 c.in_default.ensures (contents w None c.in_default-first_outside.ensures) (records w (Some _) c.in-Some-first_uneven.ensures)

pub returns : goal.returns
returns c =
    holdable c.args.formed.now.well_formed c.in_default.ensures c.in_default-first_outside.ensures c.in_default-first_uneven.ensures
