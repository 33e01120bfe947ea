-- `spans::rows` meets its contract.
use Rattle.spans.proofs.Passing.{walked-leads, still-leads}
use Rattle.spans.proofs.rows.Goals as goal

pub returns-then-s-at : goal.returns-then-s-at
returns-then-s-at c =
    let a = c.args in
    rw c.start_of.ensures.value (still-leads a.check a.s.now a.at a.check.field.number.0)

pub returns : goal.returns
returns c = let a = c.args in walked-leads a.check a.s.now a.at c.walk_on.result c.walk_on.ensures
