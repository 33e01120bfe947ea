-- `reader::read` meets its contract.
use native.Mathlib.Omega.{arith}
use Rattle.std.proofs.lemmas.Result.{err_from_is_err_and}
use Rattle.reader.proofs.Outcomes.{declines}
use Rattle.reader.proofs.read.Goals as goal

pub returns-in_err-totals-clause-outcome : goal.returns-in_err-totals-clause-outcome
returns-in_err-totals-clause-outcome c =
    let p = err_from_is_err_and c.from_residual.result c.from_residual.ensures.1 in
    let some = c.in_err-totals.field-0.0.some in
    rw (p.1, p.2) (declines c.in_err-totals.ensures (λ e. omega (arith, some, e)))
