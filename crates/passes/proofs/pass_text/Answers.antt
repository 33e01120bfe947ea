-- `passes::pass_text` meets its contract.
use native.Mathlib.Omega.{arith}
use Rattle.passes.proofs.Passing.{text-within, text-leads}
use Rattle.passes.proofs.pass_text.Goals as goal

pub overflow_add-result : goal.overflow_add-result
overflow_add-result c =
    let k = c.text_run-k in
    omega (arith, text-within c.args.check c.args.s.now c.args.at c.requires.at_in_bounds _ k.result (rw c.dialect.ensures at k.ensures))

pub returns : goal.returns
returns c =
    let k = c.text_run-k in
    rw (c.jumped.ensures, c.along.ensures)
    (text-leads c.args.check c.args.s.now c.args.at c.requires.at_in_bounds k.result c.if-k-eq0.false c.requires.outside.0 c.requires.outside.1 (rw c.dialect.ensures at k.ensures))
