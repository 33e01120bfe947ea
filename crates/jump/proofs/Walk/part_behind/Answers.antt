-- `jump::Walk::part_behind` meets its contract.
use Rattle.std.proofs.lemmas.Result.{err_from_is_err_and}
use Rattle.jump.proofs.Outcomes.{refuses}
use Rattle.jump.proofs.Passes.{walk-fault, walk_none, walk-late, walk-found}
use Rattle.jump.proofs.Walk.part_behind.Goals as goal

pub returns-in_err-start : goal.returns-in_err-start
returns-in_err-start c =
    let (n, e) = refuses c.pass_records.result c.in_err-start.ensures.value in
    let p = err_from_is_err_and c.from_residual.result c.from_residual.ensures.1 in
    rw (p.1, p.2, e) (walk-fault (rw n at c.pass_records.ensures))

pub returns-then-self-start : goal.returns-then-self-start
returns-then-self-start c = walk_none (rw c.in_ok-start.ensures.ok_part at c.pass_records.ensures) c.if-self-start.true

pub returns-in_err-end : goal.returns-in_err-end
returns-in_err-end c =
    let (n, e) = refuses c.record_end.result c.in_err-end.ensures.value in
    let p = err_from_is_err_and c.from_residual-in_err-end.result c.from_residual-in_err-end.ensures.1 in
    rw (p.1, p.2, e) (walk-late (rw c.in_ok-start.ensures.ok_part at c.pass_records.ensures) c.if-self-start.false (rw n at c.record_end.ensures))

pub returns : goal.returns
returns c = walk-found (rw c.in_ok-start.ensures.ok_part at c.pass_records.ensures) c.if-self-start.false (rw c.in_ok-end.ensures.ok_part at c.record_end.ensures)
