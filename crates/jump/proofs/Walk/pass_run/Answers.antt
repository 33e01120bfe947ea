-- `jump::Walk::pass_run` meets its contract.
use native.Mathlib.Omega.{arith}
use Rattle.runs.specs.Runs.{is_inner}
use Rattle.runs.proofs.Runs.{run-within}
use Rattle.words.specs.Words.{is_row}
use Rattle.format.specs.Meant.{dialect_of}
use Rattle.jump.specs.Pass.{stays, in_row, in_quotes}
use Rattle.jump.proofs.Walk.pass_run.Goals as goal

pub returns-then-next-at : goal.returns-then-next-at
returns-then-next-at c = stays

pub returns-then-form-le-BARE : goal.returns-then-form-le-BARE
returns-then-form-le-BARE c =
    let r = c.row_end-next.ensures in
    let s = c.args.self.now in
    rw c.row_form.ensures (in_row {to = c.row_end-next.result} c.if-form-le-BARE.true (omega (arith, r.begun, c.if-next-at.false)) (r.unmarked (is_row (dialect_of s.rows.kind.dialect)) s.rows.exact))

pub overflow_add-next : goal.overflow_add-next
overflow_add-next c =
    omega (arith, c.well_formed, run-within is_inner c.args.self.now.file.now c.args.at c.inner_run.result c.requires (omega (arith, c.inner_run.ensures)))

pub pairs_end-requires : goal.pairs_end-requires
pairs_end-requires c =
    run-within is_inner c.args.self.now.file.now c.args.at c.inner_run.result c.requires (omega (arith, c.inner_run.ensures))

pub returns-then-form-eq-QUOTED : goal.returns-then-form-eq-QUOTED
returns-then-form-eq-QUOTED c = in_quotes c.if-form-eq-QUOTED.true (rw c.inner_run.ensures at c.pairs_end.ensures)

pub returns : goal.returns
returns c = stays
