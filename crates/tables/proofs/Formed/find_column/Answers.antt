use Rattle.std.proofs.Common.{◌≡◌, Err, rules, arith}
use Rattle.format.specs.declared.SearchError.{TheVariants.Missing}
use Rattle.tables.proofs.Cutting.{count_of}
use Rattle.tables.proofs.Searching.{lacks-records, repeated, named, not_named}
use Rattle.tables.proofs.Formed.find_column.Goals as goal

pub returns-in_err-header : goal.returns-in_err-header
returns-in_err-header c =
    let q : c.from_residual.result ≡ Err Missing = search rules in
    rw q (lacks-records c.args.self.now.well_formed (rw c.in_err-header.ensures.ok_part at c.record.ensures))

pub overflow_cast-result : goal.overflow_cast-result
overflow_cast-result c = omega (arith, c.in-Some.ensures.below, count_of c.in_ok-header.header.cuts)

pub returns-in-Some : goal.returns-in-Some
returns-in-Some c = repeated c.args.self.now.well_formed (rw c.in_ok-header.ensures.ok_part at c.record.ensures) c.in-Some.ensures

pub returns-in_err-column : goal.returns-in_err-column
returns-in_err-column c =
    let q : c.from_residual-in_err-column.result ≡ Err Missing = search rules in
    rw q
    (not_named c.args.self.now.well_formed (rw c.in_ok-header.ensures.ok_part at c.record.ensures) c.in_default.ensures
    (rw c.in_err-column.ensures.ok_part at c.first_named.ensures))

pub overflow_cast-result-2 : goal.overflow_cast-result-2
overflow_cast-result-2 c =
    let found = rw c.in_ok-column.ensures.ok_part at c.first_named.ensures in
    omega (arith, found.below, count_of c.in_ok-header.header.cuts)

pub returns : goal.returns
returns c =
    named c.args.self.now.well_formed (rw c.in_ok-header.ensures.ok_part at c.record.ensures) c.in_default.ensures
    (rw c.in_ok-column.ensures.ok_part at c.first_named.ensures)
