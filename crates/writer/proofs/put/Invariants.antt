use Rattle.format.specs.Dialect.{strict}
use Rattle.format.specs.Filling.{over}
use Rattle.format.specs.WrittenForms.{table_by}
use Rattle.tables.specs.Records.{held, records}
use Rattle.writer.specs.Form.{form_in}
use Rattle.writer.proofs.Lines.{Going}
use Rattle.writer.proofs.put.Given as goal

abbrev pub invariant-loop-record : goal.invariant-loop-record
invariant-loop-record l =
    Going (form_in l.mode) (records l.record-iterator) l.out l.at (over (table_by (form_in l.mode) strict (held l.formed)) l.initial.out)
