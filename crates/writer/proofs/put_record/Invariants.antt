use Rattle.std.proofs.Common.{◌+◌, length}
use Rattle.format.specs.Dialect.{strict}
use Rattle.format.specs.Filling.{over}
use Rattle.format.specs.WrittenForms.{record_by}
use Rattle.tables.specs.Fields.{contents}
use Rattle.writer.specs.Form.{form_in}
use Rattle.writer.proofs.Lines.{Commas, with_commas}
use Rattle.writer.proofs.put_record.Given as goal

abbrev pub invariant-loop-field : goal.invariant-loop-field
invariant-loop-field l =
    Commas (form_in l.mode) (contents l.field-iterator) l.out l.at (over (with_commas (form_in l.mode) (contents l.fn.fields)) l.initial.out)
    (length (record_by (form_in l.mode) strict (contents l.fn.fields)) + 1)
