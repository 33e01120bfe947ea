-- The table that a well formed one holds, and what is still to come of its records.
use Rattle.format.specs.Table.{Table}
use Rattle.format.specs.Memory.{parts, table_of}
use Rattle.tables.specs.declared.Formed.{Formed}
use Rattle.tables.specs.declared.fields.Records.{Records}

abbrev pub held : Formed → Table
held f = table_of f.table.text.now f.table.ends.now f.table.rows.now

abbrev pub records : Records → Table
records s = parts s.first (parts 0 s.text.now s.ends.now) s.rows.now
