-- What is still to come of a record's fields.
use Rattle.std.specs.Prelude.{List}
use Rattle.format.specs.Table.{Content}
use Rattle.format.specs.Memory.{parts}
use Rattle.tables.specs.declared.fields.Fields.{Fields}

abbrev pub contents : Fields → List Content
contents s = parts s.from s.text.now s.ends.now
