use Rattle.std.proofs.Common.{sym}
use Rattle.format.proofs.Memory.{fields_back}
use Rattle.tables.proofs.Formed.fields.Goals as goal

pub returns : goal.returns
returns c = sym (fields_back c.args.self.now.well_formed)
