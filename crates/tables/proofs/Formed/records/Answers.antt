use Rattle.std.proofs.Common.{sym}
use Rattle.format.proofs.Memory.{table-parts}
use Rattle.tables.proofs.Cutting.{all_divided, all_left}
use Rattle.tables.proofs.Formed.records.Goals as goal

pub invariant_of-result : goal.invariant_of-result
invariant_of-result c = record { divides = all_divided c.args.self.now.well_formed; rest = all_left c.args.self.now.well_formed; small = c.args.self.now.small }

pub returns : goal.returns
returns c = sym (table-parts _ _ _)
