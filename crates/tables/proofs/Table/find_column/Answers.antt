use Rattle.std.proofs.Common.{◌≡◌, Err, rules}
use Rattle.format.specs.declared.SearchError.{TheVariants.Malformed as Unfit}
use Rattle.tables.specs.Search.{malformed}
use Rattle.tables.proofs.Table.find_column.Goals as goal

pub returns-in_err-formed : goal.returns-in_err-formed
returns-in_err-formed c =
    let q : c.from_residual.result ≡ Err Unfit = search rules in
    rw q (malformed (rw c.in_err-formed.ensures.ok_part at c.formed.ensures))
