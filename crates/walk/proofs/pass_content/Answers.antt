-- `walk::pass_content` meets its contract.
use Rattle.format.specs.Meant.{dialect_of}
use Rattle.walk.proofs.pass_content.Goals as goal

pub returns : goal.returns
returns c = λ w ends rows. c.pass_inside.ensures w (dialect_of c.args.dialect) c.if-dialect-eq34.false ends rows
