-- `steps::class_of` meets its contract: each arm of its match is a law of the classes.
use Rattle.std.proofs.Common.{arith}
use Rattle.format.specs.Meant.{dialect_of}
use Rattle.format.proofs.Classes.{beyond-class}
use Rattle.steps.proofs.class_of.Goals as goal

pub returns-in_default-3 : goal.returns-in_default-3
returns-in_default-3 c =
    let a = c.args in
    let e = beyond-class (dialect_of a.dialect) a.b c.if-b-dialect.false (grind arith) (grind arith) (grind arith) in
    rw e (grind arith)
