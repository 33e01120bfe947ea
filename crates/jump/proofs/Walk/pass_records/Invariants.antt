-- `jump::Walk::pass_records` meets its contract.
use Rattle.format.specs.Meant.{dialect_of}
use Rattle.jump.proofs.Passes.{Passes}
use Rattle.jump.proofs.Walk.pass_records.Given as goal

abbrev pub invariant-loop : goal.invariant-loop
invariant-loop l = Passes (dialect_of l.self.rows.kind.dialect) l.self.file.now l.from l.at l.counter
