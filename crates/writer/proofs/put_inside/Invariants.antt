use Rattle.std.proofs.Common.{length}
use Rattle.format.specs.Filling.{over}
use Rattle.format.specs.WrittenForms.{doubled}
use Rattle.writer.proofs.Content.{Going}
use Rattle.writer.proofs.put_inside.Given as goal

abbrev pub invariant-loop-b : goal.invariant-loop-b
invariant-loop-b l = Going l.content l.b-index l.out l.at (over (doubled l.content) l.initial.out) (length (doubled l.content))
