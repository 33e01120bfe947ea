use Rattle.std.proofs.Common.{◌≡◌, ◌++◌, take, drop}
use Rattle.writer.proofs.Fields.{Ordinary}
use Rattle.writer.proofs.put_ordinary.Given as goal

abbrev pub invariant-loop-i : goal.invariant-loop-i
invariant-loop-i l = (l.out ≡ take l.i l.content ++ drop l.i l.initial.out) × Ordinary l.content l.i
