use Rattle.std.proofs.Common.{drop}
use Rattle.tables.specs.Seek.{Strays, paired}
use Rattle.tables.proofs.Seeking.{Further}
use Rattle.tables.proofs.first_outside.Given as goal

abbrev pub invariant-loop-i : goal.invariant-loop-i
invariant-loop-i l = Further (Strays l.least l.most) (paired 0 l.list) l.i (paired l.before (drop l.i l.list))
