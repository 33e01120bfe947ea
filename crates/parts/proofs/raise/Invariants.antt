-- `parts::raise` meets its contract.
use Rattle.std.proofs.Common.{◌≡◌, ◌+◌, ◌++◌, map, take, drop}
use Rattle.parts.proofs.raise.Given as goal

abbrev pub invariant-loop-entry : goal.invariant-loop-entry
invariant-loop-entry l = l.entries ≡ map (λ x. x + l.n) (take l.entry-index l.initial.entries) ++ drop l.entry-index l.initial.entries
