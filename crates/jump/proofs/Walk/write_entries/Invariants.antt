-- `jump::Walk::write_entries` meets its contract.
use Prim.Native.Nat.{ℕ, ◌≤◌}
use mathlib.Core.Path.{◌≡◌}
use mathlib.Core.List.{List}
use lib.ListN.{length}
use Rattle.format.specs.Meant.{dialect_of}
use Rattle.format.specs.Walk.{Index}
use Rattle.jump.proofs.Building.{Noting}
use Rattle.jump.proofs.Walk.write_entries.Given as goal

abbrev pub invariant-loop-entry : goal.invariant-loop-entry
invariant-loop-entry l =
    (l.at ≤ length l.self.file.now)
    × ((es : List ℕ) → Index (dialect_of l.self.rows.kind.dialect) l.self.file.now es → length es ≡ length l.entries → Noting (dialect_of l.self.rows.kind.dialect) l.self.file.now es l.entries l.at l.entry-index)
