-- `jump::show` meets its contract.
use Prim.Native.Nat.{ℕ, ◌+◌, ◌-◌}
use native.Mathlib.Omega.{arith}
use mathlib.Core.Path.{◌≡◌}
use borrow.Author.Rules.{rules}
use Rattle.jump.specs.Jump.{part}
use Rattle.jump.proofs.Calls.{part-within}
use Rattle.jump.proofs.show.Goals as goal

as_long : (s n : ℕ) → s + n - s ≡ n
as_long s n = omega arith

pub slice_bounds-result-end : goal.slice_bounds-result-end
slice_bounds-result-end c = let x = part-within c.in-Ok.ensures in search rules

pub returns-in-Ok : goal.returns-in-Ok
returns-in-Ok c = rw (as_long c.in-Ok.part.start.0 c.in-Ok.part.length) (part c.in-Ok.ensures)

pub returns-in-Err : goal.returns-in-Err
returns-in-Err c = part c.in-Err.ensures
