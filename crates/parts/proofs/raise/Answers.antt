-- `parts::raise` meets its contract.
use Prim.Native.Nat.{ℕ, ◌+◌}
use native.Mathlib.Omega.{arith}
use borrow.Author.Rules.{rules}
use Rattle.std.proofs.lemmas.List.Edits.{map_over_more}
use Rattle.parts.proofs.raise.Goals as goal

pub loop-entry-preserved : goal.loop-entry-preserved
loop-entry-preserved c = map_over_more (λ (x : ℕ). x + c.args.n) _ _ _ _ (omega arith) c.loop-entry.invariant (search rules)
