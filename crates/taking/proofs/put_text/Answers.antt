-- `taking::put_text` meets its contract: the byte goes where the blanks end.
use native.Mathlib.Omega.{arith}
use mathlib.Core.List.{append-nil}
use Rattle.std.proofs.lemmas.Grind.{common_steps}
use Rattle.taking.proofs.Put.{parts}
use Rattle.taking.proofs.put_text.Goals as goal

pub returns-in_default-clause-text_after : goal.returns-in_default-clause-text_after
returns-in_default-clause-text_after c = rw (c.in_default.is, append-nil) (grind (arith, common_steps, parts))

pub returns-clause-text_after : goal.returns-clause-text_after
returns-clause-text_after c = rw c.in-Some.is (grind (arith, common_steps, parts))
