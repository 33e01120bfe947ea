use Rattle.std.proofs.Common.{refl}
use Rattle.tables.proofs.Distances.{strays_there, goes_on, none-strays_there}
use Rattle.tables.proofs.first_outside.Goals as goal

pub returns-then-strays : goal.returns-then-strays
returns-then-strays c = strays_there _ _ _ _ _ c.loop-i.invariant c.loop-i-test.true (c.if-strays.ensures.0 refl)

pub loop-i-preserved : goal.loop-i-preserved
loop-i-preserved c = goes_on _ _ _ _ _ c.loop-i.invariant c.loop-i-test.true (λ s. cc (c.if-strays.ensures.1 s))

pub returns : goal.returns
returns c = none-strays_there _ _ _ _ _ c.loop-i.invariant c.loop-i-test.false
