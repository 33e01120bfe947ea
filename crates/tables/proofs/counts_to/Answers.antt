use Rattle.tables.proofs.Testing.{counts_to, counts_otherwise}
use Rattle.std.proofs.Common.{arith}
use Rattle.tables.proofs.counts_to.Goals as goal

pub returns-then-is_none-clause-counts : goal.returns-then-is_none-clause-counts
returns-then-is_none-clause-counts c = counts_to _ _ _ _ _ c.first_outside.ensures c.if-is_none.ensures c.start_of.ensures

pub returns-else-is_none-clause-counts : goal.returns-else-is_none-clause-counts
returns-else-is_none-clause-counts c =
    (λ q. cc, λ d. absurd (counts_otherwise _ _ _ _ _ c.first_outside.ensures (λ i. omega (arith, c.type_inv.list i)) c.if-is_none.ensures d))
