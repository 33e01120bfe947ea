-- `siprovault::sv_show` meets its contract.
use Rattle.std.proofs.Common.{arith, rules}
use Rattle.tables.proofs.Showing.{located-clamped}
use Rattle.siprovault.proofs.sv_show.Goals as goal

pub returns : goal.returns
returns c =
    let located = rw (c.at_most.ensures, c.at_most-2.ensures) at c.locate.ensures in
    let lies = located-clamped 4294967295 (λ i. omega (arith, c.shared_slice_known-3-1.given i)) located in
    search rules
