use Rattle.std.proofs.Common.{arith}
use Rattle.format.proofs.Memory.{row_within}
use Rattle.tables.proofs.Formed.numbers.Goals as goal

pub returns : goal.returns
returns c =
    let row = c.in_ok-next.ensures.lookup.3 in
    let place = row_within c.args.self.now.well_formed c.args.record row.0 in
    record {
      exists = row.0;
      begins = c.start_of.ensures;
      ends = row.1 0;
      in_order = omega (arith, place, c.start_of.ensures, row.1 0);
      within = omega (arith, place, row.1 0);
    }
