use Rattle.tables.proofs.Testing.{formed, formed_small, rows_count, ends_count}
use Rattle.tables.proofs.Table.formed.Goals as goal
use Rattle.tables.proofs.Table.formed.Goals.{else-counts_to-via-then-counts_to+else-counts_to-2, else-counts_to-via-else-counts_to}

pub invariant_of-result : goal.invariant_of-result
invariant_of-result c =
    let rows = c.counts_to.ensures in
    let ends = c.counts_to-then-counts_to.ensures in
    record {
      well_formed = formed (rows.counts.0 c.if-counts_to.true) (ends.counts.0 c.if-counts_to-2.true);
      small = formed_small (rows.counts.0 c.if-counts_to.true) (rows.small c.if-counts_to.true) (ends.small c.if-counts_to-2.true);
    }

pub returns-else-counts_to : goal.returns-else-counts_to
returns-else-counts_to c formed =
    elim c.else-counts_to.branch [
      | else-counts_to-via-then-counts_to+else-counts_to-2 w ↦
          cc (w.if-counts_to-2.false, w.counts_to-then-counts_to.ensures.counts.1 (ends_count formed))
      | else-counts_to-via-else-counts_to w ↦ cc (w.if-counts_to.false, c.counts_to.ensures.counts.1 (rows_count formed))
    ]
