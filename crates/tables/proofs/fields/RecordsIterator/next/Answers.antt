use Rattle.std.proofs.Common.{rules, arith}
use Rattle.tables.proofs.Cutting.{first_within, others, others_left, first_cuts, first_record}
use Rattle.tables.proofs.fields.RecordsIterator.next.Goals as goal

pub slice_bounds-fields-end : goal.slice_bounds-fields-end
slice_bounds-fields-end c =
    let within = first_within (rw c.in_ok-next.ensures.cases.0 at c.args.self.now.divides) in
    search rules

pub start_of-requires : goal.start_of-requires
start_of-requires c = (first_within (rw c.in_ok-next.ensures.cases.0 at c.args.self.now.divides)).1

pub invariant_of-self : goal.invariant_of-self
invariant_of-self c =
    let small = rw c.in_ok-next.ensures.cases.0 at c.args.self.now.small in
    record {
      divides = others (rw c.in_ok-next.ensures.cases.0 at c.args.self.now.divides) c.start_of.ensures;
      rest = others_left (rw c.in_ok-next.ensures.cases.0 at c.args.self.now.rest);
      small = record { bytes = small.bytes; fields = small.fields; records = omega (arith, small.records) };
    }

pub invariant_of-fields : goal.invariant_of-fields
invariant_of-fields c = record { cuts = first_cuts (rw c.in_ok-next.ensures.cases.0 at c.args.self.now.divides) (omega arith) }

pub returns-clause-steps : goal.returns-clause-steps
returns-clause-steps c = rw c.in_ok-next.ensures.cases.0 (first_record (rw c.in_ok-next.ensures.cases.0 at c.args.self.now.divides))
