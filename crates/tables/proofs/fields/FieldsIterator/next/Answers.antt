use Rattle.std.proofs.Common.{rules}
use Rattle.tables.proofs.Cutting.{first_cut, first_part}
use Rattle.tables.proofs.fields.FieldsIterator.next.Goals as goal

pub slice_bounds-field-end : goal.slice_bounds-field-end
slice_bounds-field-end c =
    let cut = first_cut (rw c.in_ok-end.ensures.cases.0 at c.args.self.now.cuts) in
    search rules

pub invariant_of-self : goal.invariant_of-self
invariant_of-self c = record { cuts = (first_cut (rw c.in_ok-end.ensures.cases.0 at c.args.self.now.cuts)).2 }

pub returns-clause-steps : goal.returns-clause-steps
returns-clause-steps c = rw (c.in_ok-end.ensures.cases.0, first_part)
