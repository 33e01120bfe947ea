use Rattle.std.proofs.Common.{sym, arith}
use Rattle.tables.proofs.Cutting.{record_cut, record_parts, no_record}
use Rattle.tables.proofs.Formed.record.Goals as goal

pub returns-in_err-numbers : goal.returns-in_err-numbers
returns-in_err-numbers c = rw c.from_residual.ensures (sym (no_record _ _ _ _ c.in_err-numbers.ensures))

pub invariant_of-result : goal.invariant_of-result
invariant_of-result c = record { cuts = record_cut c.args.self.now.well_formed c.in_ok-numbers.ensures c.start_of.ensures (omega arith) }

pub returns : goal.returns
returns c = record_parts c.args.self.now.well_formed c.in_ok-numbers.ensures c.start_of.ensures
