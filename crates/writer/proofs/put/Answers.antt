use Rattle.std.proofs.Common.{arith}
use Rattle.format.proofs.Memory.{memory-fields}
use Rattle.tables.specs.Records.{held}
use Rattle.writer.specs.Form.{form_in}
use Rattle.writer.proofs.Lines.{lines, line-room, line-on, all_lines}
use Rattle.writer.proofs.Parts.{part_length, part_written}
use Rattle.writer.proofs.put.Goals as goal

pub loop-record-init : goal.loop-record-init
loop-record-init c =
    rw (c.into_iter-record-iterator.ensures.into_iter_gives, c.records-record-items.ensures)
    (lines (form_in c.args.mode) (held c.args.formed.now) _ (memory-fields c.args.formed.now.well_formed) c.requires)

pub put_record-at-requires-clause-room : goal.put_record-at-requires-clause-room
put_record-at-requires-clause-room c =
    omega (arith, line-room _ c.loop-record.invariant c.in-Some.ensures.steps, part_length c.loop-record.out c.loop-record.at)

pub loop-record-preserved : goal.loop-record-preserved
loop-record-preserved c =
    let room = line-room _ c.loop-record.invariant c.in-Some.ensures.steps in
    line-on _ c.loop-record.invariant c.in-Some.ensures.steps c.put_record-at.ensures.value
    (part_written c.loop-record.out c.loop-record.at _ room c.put_record-at.ensures.out_after)

pub returns : goal.returns
returns c = all_lines _ c.loop-record.invariant c.in-None.ensures.steps.0
