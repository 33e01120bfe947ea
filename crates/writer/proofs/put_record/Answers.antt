use Rattle.std.proofs.Common.{◌≤◌, ◌+◌, length, arith}
use Rattle.tables.specs.Fields.{contents}
use Rattle.writer.specs.Form.{form_in}
use Rattle.writer.proofs.Lines.{commas, field_room, field_on, broken}
use Rattle.writer.proofs.Parts.{part_length, part_written, written_length}
use Rattle.writer.proofs.put_record.Goals as goal

pub loop-field-init : goal.loop-field-init
loop-field-init c =
    rw c.into_iter-field-iterator.ensures.into_iter_gives (commas (form_in c.args.mode) (contents c.args.fields) _ c.requires.some_field c.requires.room)

pub put_field-at-requires : goal.put_field-at-requires
put_field-at-requires c =
    omega (arith, field_room _ c.loop-field.invariant c.in-Some.ensures.steps, part_length c.loop-field.out c.loop-field.at)

pub bounds-out-at : goal.bounds-out-at
bounds-out-at c =
    let room = field_room _ c.loop-field.invariant c.in-Some.ensures.steps in
    let fits : c.loop-field.at + length (form_in c.args.mode c.in-Some.field.now) ≤ length c.loop-field.out = omega arith in
    rw (written_length c.loop-field.out c.loop-field.at (form_in c.args.mode c.in-Some.field.now) fits c.put_field-at.ensures.out_after)
    (omega (arith, room, c.put_field-at.ensures.value))

pub loop-field-preserved : goal.loop-field-preserved
loop-field-preserved c =
    let room = field_room _ c.loop-field.invariant c.in-Some.ensures.steps in
    let fits : c.loop-field.at + length (form_in c.args.mode c.in-Some.field.now) ≤ length c.loop-field.out = omega arith in
    field_on _ c.loop-field.invariant c.in-Some.ensures.steps c.put_field-at.ensures.value
    (part_written c.loop-field.out c.loop-field.at (form_in c.args.mode c.in-Some.field.now) fits c.put_field-at.ensures.out_after)

-- behind the last field
pub overflow_sub-out : goal.overflow_sub-out
overflow_sub-out c =
    (broken _ _ _ c.requires.some_field c.requires.room (rw c.in-None.ensures.steps.0 at c.loop-field.invariant)).0

pub returns-clause-value : goal.returns-clause-value
returns-clause-value c =
    (broken _ _ _ c.requires.some_field c.requires.room (rw c.in-None.ensures.steps.0 at c.loop-field.invariant)).1

pub returns-clause-out_after : goal.returns-clause-out_after
returns-clause-out_after c =
    (broken _ _ _ c.requires.some_field c.requires.room (rw c.in-None.ensures.steps.0 at c.loop-field.invariant)).2
