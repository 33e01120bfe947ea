use Rattle.std.proofs.Common.{◌≤◌, ◌+◌, ◌∙◌, length, set, refl, arith, rules, length-set}
use Rattle.format.specs.WrittenForms.{doubled}
use Rattle.writer.proofs.Fields.{size-quoted, put-quoted, form-least, begun-bare, begun-quoted, begun-length, begun-over}
use Rattle.writer.proofs.Parts.{part_length, part_written, written_length}
use Rattle.writer.proofs.put_field.Goals as goal

pub put_bare-requires : goal.put_bare-requires
put_bare-requires c = omega (arith, c.requires, form-least c.args.mode c.args.field.now)

-- a field that is not quoted is its content
pub returns-then-put_bare-clause-value : goal.returns-then-put_bare-clause-value
returns-then-put_bare-clause-value c = (begun-bare c.put_bare.ensures c.if-put_bare.true).0

pub returns-then-put_bare-clause-out_after : goal.returns-then-put_bare-clause-out_after
returns-then-put_bare-clause-out_after c = (begun-bare c.put_bare.ensures c.if-put_bare.true).1

-- there is room for both quotes, and for the content between them
pub bounds-out-0 : goal.bounds-out-0
bounds-out-0 c =
    let size = size-quoted _ _ (begun-quoted c.put_bare.ensures c.if-put_bare.false) refl in
    let same = begun-length c.put_bare.ensures (omega (arith, c.requires, form-least c.args.mode c.args.field.now)) in
    search rules

pub slice_bounds-put_inside-count : goal.slice_bounds-put_inside-count
slice_bounds-put_inside-count c =
    let size = size-quoted _ _ (begun-quoted c.put_bare.ensures c.if-put_bare.false) refl in
    let same = begun-length c.put_bare.ensures (omega (arith, c.requires, form-least c.args.mode c.args.field.now)) in
    simp length-set (omega (arith, c.requires, size, same))

pub slice_bounds-put_inside-start : goal.slice_bounds-put_inside-start
slice_bounds-put_inside-start c =
    let size = size-quoted _ _ (begun-quoted c.put_bare.ensures c.if-put_bare.false) refl in
    let same = begun-length c.put_bare.ensures (omega (arith, c.requires, form-least c.args.mode c.args.field.now)) in
    let inside : 1 ≤ length (set c.put_bare.new.out 0 34) = omega (arith, c.requires, size, same, length-set c.put_bare.new.out 0 34) in
    search rules

pub put_inside-behind-requires : goal.put_inside-behind-requires
put_inside-behind-requires c =
    let size = size-quoted _ _ (begun-quoted c.put_bare.ensures c.if-put_bare.false) refl in
    let same = begun-length c.put_bare.ensures (omega (arith, c.requires, form-least c.args.mode c.args.field.now)) in
    omega (arith, c.requires, size, same, part_length (set c.put_bare.new.out 0 34) 1, length-set c.put_bare.new.out 0 34)

pub bounds-out-behind : goal.bounds-out-behind
bounds-out-behind c =
    let size = size-quoted _ _ (begun-quoted c.put_bare.ensures c.if-put_bare.false) refl in
    let same = begun-length c.put_bare.ensures (omega (arith, c.requires, form-least c.args.mode c.args.field.now)) in
    let room : 1 + length (doubled c.args.field.now) ≤ length (set c.put_bare.new.out 0 34) =
    omega (arith, c.requires, size, same, length-set c.put_bare.new.out 0 34) in
    rw (written_length (set c.put_bare.new.out 0 34) 1 (doubled c.args.field.now) room c.put_inside-behind.ensures.out_after)
    (omega (arith, c.put_inside-behind.ensures.value, c.requires, size, same, length-set c.put_bare.new.out 0 34))

pub returns-clause-value : goal.returns-clause-value
returns-clause-value c =
    omega (arith, c.put_inside-behind.ensures.value, size-quoted _ _ (begun-quoted c.put_bare.ensures c.if-put_bare.false) refl)

pub returns-clause-out_after : goal.returns-clause-out_after
returns-clause-out_after c =
    let quoted = begun-quoted c.put_bare.ensures c.if-put_bare.false in
    let size = size-quoted _ _ quoted refl in
    let same = begun-length c.put_bare.ensures (omega (arith, c.requires, form-least c.args.mode c.args.field.now)) in
    let room : 1 + length (doubled c.args.field.now) ≤ length (set c.put_bare.new.out 0 34) =
    omega (arith, c.requires, size, same, length-set c.put_bare.new.out 0 34) in
    (put-quoted _ _ quoted refl _ (omega (arith, c.requires, same)) c.put_inside-behind.ensures.value (part_written _ 1 _ room c.put_inside-behind.ensures.out_after)).1
    ∙ begun-over c.put_bare.ensures c.if-put_bare.false
