-- `reader::read_accepted` meets its contract.
use native.Mathlib.Omega.{arith}
use mathlib.Core.Path.{refl}
use Rattle.reader.proofs.Last.{ample-first}
use Rattle.reader.proofs.Outcomes.{accepts-it, lacks-text, lacks-ends, lacks-rows, has_room, fills}
use Rattle.reader.proofs.read_accepted.Goals as goal

pub returns-then-to-totals-clause-outcome : goal.returns-then-to-totals-clause-outcome
returns-then-to-totals-clause-outcome c = lacks-text (accepts-it c.requires refl) c.if-to-totals.true (rw (c.at.ensures.number, c.at.ensures.place, c.nowhere.ensures))

pub returns-then-to-totals-2-clause-outcome : goal.returns-then-to-totals-2-clause-outcome
returns-then-to-totals-2-clause-outcome c =
    lacks-ends (accepts-it c.requires refl) c.if-to-totals.false c.if-to-totals-2.true (rw (c.at-then-to-totals-2.ensures.number, c.at-then-to-totals-2.ensures.place, c.nowhere-then-to-totals-2.ensures))

pub returns-then-to-totals-3-clause-outcome : goal.returns-then-to-totals-3-clause-outcome
returns-then-to-totals-3-clause-outcome c =
    lacks-rows (accepts-it c.requires refl) c.if-to-totals.false c.if-to-totals-2.false c.if-to-totals-3.true (rw (c.at-then-to-totals-3.ensures.number, c.at-then-to-totals-3.ensures.place, c.nowhere-then-to-totals-3.ensures))

pub write_table-requires : goal.write_table-requires
write_table-requires c =
    let t = accepts-it c.requires refl in
    let x = has_room t c.if-to-totals.false c.if-to-totals-2.false c.if-to-totals-3.false in
    let y =
    has_room {x = 4294967295} {y = 4294967295} {z = 4294967295} t (omega (arith, c.well_formed)) (omega (arith, c.well_formed)) (omega (arith, c.well_formed)) in
    ample-first (omega (arith, c.well_formed)) y.0 y.1 x.0 x.1 x.2

pub returns-clause-outcome : goal.returns-clause-outcome
returns-clause-outcome c =
    fills (accepts-it c.requires refl) c.if-to-totals.false c.if-to-totals-2.false c.if-to-totals-3.false c.write_table.ensures.written
