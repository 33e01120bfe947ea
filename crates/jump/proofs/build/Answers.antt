-- `jump::build` meets its contract.
use mathlib.Core.Path.{refl}
use Rattle.std.proofs.lemmas.Result.{err_from_is_err_and}
use Rattle.pieces.proofs.Stands.{accepts-it}
use Rattle.jump.proofs.Outcomes.{declines, within_limit, lacks-room, builds}
use Rattle.jump.proofs.build.Goals as goal

pub returns-in_err-totals : goal.returns-in_err-totals
returns-in_err-totals c =
    let p = err_from_is_err_and c.from_residual.result c.from_residual.ensures.1 in rw (p.1, p.2) (declines c.in_err-totals.ensures refl)

pub returns-then-index-entries : goal.returns-then-index-entries
returns-then-index-entries c =
    rw (c.at.ensures.number, c.at.ensures.place) (lacks-room (accepts-it c.in_ok-totals.ensures refl) c.div_ceil-entries.ensures c.if-index-entries.true)

pub new-requires : goal.new-requires
new-requires c = within_limit (accepts-it c.in_ok-totals.ensures refl)

pub returns : goal.returns
returns c =
    builds (accepts-it c.in_ok-totals.ensures refl) c.div_ceil-entries.ensures c.if-index-entries.false
    (rw (c.new.ensures.dialect, c.new.ensures.file) at c.write_entries.ensures)
