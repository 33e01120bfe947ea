-- `parts::passed` meets its contract.
use native.Mathlib.Omega.{arith}
use mathlib.Core.Path.{refl, sym, ◌∙◌}
use lib.Seq.{length-take-le}
use borrow.Author.Rules.{rules}
use Rattle.parts.proofs.Passing.{beyond-grew, part-grew, ample-part}
use Rattle.parts.proofs.passed.Goals as goal

pub overflow_add-end : goal.overflow_add-end
overflow_add-end c =
    let able = rw c.new.ensures at (c.part-n.ensures.passable (omega (arith, c.if-n-lt-LEAST.false))) in omega (arith, able.taken_room, c.well_formed)

pub slice_bounds-feed-end : goal.slice_bounds-feed-end
slice_bounds-feed-end c =
    let able = rw c.new.ensures at (c.part-n.ensures.passable (omega (arith, c.if-n-lt-LEAST.false))) in
    let l = able.taken_room in
    search rules

pub returns-then-p-gt-CONTENT_LIMIT-clause-grew : goal.returns-then-p-gt-CONTENT_LIMIT-clause-grew
returns-then-p-gt-CONTENT_LIMIT-clause-grew c =
    let able = rw c.new.ensures at (c.part-n.ensures.passable (omega (arith, c.if-n-lt-LEAST.false))) in
    beyond-grew _ _ _ able.inside able.plain _ (omega arith) able.taken_room c.if-p-gt-CONTENT_LIMIT.true c.feed-check.ensures.result (sym c.is_shown.ensures ∙ c.if-is_shown.false) c.onward-behind.ensures

pub slice_bounds-put_part-end : goal.slice_bounds-put_part-end
slice_bounds-put_part-end c =
    let able = rw c.new.ensures at (c.part-n.ensures.passable (omega (arith, c.if-n-lt-LEAST.false))) in
    sym (length-take-le _ _ able.taken_room)

pub put_part-head-requires-clause-ample : goal.put_part-head-requires-clause-ample
put_part-head-requires-clause-ample c =
    let able = rw c.new.ensures at (c.part-n.ensures.passable (omega (arith, c.if-n-lt-LEAST.false))) in
    ample-part _ _ (able.ample c.if-p-gt-CONTENT_LIMIT.false)

pub returns-clause-grew : goal.returns-clause-grew
returns-clause-grew c =
    let able = rw c.new.ensures at (c.part-n.ensures.passable (omega (arith, c.if-n-lt-LEAST.false))) in
    let put = c.put_part-head.ensures in
    part-grew _ _ (able.ample c.if-p-gt-CONTENT_LIMIT.false) able.plain c.feed-check.ensures.result (sym c.is_shown.ensures ∙ c.if-is_shown.false) c.if-check-gt-CONTENT_LIMIT.false (rw c.onward-behind.ensures refl) put.text_put put.ends_put put.rows_put
