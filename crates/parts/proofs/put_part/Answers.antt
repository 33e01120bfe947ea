-- `parts::put_part` meets its contract.
use borrow.Author.Rules.{rules}
use Rattle.parts.proofs.Passing.{text-put, ends-within, rows-within, ends-small, rows-small, ends-raised, rows-raised}
use Rattle.parts.proofs.put_part.Goals as goal

pub slice_bounds-raise-end : goal.slice_bounds-raise-end
slice_bounds-raise-end c =
    let w = c.walked-q.ensures in
    let r = c.requires in
    let i = ends-within _ _ r.taken_in_bounds r.ample _ c.dialect.ensures w.wrote w.to_the_end in
    search rules

pub slice_bounds-raise-end-2 : goal.slice_bounds-raise-end-2
slice_bounds-raise-end-2 c =
    let w = c.walked-q.ensures in
    let r = c.requires in
    let i = rows-within _ _ r.taken_in_bounds r.ample _ c.dialect.ensures w.wrote w.to_the_end in
    search rules

pub raise-requires : goal.raise-requires
raise-requires c =
    let w = c.walked-q.ensures in
    let r = c.requires in
    ends-small _ _ r.taken_in_bounds r.ample _ c.dialect.ensures w.wrote w.to_the_end

pub raise-requires-2 : goal.raise-requires-2
raise-requires-2 c =
    let w = c.walked-q.ensures in
    let r = c.requires in
    rows-small _ _ r.taken_in_bounds r.ample _ c.dialect.ensures w.wrote w.to_the_end

pub returns-clause-text_put : goal.returns-clause-text_put
returns-clause-text_put c =
    let w = c.walked-q.ensures in
    let r = c.requires in
    text-put _ _ r.taken_in_bounds r.ample _ c.dialect.ensures w.wrote w.to_the_end

pub returns-clause-ends_put : goal.returns-clause-ends_put
returns-clause-ends_put c =
    let w = c.walked-q.ensures in
    let r = c.requires in
    ends-raised _ _ r.taken_in_bounds r.ample _ c.dialect.ensures w.wrote w.to_the_end c.raise.ensures

pub returns-clause-rows_put : goal.returns-clause-rows_put
returns-clause-rows_put c =
    let w = c.walked-q.ensures in
    let r = c.requires in
    rows-raised _ _ r.taken_in_bounds r.ample _ c.dialect.ensures w.wrote w.to_the_end c.raise-2.ensures
