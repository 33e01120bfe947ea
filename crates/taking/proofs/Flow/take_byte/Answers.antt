-- `taking::Flow::take_byte` meets its contract.
use mathlib.Core.Path.{refl, sym, ◌∙◌}
use Rattle.taking.proofs.Growing.{end-took, over-took, shown-took, fits-left, put-took, stick-took}
use Rattle.taking.proofs.Flow.take_byte.Goals as goal
use Rattle.taking.proofs.Flow.take_byte.Goals.{then-self-piece-via-then-self-piece, then-self-piece-via-else-self-piece+then-is_over}

pub returns-then-self-piece-clause-took : goal.returns-then-self-piece-clause-took
returns-then-self-piece-clause-took c = λ inside.
    elim c.then-self-piece.branch [
      | then-self-piece-via-then-self-piece w ↦ end-took _ _ _ inside w.if-self-piece.true
      | then-self-piece-via-else-self-piece+then-is_over w ↦ over-took _ _ _ inside (sym w.is_over.ensures ∙ w.if-is_over.true)
    ]

pub returns-then-is_shown-clause-took : goal.returns-then-is_shown-clause-took
returns-then-is_shown-clause-took c = λ inside.
    shown-took _ _ _ inside c.if-self-piece.false (sym c.is_over.ensures ∙ c.if-is_over.false) c.take-check.ensures (sym c.is_shown.ensures ∙ c.if-is_shown.true) c.onward-behind.ensures

pub returns-in-Some-short_of-clause-took : goal.returns-in-Some-short_of-clause-took
returns-in-Some-short_of-clause-took c = λ inside.
    let s = rw (c.in-Some.ensures.1, c.new.ensures) at c.in-Some-short_of.ensures in
    stick-took _ _ _ inside c.if-self-piece.false (sym c.is_over.ensures ∙ c.if-is_over.false) (rw c.take-check.ensures at (sym c.is_shown.ensures ∙ c.if-is_shown.false)) c.take-check.ensures _ c.due-due.ensures.out s c.due-due.ensures.blanks _ refl c.stick.ensures.value c.stick.ensures.text_after

pub put_text-requires : goal.put_text-requires
put_text-requires c =
    let room = rw c.new.ensures at c.in-Some.ensures in (fits-left _ _ _ room.0 (rw room.1 at c.in_default-short_of.ensures)).0

pub put_entry-requires : goal.put_entry-requires
put_entry-requires c =
    let room = rw c.new.ensures at c.in-Some.ensures in (fits-left _ _ _ room.0 (rw room.1 at c.in_default-short_of.ensures)).1

pub put_entry-requires-2 : goal.put_entry-requires-2
put_entry-requires-2 c =
    let room = rw c.new.ensures at c.in-Some.ensures in (fits-left _ _ _ room.0 (rw room.1 at c.in_default-short_of.ensures)).2

pub returns-clause-took : goal.returns-clause-took
returns-clause-took c = λ inside.
    let z = rw (c.in-Some.ensures.1, c.new.ensures) at c.in_default-short_of.ensures in
    let w = c.put_text.ensures in
    let v = c.put_entry.ensures in
    let u = c.put_entry-2.ensures in
    put-took _ _ _ inside c.if-self-piece.false (sym c.is_over.ensures ∙ c.if-is_over.false) (rw c.take-check.ensures at (sym c.is_shown.ensures ∙ c.if-is_shown.false)) c.take-check.ensures _ c.due-due.ensures.out z
    (rw (c.onward-behind.ensures, w.value, v.value, u.value) refl) w.text_after v.entries_after u.entries_after
