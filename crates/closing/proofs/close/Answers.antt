-- `closing::close` meets its contract, case by case.
use native.Mathlib.Omega.{arith}
use mathlib.Core.Path.{refl, sym, ◌∙◌}
use borrow.Author.Rules.{rules}
use Rattle.output.proofs.Closing.{close-over, close-none, close-no-ends, close-no-rows, close-full}
use Rattle.closing.proofs.close.Goals as goal

pub returns-then-is_over : goal.returns-then-is_over
returns-then-is_over c = close-over _ _ _ (sym c.is_over.ensures ∙ c.if-is_over.true) c.told.ensures

pub returns-then-answer-ne0 : goal.returns-then-answer-ne0
returns-then-answer-ne0 c = close-none _ _ _ _ (c.from-answer.ensures ∙ c.ask.ensures.result) (sym c.is_over.ensures ∙ c.if-is_over.false) c.then-answer-ne0.either c.told-then-answer-ne0.ensures

pub returns-then-is_empty : goal.returns-then-is_empty
returns-then-is_empty c =
    rw (c.told-then-is_empty.ensures, c.number.ensures) (close-no-ends _ _ _ _ (c.from-answer.ensures ∙ c.ask.ensures.result) (sym c.is_over.ensures ∙ c.if-is_over.false) (omega arith) c.if-s-eq0.false (search rules) refl)

pub returns-then-is_empty-2 : goal.returns-then-is_empty-2
returns-then-is_empty-2 c =
    rw (c.told-then-is_empty-2.ensures, c.number-then-is_empty-2.ensures) (close-no-rows _ _ _ _ (c.from-answer.ensures ∙ c.ask.ensures.result) (sym c.is_over.ensures ∙ c.if-is_over.false) (omega arith) c.if-s-eq0.false (search rules) (search rules) refl)

pub returns : goal.returns
returns c =
    rw c.told-2.ensures (close-full _ _ _ _ (c.from-answer.ensures ∙ c.ask.ensures.result) (sym c.is_over.ensures ∙ c.if-is_over.false) (omega arith) c.if-s-eq0.false (search rules) (search rules) refl)
