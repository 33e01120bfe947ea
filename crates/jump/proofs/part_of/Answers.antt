-- `jump::part_of` meets its contract.
use mathlib.Core.Path.{refl, sym, ◌∙◌}
use mathlib.Core.Bool.{true≢false, false≢true}
use Rattle.std.proofs.lemmas.Result.{err_from_is_err_and}
use Rattle.steps.proofs.Verdicts.{valid-yes, yes-valid}
use Rattle.jump.specs.Jump.{refusal_1, refusal_2, no_entry}
use Rattle.jump.proofs.Outcomes.{refuses, cannot-walk, walks}
use Rattle.jump.proofs.part_of.Goals as goal

pub returns-then-not-is_valid : goal.returns-then-not-is_valid
returns-then-not-is_valid c =
    refusal_1 (λ h. true≢false (sym (valid-yes _ _ h) ∙ (sym c.is_valid.ensures ∙ c.if-not-is_valid.true)))

pub returns-then-file : goal.returns-then-file
returns-then-file c = refusal_2 (yes-valid _ _ (sym c.is_valid.ensures ∙ c.if-not-is_valid.false)) c.if-file.true

pub returns-in_err-entry : goal.returns-in_err-entry
returns-in_err-entry c =
    let (n, e) = refuses c.get.result c.in_err-entry.ensures.value in
    let p = err_from_is_err_and c.from_residual.result c.from_residual.ensures.1 in
    rw (p.1, p.2, e) (no_entry (yes-valid _ _ (sym c.is_valid.ensures ∙ c.if-not-is_valid.false)) c.if-file.false (rw n at c.get.ensures.lookup).3)

pub returns-then-not-is_usable : goal.returns-then-not-is_usable
returns-then-not-is_usable c =
    let got = rw c.in_ok-entry.ensures.ok_part at c.get.ensures.lookup in
    cannot-walk (yes-valid _ _ (sym c.is_valid.ensures ∙ c.if-not-is_valid.false)) c.if-file.false got.3.0 (got.3.1 0) (λ u. false≢true (c.if-not-is_usable.ensures.1 u))

pub returns : goal.returns
returns c =
    let got = rw c.in_ok-entry.ensures.ok_part at c.get.ensures.lookup in
    walks (yes-valid _ _ (sym c.is_valid.ensures ∙ c.if-not-is_valid.false)) c.if-file.false got.3.0 (got.3.1 0) (c.if-not-is_usable.ensures.0 refl)
    (rw (c.new.ensures.dialect, c.new.ensures.file) at c.part_behind.ensures)
