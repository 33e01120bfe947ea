-- `steps::step` meets its contract: the entry of the code's table is the rules' step.
use Rattle.steps.proofs.Rules.{step-any, class-back}
use Rattle.steps.proofs.step.Goals as goal

pub returns : goal.returns
returns c =
    rw (c.step_by.ensures, c.table.ensures, step-any, c.allows.ensures, c.class_of-class.ensures, class-back)
