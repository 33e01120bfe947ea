-- `stride::end_at` meets its contract.
use mathlib.Core.Path.{◌≡◌, sym, ◌∙◌}
use Rattle.std.specs.Prelude.{Bool, true, false, IfSome}
use Rattle.std.specs.Bool.{then_some}
use lib.ListN.{drop}
use Rattle.runs.specs.Runs.{is_break}
use Rattle.stride.specs.declared.Ending.{TheVariants.Break}
use Rattle.stride.specs.Stride.{EndAt, delimits, breaks}
use Rattle.stride.proofs.end_at.Goals as goal

pub returns-then-branch-delimiter-clause-found : goal.returns-then-branch-delimiter-clause-found
returns-then-branch-delimiter-clause-found c = let read = c.in_ok-get.ensures.lookup.3 in delimits read.0 (sym (read.1 0) ∙ c.if-branch-delimiter.true)

pub returns-clause-found : goal.returns-clause-found
returns-clause-found c = rw c.then_some.ensures (on c.is_break.result (sym c.is_break.ensures))
  where
    on : (y : Bool) → is_break (drop c.args.at c.args.file.now) ≡ y → IfSome (then_some y Break) (EndAt c.args.file.now c.args.delimiter c.args.at)
    on true e = breaks e (λ z. c.if-branch-delimiter.false ((c.in_ok-get.ensures.lookup.3.1 0) ∙ z))
    on false e = tt
