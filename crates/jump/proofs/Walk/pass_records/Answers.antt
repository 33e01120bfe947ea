-- `jump::Walk::pass_records` meets its contract.
use mathlib.Core.Path.{◌≡◌}
use native.Mathlib.Omega.{arith}
use Rattle.jump.proofs.Passes.{passes-first, passes_over, passes-all, passes-fault, passes-more}
use Rattle.jump.proofs.Walk.pass_records.Goals as goal

pub loop-init : goal.loop-init
loop-init c = passes-first _ _ _ c.requires

pub returns-in_err-at : goal.returns-in_err-at
returns-in_err-at c =
    rw c.from_residual.ensures (passes-fault _ _ _ c.loop.invariant c.if-self-at.false c.loop-test.true c.in_err-at.ensures)

pub loop-preserved : goal.loop-preserved
loop-preserved c = passes-more _ _ _ c.loop.invariant c.if-self-at.false c.in_ok-at.ensures

pub returns-after-loop : goal.returns-after-loop
returns-after-loop c =
    let n : c.loop.counter ≡ c.args.n = omega (arith, c.loop.auto.counter-end, c.loop-test.false) in
    rw n at (passes-all _ _ _ c.loop.invariant)

pub returns-then-self-at : goal.returns-then-self-at
returns-then-self-at c = passes_over _ _ _ c.loop.invariant c.if-self-at.true (omega (arith, c.loop-test.true))
