-- `inside::pass_inside` meets its contract.
use Rattle.inside.proofs.Quoted.{inside-then, inside-wrote}
use Rattle.inside.proofs.pass_inside.Goals as goal

pub loop-next-preserved : goal.loop-next-preserved
loop-next-preserved c = inside-then c.loop-next.invariant c.in-Some.ensures.written

pub returns : goal.returns
returns c = λ w d o ends rows. rw c.in_default.ensures.unchanged (inside-wrote w d c.args.file.now c.args.p (record { text = c.args.text.now; ends = ends; rows = rows }) c.if-file-p.false c.if-p-ne-QUOTED.false c.if-p-ne0.false o c.loop-next.invariant)
