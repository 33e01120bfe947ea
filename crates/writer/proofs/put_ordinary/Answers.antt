use Rattle.std.proofs.Common.{◌∙◌, sym, arith, length-take-le}
use Rattle.std.proofs.lemmas.Grind.{common_steps}
use Rattle.writer.specs.Form.{bare, quoted}
use Rattle.writer.proofs.Fields.{special_at, copy-on, ordinary_on, ordinary_all}
use Rattle.writer.proofs.put_ordinary.Goals as goal

pub returns-then-is_special : goal.returns-then-is_special
returns-then-is_special c =
    quoted {n = c.loop-i.i} (special_at _ _ c.loop-i.invariant.1 c.loop-i-test.true (sym c.is_special.ensures ∙ c.if-is_special.true)) (omega (arith, c.loop-i-test.true))
    (rw (length-take-le c.loop-i.i c.args.content.now (omega (arith, c.loop-i-test.true))) c.loop-i.invariant.0)

pub loop-i-preserved : goal.loop-i-preserved
loop-i-preserved c =
    (copy-on _ _ _ _ c.loop-i.invariant.0 c.loop-i-test.true c.requires, ordinary_on _ _ c.loop-i.invariant.1 c.loop-i-test.true (sym c.is_special.ensures ∙ c.if-is_special.false))

pub returns : goal.returns
returns c = bare (ordinary_all _ _ c.loop-i.invariant.1 c.loop-i-test.false) (grind (arith, common_steps))
