use Rattle.std.proofs.Common.{refl, sym, arith}
use Rattle.writer.specs.Form.{quoted}
use Rattle.writer.proofs.Fields.{full-quotes}
use Rattle.writer.proofs.put_bare.Goals as goal

pub returns-in-Plain : goal.returns-in-Plain
returns-in-Plain c = rw c.in-Plain.is c.put_ordinary.ensures

pub returns-in-Full : goal.returns-in-Full
returns-in-Full c = rw c.in-Full.is (quoted {n = 0} (sym (full-quotes c.args.content.now)) (omega arith) refl)
