use Rattle.std.proofs.Common.{rules, tests, ◌∙◌}
use Rattle.std.proofs.lemmas.Iterator.{YieldsList-from_slice}
use Rattle.std.proofs.lemmas.Iterator.Search.{any_from_yields_List}
use Rattle.format.specs.Dialect.{strict}
use Rattle.format.specs.WrittenForms.{is_special}
use Rattle.writer.proofs.Fields.{plain-quotes, full-quotes}
use Rattle.writer.proofs.is_quoted.Goals as goal

pub returns-in-Plain : goal.returns-in-Plain
returns-in-Plain c =
    rw c.in-Plain.is
    (any_from_yields_List (is_special strict) _ _ c.any.result c.any.ensures.ran (YieldsList-from_slice c.args.field.now (cc))
    (λ x b q k. search (rules, tests)) ∙ plain-quotes c.args.field.now)

pub returns-in-Full : goal.returns-in-Full
returns-in-Full c = rw c.in-Full.is (full-quotes c.args.field.now)
