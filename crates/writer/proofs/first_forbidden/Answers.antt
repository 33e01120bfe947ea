use Rattle.std.proofs.Common.{rules}
use Rattle.std.proofs.lemmas.Iterator.{IsFirst-from_position, YieldsList-from_slice}
use Rattle.tables.proofs.Seeking.{sought-first}
use Rattle.writer.specs.Write.{Forbidden}
use Rattle.writer.proofs.first_forbidden.Goals as goal

pub returns : goal.returns
returns c =
    let text = c.args.text.now in
    sought-first Forbidden text _
    (IsFirst-from_position c.position.new.self _ c.position.result Forbidden (λ b. Forbidden b → ⊥) c.position.ensures.ran
    (YieldsList-from_slice text (cc)) (λ x q k. search rules) (λ x q k. search rules))
