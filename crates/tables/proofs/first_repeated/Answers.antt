use Rattle.std.proofs.Common.{rules}
use Rattle.std.proofs.lemmas.Iterator.{IsFirst-from_position}
use Rattle.std.proofs.lemmas.Iterator.Consumers.{YieldsList-from_first, YieldsList-from_enumerate}
use Rattle.tables.specs.Fields.{contents}
use Rattle.tables.proofs.Searching.{Earlier, least-repeated}
use Rattle.tables.proofs.first_repeated.Goals as goal

pub returns : goal.returns
returns c =
    let h = contents c.args.header in
    least-repeated h _
    (IsFirst-from_position c.position.new.self _ c.position.result (Earlier h) (λ p. Earlier h p → ⊥) c.position.ensures.ran
    (YieldsList-from_enumerate (YieldsList-from_first (λ x. x.now) contents h (cc)) (cc)) (λ x q k. search rules) (λ x q k. search rules))
