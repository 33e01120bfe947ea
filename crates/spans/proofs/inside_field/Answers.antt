-- `spans::inside_field` meets its contract.
use Rattle.spans.proofs.Quoted.{between-part}
use Rattle.spans.proofs.inside_field.Goals as goal

pub returns : goal.returns
returns c =
    let r = c.inside_from in
    between-part c.args.s.now c.reach.result c.args.at r.result r.ensures
