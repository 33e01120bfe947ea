-- `passes::pass_refused` meets its contract.
use Rattle.passes.proofs.Passing.{refused-leads}
use Rattle.passes.proofs.pass_refused.Goals as goal

pub returns : goal.returns
returns c =
    let p = c.is_before_stop.ensures c.if-not-is_before_stop.false in
    rw (c.placed.ensures, c.spot-p.ensures)
    (refused-leads c.args.check c.args.s.now c.args.at c.requires.at_in_bounds c.requires.is_refused p.0 p.1 p.2 c.line_feeds-lines.result c.since_lf-tail.result c.line_feeds-lines.ensures c.since_lf-tail.ensures)
