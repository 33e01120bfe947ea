-- `spans::at_quote` meets its contract.
use Rattle.spans.proofs.Passing.{goes-quoted}
use Rattle.spans.proofs.at_quote.Goals as goal

pub returns : goal.returns
returns c =
    let q = c.inside_field-q in
    rw (c.ended_by.ensures, c.end_at-end.ensures, c.last_line.ensures)
    (goes-quoted c.args.ends c.args.s.now c.args.x c.requires.sized q.result q.ensures (c.closes.ensures c.if-not-closes.false) c.if-x.false c.requires.quote)
