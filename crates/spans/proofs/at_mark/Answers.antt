-- `spans::at_mark` meets its contract.
use Rattle.spans.proofs.Passing.{goes-bare}
use Rattle.spans.proofs.at_mark.Goals as goal

pub returns : goal.returns
returns c =
    rw (c.ended_by.ensures, c.end_at-end.ensures) (goes-bare c.args.ends c.args.s.now c.args.x c.requires c.if-content.false)
