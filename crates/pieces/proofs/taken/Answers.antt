-- `pieces::taken` meets its contract.
use mathlib.Core.Path.{sym}
use Rattle.state.proofs.Jumps.{refused-step, one-shut}
use Rattle.pieces.proofs.taken.Goals as goal

pub returns-then-check-ne0 : goal.returns-then-check-ne0
returns-then-check-ne0 c = rw (c.placed.ensures, c.moved.ensures) (sym (refused-step c.args.check c.args.b c.if-check-ne0.true))

pub returns-then-is_quote : goal.returns-then-is_quote
returns-then-is_quote c =
    let q = c.is_quote.ensures c.if-is_quote.true in
    rw c.shut.ensures (sym (one-shut c.args.check c.args.b c.if-check-ne0.false q.0 q.1 q.2))
