-- `room::part` meets its contract.
use mathlib.Core.Path.{◌≡◌}
use borrow.Author.Rules.{rules}
use Rattle.room.specs.Room.{part_of}
use Rattle.room.proofs.Counted.{passable}
use Rattle.room.proofs.part.Goals as goal

pub returns-clause-passable : goal.returns-clause-passable
unfolding part_of
returns-clause-passable c =
    let value : c.min.result ≡ part_of c.args.p c.args.most c.args.lengths = search rules in
    passable _ _ _ value
