-- `runs::line_feeds`: the line feeds that are passed and those that are left are all.
use Rattle.std.proofs.Common.{◌≡◌, ◌+◌, ◌≤◌, drop}
use Rattle.format.specs.Place.{line_feeds}
use Rattle.runs.proofs.line_feeds.Given as goal

abbrev pub invariant-loop-b : goal.invariant-loop-b
invariant-loop-b l = (l.feeds ≤ l.b-index) × (l.feeds + line_feeds (drop l.b-index l.b-items) ≡ line_feeds (drop l.from l.s))
