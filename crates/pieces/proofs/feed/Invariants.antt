-- `pieces::feed` meets its contract. The loop's invariant: what is left of the piece leads to the state that the whole piece leads to.
use Prim.Native.Nat.{◌-◌, ◌≤◌}
use mathlib.Core.Path.{◌≡◌}
use lib.ListN.{length, drop}
use Rattle.state.specs.Check.{fed_all}
use Rattle.pieces.proofs.feed.Given as goal

abbrev pub invariant-loop-i : goal.invariant-loop-i
invariant-loop-i l = (l.i ≤ length l.piece) × (fed_all l.c (drop l.i l.piece) ≡ fed_all l.initial.c l.piece)

abbrev pub decreases-loop-i : goal.decreases-loop-i
decreases-loop-i l = length l.piece - l.i
