-- `passes::opening` meets its contract.
use mathlib.Core.Path.{◌≡◌, refl}
use mathlib.Core.Bool.{Bool, true, false, cond}
use mir.Val.{bool_byte}
use Rattle.places.proofs.Counting.{plus_none}
use Rattle.state.proofs.Parts.{opened-is}
use Rattle.spans.proofs.Passing.{opening-is}
use Rattle.passes.proofs.opening.Goals as goal

byte : (x : Bool) → bool_byte x ≡ cond x 1 0
byte true = refl
byte false = refl

pub returns : goal.returns
returns c =
    rw (
      c.nowhere.ensures,
      c.from.ensures,
      byte,
      c.plus-4.ensures,
      c.plus-3.ensures,
      c.plus-2.ensures,
      c.plus.ensures,
      c.spot-here.ensures,
      opening-is,
      plus_none,
      opened-is,
    )
