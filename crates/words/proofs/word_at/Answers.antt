-- `words::word_at`: behind the end of a part there are no marks.
use Rattle.std.proofs.Common.{◌<◌, length}
use native.Mathlib.Omega.{arith}
use lib.ListN.{drop_of_length-le}
use lib.Seq.{take-nil}
use Rattle.words.specs.Words.{word}
use Rattle.words.proofs.word_at.Goals as goal

pub returns-in_default : goal.returns-in_default
unfolding word
returns-in_default g c =
    let far : length c.args.s.now < c.args.at = omega (arith, c.in_default.ensures.lookup) in
    rw (drop_of_length-le c.args.s.now {i = c.args.at} (omega (arith, far)), take-nil)
