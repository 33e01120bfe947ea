-- `words::block_word`: the word of the eights before k.
use Rattle.std.proofs.Common.{◌≡◌, ◌*◌, take}
use Rattle.words.specs.Words.{word}
use Rattle.words.proofs.block_word.Given as goal

abbrev pub invariant-loop-k : goal.invariant-loop-k
invariant-loop-k l = l.w ≡ word l.marks (take (8 * l.k) l.block)
