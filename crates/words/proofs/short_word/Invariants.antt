-- `words::short_word`: the word of the bytes before i.
use Rattle.std.proofs.Common.{◌≡◌, take}
use Rattle.words.specs.Words.{word}
use Rattle.words.proofs.short_word.Given as goal

abbrev pub invariant-loop-i : goal.invariant-loop-i
invariant-loop-i l = l.w ≡ word l.marks (take l.i l.bytes)
