-- `words::short_word`: each byte's mark is shifted behind those before it.
use Rattle.std.proofs.Common.{◌≡◌, refl, take, drop}
use native.Mathlib.Omega.{arith}
use Rattle.words.specs.Words.{word}
use Rattle.words.proofs.Words.{one_word, word-more, word-fits}
use Rattle.words.proofs.short_word.Goals as goal

pub loop-i-init : goal.loop-i-init
unfolding word
loop-i-init c = refl

module _ (c : goal.After-from-in-loop-i) where
  mark : c.from-in-loop-i.result ≡ word c.args.marks.now (take 1 (drop c.loop-i.i c.args.bytes.now))
  mark = one_word c.args.marks.now c.args.bytes.now c.loop-i.i _ _ c.loop-i-test.true c.from.ensures c.from-in-loop-i.ensures

pub overflow_add-w : goal.overflow_add-w
overflow_add-w c = omega (arith, word-fits c.args.marks.now c.args.bytes.now c.loop-i.i 1 c.loop-i.w c.from-in-loop-i.result (omega arith) (omega arith) c.loop-i.invariant (mark c))

pub loop-i-preserved : goal.loop-i-preserved
loop-i-preserved c = word-more c.args.marks.now c.args.bytes.now c.loop-i.i 1 _ _ (omega arith) (omega arith) c.loop-i.invariant (mark c)
