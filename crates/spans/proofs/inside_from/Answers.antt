-- `spans::inside_from` meets its contract.
use native.Mathlib.Omega.{arith}
use Rattle.spans.proofs.Quoted.{between_start, blocks-on, run_fits, to-end, stop-fits, to-stop}
use Rattle.spans.proofs.inside_from.Goals as goal

pub loop-x-init : goal.loop-x-init
loop-x-init c = (rw c.nothing_from-x.ensures (between_start c.args.s.now c.args.at c.requires), omega arith)

pub run_on-y-requires : goal.run_on-y-requires
run_on-y-requires c =
    let k = c.inner_blocks in
    run_fits c.args.s.now c.args.at c.loop-x.x k.result c.loop-x.invariant.0 c.loop-x.invariant.1 (omega (arith, k.ensures))

pub overflow_sub-s : goal.overflow_sub-s
overflow_sub-s c =
    let b = blocks-on c.args.s.now c.args.at c.loop-x.x c.loop-x.invariant.0 c.inner_blocks.result c.inner_blocks.ensures c.run_on-y.result c.run_on-y.ensures in
    b.0.within

pub returns-then-w-eq0 : goal.returns-then-w-eq0
returns-then-w-eq0 c =
    to-end c.args.inner.now.marks c.args.inner.now.exact c.args.s.now (λ j. omega (arith, c.type_inv.s j)) c.args.at c.loop-x.x c.loop-x.invariant.0 c.inner_blocks.result c.inner_blocks.ensures c.run_on-y.result c.run_on-y.ensures c.word_at-w.result c.word_at-w.ensures c.if-w-eq0.true c.run_on.result c.run_on.ensures

pub run_on-z-requires : goal.run_on-z-requires
run_on-z-requires c =
    let b = blocks-on c.args.s.now c.args.at c.loop-x.x c.loop-x.invariant.0 c.inner_blocks.result c.inner_blocks.ensures c.run_on-y.result c.run_on-y.ensures in
    let m = stop-fits c.args.inner.now.marks c.args.inner.now.exact c.args.s.now (λ j. omega (arith, c.type_inv.s j)) c.args.at c.loop-x.x c.loop-x.invariant.0 c.inner_blocks.result c.inner_blocks.ensures c.run_on-y.result c.run_on-y.ensures c.word_at-w.result c.word_at-w.ensures c.if-w-eq0.false in
    (omega (arith, m, c.loop-x.invariant.1), omega (arith, b.0.content), omega (arith, b.0.tail))

pub stop_on-x-requires : goal.stop_on-x-requires
stop_on-x-requires c =
    let z = to-stop c.args.inner.now.marks c.args.inner.now.exact c.args.s.now (λ j. omega (arith, c.type_inv.s j)) c.args.at c.loop-x.x c.loop-x.invariant.0 c.inner_blocks.result c.inner_blocks.ensures c.run_on-y.result c.run_on-y.ensures c.word_at-w.result c.word_at-w.ensures c.if-w-eq0.false c.run_on-z.result c.run_on-z.ensures in
    let b = z.0 in
    (z.1, omega (arith, b.content), omega (arith, b.lines), omega (arith, b.tail))

pub returns-then-x-z : goal.returns-then-x-z
returns-then-x-z c =
    let z = to-stop c.args.inner.now.marks c.args.inner.now.exact c.args.s.now (λ j. omega (arith, c.type_inv.s j)) c.args.at c.loop-x.x c.loop-x.invariant.0 c.inner_blocks.result c.inner_blocks.ensures c.run_on-y.result c.run_on-y.ensures c.word_at-w.result c.word_at-w.ensures c.if-w-eq0.false c.run_on-z.result c.run_on-z.ensures in
    c.stop_on-x.ensures.more c.args.at z.0

pub loop-x-preserved : goal.loop-x-preserved
loop-x-preserved c =
    let z = to-stop c.args.inner.now.marks c.args.inner.now.exact c.args.s.now (λ j. omega (arith, c.type_inv.s j)) c.args.at c.loop-x.x c.loop-x.invariant.0 c.inner_blocks.result c.inner_blocks.ensures c.run_on-y.result c.run_on-y.ensures c.word_at-w.result c.word_at-w.ensures c.if-w-eq0.false c.run_on-z.result c.run_on-z.ensures in
    (c.stop_on-x.ensures.more c.args.at z.0, c.loop-x.invariant.1)
