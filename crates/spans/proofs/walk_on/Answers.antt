-- `spans::walk_on` meets its contract.
use Prim.Native.Nat.{◌+◌, ◌-◌}
use mathlib.Core.Path.{◌≡◌, sym}
use native.Mathlib.Omega.{arith}
use lib.Count.{count_trailing_zeros}
use Rattle.words.proofs.Words.{block}
use Rattle.spans.proofs.Words.{sized, first-mark, no-mark, goes_on}
use Rattle.spans.proofs.walk_on.Goals as goal

pub loop-w-init : goal.loop-w-init
loop-w-init c =
    let l = c.loop-x in
    let k = block c.new-plain.result.marks c.args.s.now l.x.at c.word_at-w.result c.loop-x-test.true c.word_at-w.ensures in
    let e = c.block_end-e.ensures in
    (record { walking = l.invariant.0; ground = l.invariant.1; marked = rw (sym e) at k.marked; within = omega (arith, e, k.within); small = omega (arith, e, k.small) }, l.invariant.2)

pub at_mark-x-requires : goal.at_mark-x-requires
at_mark-x-requires c =
    let a = c.args in
    let l = c.loop-w in
    let m = first-mark a.check c.new-plain.result.marks a.s.now a.at l.x c.block_end-e.result l.w l.invariant.0 c.loop-w-test.true in
    sized a.check a.s.now a.at _ m.walking m.inside

pub returns-then-x-y : goal.returns-then-x-y
returns-then-x-y c =
    let a = c.args in
    let l = c.loop-w in
    let m = first-mark a.check c.new-plain.result.marks a.s.now a.at l.x c.block_end-e.result l.w l.invariant.0 c.loop-w-test.true in
    c.at_mark-x.ensures.goes a.check (sym l.invariant.1) a.at m.walking

pub loop-w-smaller : goal.loop-w-smaller
loop-w-smaller c =
    let a = c.args in
    let l = c.loop-w in
    let m = first-mark a.check c.new-plain.result.marks a.s.now a.at l.x c.block_end-e.result l.w l.invariant.0 c.loop-w-test.true in
    let behind = c.at_mark-x.ensures.goes a.check (sym l.invariant.1) a.at m.walking in
    omega (arith, behind.within, c.at_mark-x.ensures.on, c.if-x-y.false)

pub loop-w-preserved : goal.loop-w-preserved
loop-w-preserved c =
    let a = c.args in
    let l = c.loop-w in
    let t = c.new-plain.result.marks in
    let e = c.block_end-e.result in
    let k = count_trailing_zeros 64 l.w in
    let z = c.at_mark-x in
    let m = first-mark a.check t a.s.now a.at l.x e l.w l.invariant.0 c.loop-w-test.true in
    let behind = z.ensures.goes a.check (sym l.invariant.1) a.at m.walking in
    let on = z.ensures.on in
    (goes_on a.check t a.s.now a.at l.x e l.w l.invariant.0 k (z.result.at - (l.x.at + k)) c.shifted-w.result z.result (omega arith) behind c.shifted-w.ensures, l.invariant.1)

pub loop-x-preserved : goal.loop-x-preserved
loop-x-preserved c =
    let l = c.loop-w in
    let s = no-mark c.args.check c.new-plain.result.marks c.args.s.now c.args.at l.x c.block_end-e.result l.w l.invariant.0 c.loop-w-test.false in
    let far : c.max.result ≡ l.x.at + (c.block_end-e.result - l.x.at) = omega (arith, c.max.ensures) in
    (rw far s, l.invariant.0.ground, l.invariant.1)
