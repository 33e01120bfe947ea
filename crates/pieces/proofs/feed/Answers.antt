-- `pieces::feed` meets its contract. The loop's invariant: what is left of the piece leads to the state that the whole piece leads to.
use Prim.Native.Nat.{ℕ, ◌+◌, ◌<◌}
use mathlib.Core.Path.{◌≡◌, refl, ◌∙◌, ap, sym}
use mathlib.Core.List.{List}
use native.Mathlib.Omega.{arith}
use lib.ListN.{length, drop, get_or}
use Rattle.state.specs.declared.Check.{Check}
use Rattle.state.specs.Check.{fed, fed_all}
use Rattle.state.proofs.Between.{fed-at}
use Rattle.state.proofs.Jumps.{fed-end}
use Rattle.pieces.proofs.Stands.{so-fed}
use Rattle.pieces.proofs.feed.Goals as goal

-- one byte more
module _ (c : Check) (l : List ℕ) (i : ℕ) where
  one_more : (e : Check) → i < length l → e ≡ fed c (get_or l i 0) → fed_all e (drop (i + 1) l) ≡ fed_all c (drop i l)
  one_more e h q = ap (λ (x : Check). fed_all x (drop (i + 1) l)) q ∙ fed-at c l i h

pub loop-i-init : goal.loop-i-init
loop-i-init c = (omega arith, refl)

pub loop-i-smaller-then-i-piece : goal.loop-i-smaller-then-i-piece
loop-i-smaller-then-i-piece c = omega (arith, c.pass_long-r.ensures.on, c.if-i-piece.true)

pub loop-i-preserved-then-i-piece : goal.loop-i-preserved-then-i-piece
loop-i-preserved-then-i-piece c =
    let r = c.pass_long-r in
    let d = c.taken-c in
    (omega arith, one_more r.result.check c.args.piece.now r.result.at d.result c.if-i-piece.true d.ensures ∙ r.ensures.same ∙ c.loop-i.invariant.1)

pub loop-i-smaller : goal.loop-i-smaller
loop-i-smaller c = omega (arith, c.if-i-piece.false, c.loop-i-test.true)

pub loop-i-preserved : goal.loop-i-preserved
loop-i-preserved c = let q = c.pass_long-r.ensures in (q.within c.loop-i.invariant.0, q.same ∙ c.loop-i.invariant.1)

pub returns : goal.returns
returns c = so-fed (sym (fed-end _ _ _ c.loop-i-test.false) ∙ c.loop-i.invariant.1)
