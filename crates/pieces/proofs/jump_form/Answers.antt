-- `pieces::jump_form` meets its contract.
use Prim.Native.Nat.{ℕ}
use mathlib.Core.Path.{◌≡◌, refl, sym, ◌∙◌}
use mathlib.Core.Bool.{Bool, true, false}
use native.Mathlib.Omega.{arith}
use Rattle.std.specs.Prelude.{IfSome}
use Rattle.std.specs.Bool.{then_some}
use Rattle.state.proofs.Jumps.{one-text, one-inner, one-second}
use Rattle.pieces.proofs.jump_form.Goals as goal
use Rattle.pieces.proofs.jump_form.Goals.{then-check-eq-QUOTED, else-check-eq-QUOTED}

some-if : (x : Bool) (P : ℕ → Type 0) (n : ℕ) → (x ≡ true → P n) → IfSome (then_some x n) P
some-if true P n h = h refl
some-if false P n h = tt

pub returns-then-check-lt-QUOTED : goal.returns-then-check-lt-QUOTED
returns-then-check-lt-QUOTED c =
    rw c.then_some.ensures
    (some-if c.is_plain.result _ 2 (λ e. one-text c.args.check c.args.b c.requires (omega arith) (rw c.dialect.ensures at (sym c.is_plain.ensures ∙ e))))

pub returns : goal.returns
returns c =
    rw c.then_some-2.ensures
    (some-if c.if-check-eq-QUOTED.is_content _ 3 (λ e. elim c.if-check-eq-QUOTED.branch [
      | then-check-eq-QUOTED w ↦ one-inner c.args.check c.args.b c.requires w.if-check-eq-QUOTED.true (sym w.is_inner-is_content.ensures ∙ sym w.is_content-is ∙ e)
      | else-check-eq-QUOTED w ↦ let q = w.is_quote-is_content.ensures (sym w.is_content-is ∙ e) in one-second c.args.check c.args.b c.requires q.0 q.1 q.2
    ]))
