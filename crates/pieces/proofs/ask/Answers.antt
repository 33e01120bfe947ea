-- `pieces::ask` meets its contract: the tests on the way are those of the definition, in its order.
use Rattle.std.proofs.Common.{arith}
use Prim.Native.Nat.{◌≤◌, ◌<◌}
use mathlib.Core.Path.{◌≡◌}
use mathlib.Core.Bool.{true, false}
use borrow.Author.Tests.{ne_eqb, le-leb, lt-leb}
use Rattle.format.specs.House.{file_limit}
use Rattle.steps.specs.Model.{is_valid}
use Rattle.state.specs.declared.Check.{Check}
use Rattle.state.specs.Check.{record_ended}
use Rattle.pieces.specs.Asked.{settled_answer, asked}
use Rattle.pieces.proofs.Stands.{so-asked}
use Rattle.pieces.proofs.ask.Goals as goal

pub returns-then-not-is_valid : goal.returns-then-not-is_valid
unfolding asked
returns-then-not-is_valid c = so-asked (grind arith)

pub returns-then-check-gt-FILE_LIMIT : goal.returns-then-check-gt-FILE_LIMIT
unfolding asked
returns-then-check-gt-FILE_LIMIT c = so-asked (grind arith)

pub returns-then-check-ne0 : goal.returns-then-check-ne0
unfolding asked
returns-then-check-ne0 c = so-asked (grind arith)

pub returns-then-check-eq-QUOTED : goal.returns-then-check-eq-QUOTED
unfolding asked
returns-then-check-eq-QUOTED c = so-asked (grind arith)

pub returns-then-check-ge-AFTER_CR : goal.returns-then-check-ge-AFTER_CR
unfolding asked
returns-then-check-ge-AFTER_CR c = so-asked (grind arith)

-- an open record that no quote and no CR cuts
rest : (a : Check) → is_valid a.delimiter a.leniencies ≡ true → a.here.byte.0 ≤ file_limit → a.refusal ≡ 0 → (a.begun ≡ 0 → ⊥) → (a.form ≡ 3 → ⊥) → a.form < 6 → asked a ≡ settled_answer (record_ended a.used a.here a.here false a)
unfolding asked
rest a v h r b k l = rw (v, le-leb _ _ h, r, ne_eqb _ _ b, ne_eqb _ _ k, lt-leb _ _ l)

pub returns : goal.returns
returns c =
    so-asked
    (rw (
      c.settled-2.ensures,
      c.record_ended.ensures,
      rest c.args.check (grind arith) (omega arith) c.if-check-ne0.false c.if-check-eq0.false c.if-check-eq-QUOTED.false c.if-check-ge-AFTER_CR.false,
    ))
