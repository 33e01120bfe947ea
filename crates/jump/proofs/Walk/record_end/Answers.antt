-- `jump::Walk::record_end` meets its contract.
use native.Mathlib.Omega.{arith}
use lib.ListN.{get_or}
use mathlib.Core.Path.{sym, ◌∙◌}
use Rattle.format.specs.Dialect.{lf, names, class_of}
use Rattle.format.specs.Meant.{dialect_of}
use Rattle.steps.specs.Steps.{step_of}
use Rattle.steps.specs.Numbers.{form_of, coded}
use Rattle.jump.proofs.Bytes.{going-first, byte-faults, byte-ends, byte-ends-cr, byte-goes, end-faults, end-ends, skips, no_less, Leads, leads-to}
use Rattle.jump.proofs.Walk.record_end.Goals as goal
use Rattle.jump.proofs.Walk.record_end.Goals.{After-pass_run-spot, in-EndField, in-Quiet, in-Quiet-2, in-Quiet-3, in-Quiet-4}

pub loop-at-init : goal.loop-at-init
loop-at-init c = going-first _ _ _ c.requires

pub returns-in-Refuse : goal.returns-in-Refuse
returns-in-Refuse c = byte-faults _ _ _ c.loop-at.invariant c.loop-at-test.true c.in-Refuse.ensures

pub returns-in-EndRecord : goal.returns-in-EndRecord
returns-in-EndRecord c = byte-ends-cr _ _ _ c.loop-at.invariant c.loop-at-test.true c.in-EndRecord.ensures c.if-form-ge-AFTER_CR.true

pub returns-in-EndRecord-2 : goal.returns-in-EndRecord-2
returns-in-EndRecord-2 c = byte-ends _ _ _ c.loop-at.invariant c.loop-at-test.true c.in-EndRecord-2.ensures c.if-form-ge-AFTER_CR.false

pub loop-at-smaller : goal.loop-at-smaller
loop-at-smaller c = omega (arith, no_less c.pass_run-spot.ensures, c.loop-at-test.true)

pub loop-at-preserved : goal.loop-at-preserved
loop-at-preserved c =
    skips _ _ _ (byte-goes _ _ _ c.loop-at.invariant c.loop-at-test.true (leads c)) c.pass_run-spot.ensures
  where
    leads : (c : After-pass_run-spot) → Leads (coded (step_of (names c.args.self.now.rows.kind.dialect.leniencies lf) (form_of c.loop-at.form) (class_of (dialect_of c.args.self.now.rows.kind.dialect) (get_or c.args.self.now.file.now c.loop-at.at 0)))) c.match-s.next
    leads c =
        elim c.match-s.branch [
          | in-EndField w ↦ leads-to _ w.in-EndField.ensures (sym w.next-is)
          | in-Quiet w ↦ leads-to _ w.in-Quiet.ensures (sym w.next-is)
          | in-Quiet-2 w ↦ leads-to _ w.in-Quiet.ensures (sym w.next-is)
          | in-Quiet-3 w ↦ leads-to _ w.in-Quiet.ensures (sym w.next-is)
          | in-Quiet-4 w ↦ leads-to _ w.in-Quiet.ensures (sym w.next-is)
        ]

pub returns-then-is_fault_at_end : goal.returns-then-is_fault_at_end
returns-then-is_fault_at_end c =
    end-faults _ _ _ c.loop-at.invariant c.loop-at-test.false (sym c.is_fault_at_end.ensures ∙ c.if-is_fault_at_end.true)

pub returns : goal.returns
returns c =
    end-ends _ _ _ c.loop-at.invariant c.loop-at-test.false (sym c.is_fault_at_end.ensures ∙ c.if-is_fault_at_end.false)
