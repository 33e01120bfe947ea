-- `jump::Walk::write_entries` meets its contract.
use native.Mathlib.Omega.{arith}
use mathlib.Core.Path.{◌≡◌}
use lib.ListN.{length, length-set}
use Rattle.std.proofs.Common.{None, Some}
use Rattle.format.specs.Meant.{dialect_of}
use Rattle.format.specs.Walk.{index_step}
use Rattle.jump.specs.Pass.{Passing}
use Rattle.jump.proofs.Building.{passing-within, noting-first, no-fault-here, noting-more}
use Rattle.jump.proofs.Walk.write_entries.Goals as goal

pub loop-entry-init : goal.loop-entry-init
loop-entry-init c = (omega arith, λ es x l. noting-first _ _ _ x _)

pub returns-in_default : goal.returns-in_default
returns-in_default c = λ es x l.
    let e : length es ≡ length c.loop-entry.entries = omega (arith, l) in
    let passing : Passing (dialect_of c.args.self.now.rows.kind.dialect) c.args.self.now.file.now c.loop-entry.at index_step None = c.in_default.ensures in
    absurd (no-fault-here _ _ _ (c.loop-entry.invariant.1 es x e) e (omega arith) passing)

pub loop-entry-preserved : goal.loop-entry-preserved
loop-entry-preserved c =
    let passing : Passing (dialect_of c.args.self.now.rows.kind.dialect) c.args.self.now.file.now c.loop-entry.at index_step (Some c.in-Some.next) = c.in-Some.ensures in
    (passing-within passing, λ es x l. let e : length es ≡ length c.loop-entry.entries = simp length-set at l in noting-more _ _ _ (c.loop-entry.invariant.1 es x e) e (omega arith) passing)
