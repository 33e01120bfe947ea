-- `stride::take_byte` meets its contract. One act after the other.
use Prim.Native.Nat.{ℕ}
use mathlib.Core.Path.{◌≡◌, refl, sym, ◌∙◌, ap}
use mathlib.Core.Bool.{true, false}
use lib.ListN.{get_or}
use Rattle.format.specs.Table.{Bytes}
use Rattle.format.specs.Dialect.{lf, names, class_of}
use Rattle.format.specs.declared.Dialect.{Dialect}
use Rattle.format.specs.Meant.{dialect_of}
use Rattle.steps.specs.declared.Stepped.{Stepped}
use Rattle.steps.specs.Numbers.{form_of, coded, act_of}
use Rattle.steps.specs.Steps.{step_of}
use Rattle.steps.proofs.Acts.{act-back}
use Rattle.fill.specs.declared.Head.{Head}
use Rattle.stride.proofs.Walk.{Does, passes, drops, holds, puts, put-fits, ends-here, end-walks, end-lacks, stops}
use Rattle.stride.proofs.take_byte.Goals as goal

-- what the code's answer says of the byte
does :
    (x : Dialect) (f : Bytes) (p : Head) {b : ℕ} {s : Stepped} → ((y : ℕ) → b ≡ get_or f p.at y)
    → s ≡ coded (step_of (names x.leniencies lf) (form_of p.form) (class_of (dialect_of x) b)) → Does (dialect_of x) f p (act_of s)
does x f p e h = rw (← e 0) (sym (act-back _ _ _) ∙ ap act_of (sym h))

pub returns-in-Refuse-clause-wrote : goal.returns-in-Refuse-clause-wrote
returns-in-Refuse-clause-wrote c =
    let read = c.in_ok-b.ensures.lookup.3 in
    λ w. stops _ _ _ read.0 (does c.args.dialect c.args.file.now c.args.p read.1 c.in-Refuse.ensures)

pub returns-in-Quiet-clause-wrote : goal.returns-in-Quiet-clause-wrote
returns-in-Quiet-clause-wrote c =
    let read = c.in_ok-b.ensures.lookup.3 in
    λ w. passes _ _ _ read.0 (does c.args.dialect c.args.file.now c.args.p read.1 c.in-Quiet.ensures)

pub returns-in-Quiet-2-clause-wrote : goal.returns-in-Quiet-2-clause-wrote
returns-in-Quiet-2-clause-wrote c =
    let read = c.in_ok-b.ensures.lookup.3 in
    λ w. drops _ _ _ read.0 (does c.args.dialect c.args.file.now c.args.p read.1 c.in-Quiet.ensures)

pub returns-in_ok-text-in-Put-clause-wrote : goal.returns-in_ok-text-in-Put-clause-wrote
returns-in_ok-text-in-Put-clause-wrote c =
    let read = c.in_ok-b.ensures.lookup.3 in
    let g = rw (read.1 0) at c.in_ok-text-in-Put.ensures in
    λ w. puts _ _ _ read.0 (does c.args.dialect c.args.file.now c.args.p read.1 c.in-Put.ensures) g

pub returns-in_err-text-in-Put-clause-no_room_or_byte : goal.returns-in_err-text-in-Put-clause-no_room_or_byte
returns-in_err-text-in-Put-clause-no_room_or_byte c =
    let read = c.in_ok-b.ensures.lookup.3 in
    let g = rw (read.1 0) at c.in_err-text-in-Put.ensures in
    rw c.from_residual-in_err-text-in-Put.ensures
    (λ w m. absurd (g.place (put-fits _ _ _ read.0 c.in-Put.form (does c.args.dialect c.args.file.now c.args.p read.1 c.in-Put.ensures) m)))

pub returns-in_ok-held-in-Hold-clause-wrote : goal.returns-in_ok-held-in-Hold-clause-wrote
returns-in_ok-held-in-Hold-clause-wrote c =
    let read = c.in_ok-b.ensures.lookup.3 in
    λ w. holds _ _ _ read.0 (does c.args.dialect c.args.file.now c.args.p read.1 c.in-Hold.ensures) c.in_ok-held-in-Hold.ensures.1

pub returns-in-EndField-clause-wrote : goal.returns-in-EndField-clause-wrote
returns-in-EndField-clause-wrote c =
    let read = c.in_ok-b.ensures.lookup.3 in
    end-walks (ends-here _ _ _ read.0 _ (does c.args.dialect c.args.file.now c.args.p read.1 c.in-EndField.ensures) {row = false} refl) _ c.put_end.ensures.put

pub returns-in-EndField-clause-no_room_or_byte : goal.returns-in-EndField-clause-no_room_or_byte
returns-in-EndField-clause-no_room_or_byte c =
    let read = c.in_ok-b.ensures.lookup.3 in
    end-lacks (ends-here _ _ _ read.0 _ (does c.args.dialect c.args.file.now c.args.p read.1 c.in-EndField.ensures) {row = false} refl) _ c.put_end.ensures.put

pub returns-in-EndRecord-clause-wrote : goal.returns-in-EndRecord-clause-wrote
returns-in-EndRecord-clause-wrote c =
    let read = c.in_ok-b.ensures.lookup.3 in
    end-walks (ends-here _ _ _ read.0 _ (does c.args.dialect c.args.file.now c.args.p read.1 c.in-EndRecord.ensures) {row = true} refl) _ c.put_end-in-EndRecord.ensures.put

pub returns-in-EndRecord-clause-no_room_or_byte : goal.returns-in-EndRecord-clause-no_room_or_byte
returns-in-EndRecord-clause-no_room_or_byte c =
    let read = c.in_ok-b.ensures.lookup.3 in
    end-lacks (ends-here _ _ _ read.0 _ (does c.args.dialect c.args.file.now c.args.p read.1 c.in-EndRecord.ensures) {row = true} refl) _ c.put_end-in-EndRecord.ensures.put
