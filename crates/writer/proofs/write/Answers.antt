use Rattle.std.proofs.Common.{◌≡◌, Err, rules}
use Rattle.format.specs.declared.WriteError.{TheVariants.UnknownMode, TheVariants.Malformed}
use Rattle.writer.specs.Write.{WriteOutcome}
use Rattle.writer.proofs.Outcomes.{by-14, by_judge, by_2, by-15, by_whole}
use Rattle.writer.proofs.write.Goals as goal

pub returns-in_err-mode : goal.returns-in_err-mode
returns-in_err-mode c =
    let q : c.from_residual.result ≡ Err UnknownMode = search rules in
    rw q (WriteOutcome.refusal_1 c.in_err-mode.ensures.0)

pub returns-in_err-formed : goal.returns-in_err-formed
returns-in_err-formed c =
    let q : c.from_residual-in_err-formed.result ≡ Err Malformed = search rules in
    rw q (by-14 c.in_ok-mode.mode c.in_ok-mode.ensures (rw c.in_err-formed.ensures.ok_part at c.formed.ensures))

pub returns-in_err-judge : goal.returns-in_err-judge
returns-in_err-judge c =
    let q : c.from_residual-in_err-judge.result ≡ Err c.in_err-judge.field-0.0 = search rules in
    let e = rw c.in_ok-formed.ensures.ok_part at c.formed.ensures in
    rw (q, ← e) (by_judge c.in_ok-mode.mode c.in_ok-mode.ensures c.in_ok-formed.formed.well_formed c.in_err-judge.ensures)

pub returns-then-length : goal.returns-then-length
returns-then-length c =
    let e = rw c.in_ok-formed.ensures.ok_part at c.formed.ensures in
    rw (← e) (by_2 c.in_ok-mode.mode c.in_ok-mode.ensures c.in_ok-formed.formed.well_formed c.in_ok-judge.ensures c.size-length.ensures c.if-length.true)

pub returns-then-out-length : goal.returns-then-out-length
returns-then-out-length c =
    let e = rw c.in_ok-formed.ensures.ok_part at c.formed.ensures in
    rw (← e)
    (by-15 c.in_ok-mode.mode c.in_ok-mode.ensures c.in_ok-formed.formed.well_formed c.in_ok-judge.ensures c.size-length.ensures c.if-length.false c.if-out-length.true)

pub returns : goal.returns
returns c =
    let e = rw c.in_ok-formed.ensures.ok_part at c.formed.ensures in
    rw (← e)
    (by_whole c.in_ok-mode.mode c.in_ok-mode.ensures c.in_ok-formed.formed.well_formed c.in_ok-judge.ensures c.size-length.ensures c.if-length.false c.if-out-length.false
    c.put.ensures)
