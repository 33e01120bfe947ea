-- `stride::quoted_field` meets its contract.
use Prim.Native.Nat.{◌+◌}
use mathlib.Core.Path.{refl, sym, ◌∙◌}
use native.Mathlib.Omega.{arith}
use Rattle.format.specs.Meant.{dialect_of}
use Rattle.runs.specs.Runs.{is_inner}
use Rattle.runs.proofs.Runs.{run-within}
use Rattle.stride.proofs.Content.{quoted-to, found}
use Rattle.stride.proofs.quoted_field.Goals as goal

pub overflow_add-to : goal.overflow_add-to
overflow_add-to c =
    let quote = c.in_ok-get.ensures.lookup.3.0 in
    omega (arith, run-within is_inner c.args.file.now (c.args.p.at + 1) c.inner_run.result (omega arith) (omega (arith, c.inner_run.ensures)), c.well_formed)

pub returns : goal.returns
returns c =
    let a = c.args in
    let first = c.in_ok-get.ensures.lookup.3 in
    let last = c.in_ok-get-2.ensures.lookup.3 in
    let quote = sym (first.1 0) ∙ c.if-branch-ne34.false in
    let to = a.p.at + 1 + c.inner_run.result in
    found
    (λ h. quoted-to (dialect_of a.dialect) (λ z. c.requires first.0 (quote ∙ sym z)) a.file.now a.p.at to (omega arith) last.0 quote (sym (last.1 0) ∙ c.if-branch-ne34-2.false) (omega (arith, c.inner_run.ensures)))
    (omega arith) c.in_ok-ending.ensures.found refl (omega (arith, c.length.ensures)) c.ends_record.ensures
