-- `stride::field_at` meets its contract.
use native.Mathlib.Omega.{arith}
use Rattle.stride.proofs.Content.{bare-to, found}
use Rattle.stride.proofs.field_at.Goals as goal

pub returns-in-Some : goal.returns-in-Some
returns-in-Some c =
    let part = c.in_ok-get.ensures.lookup.0 in
    found
    (λ h. bare-to _ _ c.args.p.at c.args.q h.from (omega (arith, h.inside)) h.so_far) (omega arith) c.in-Some.ensures.found part.2 (omega (arith, c.length.ensures)) c.ends_record.ensures
