-- What a pass promises.
use Rattle.std.specs.Prelude.{ℕ, ◌≤◌, ◌≡◌, length, drop}
use Rattle.format.specs.Table.{Bytes}
use Rattle.state.specs.declared.Check.{Check}
use Rattle.state.specs.Check.{fed_all}
use Rattle.passes.specs.declared.Reached.{Reached}

-- the bytes of s from i on lead from the state c to where they lead from what is reached, as far or further on; for every state and place
pub record Leads (c : Check) (s : Bytes) (i : ℕ) (r : Reached) : Type 0 where
  pub on : i ≤ r.at
  pub within : i ≤ length s → r.at ≤ length s
  pub same : fed_all r.check (drop r.at s) ≡ fed_all c (drop i s)
