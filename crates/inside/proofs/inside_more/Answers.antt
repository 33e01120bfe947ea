-- `inside::inside_more` meets its contract.
use native.Mathlib.Omega.{arith}
use mathlib.Core.Path.{sym, ◌∙◌}
use Rattle.inside.proofs.Quoted.{inside-quotes, inside-feed, inside-copied}
use Rattle.inside.proofs.inside_more.Goals as goal

pub returns-in_ok-text-in-34-clause-written : goal.returns-in_ok-text-in-34-clause-written
returns-in_ok-text-in-34-clause-written c = inside-quotes c.in_ok-get.ensures.lookup.3.0 c.pair_run-pairs.ensures c.in_ok-text-in-34.ensures

pub returns-in_ok-text-in-10-clause-written : goal.returns-in_ok-text-in-10-clause-written
returns-in_ok-text-in-10-clause-written c = let k = c.in_ok-get.ensures.lookup in inside-feed k.3.0 (sym (k.3.1 0) ∙ c.in-10.is) c.in_ok-text-in-10.ensures

pub returns-in_ok-text-in_default-clause-written : goal.returns-in_ok-text-in_default-clause-written
returns-in_ok-text-in_default-clause-written c = inside-copied c.in_ok-get.ensures.lookup.3.0 c.inner_run-run.ensures (omega arith) c.in_ok-text-in_default.ensures
