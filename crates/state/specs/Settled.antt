-- Between quotes, where content is one jump.
use Rattle.std.specs.Prelude.{◌≤◌, ◌≡◌}
use Rattle.steps.specs.Steps.{quoted}
use Rattle.steps.specs.Numbers.{form_number}
use Rattle.places.specs.Counters.{counter_limit}
use Rattle.state.specs.declared.Check.{Check}

-- no blanks held, and every counter that a jump moves before its stop
pub record Settled (c : Check) : Type 0 where
  pub refusal : c.refusal ≡ 0
  pub form : c.form ≡ form_number quoted
  pub other : c.delimiter ≡ 0x22 → ⊥
  pub begun : c.begun ≡ 1
  pub held : c.field.held ≡ 0
  pub content : c.field.content ≤ counter_limit
  pub line : c.here.line.0 ≤ counter_limit
  pub column : c.here.column.0 ≤ counter_limit
  pub byte : c.here.byte.0 ≤ counter_limit
