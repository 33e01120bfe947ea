-- `runs::pairs_by_blocks` meets its contract.
use Rattle.std.proofs.Common.{◌≡◌, ◌∙◌, ◌+◌, ◌*◌, ◌/◌, ap, rules, tests}
use native.Mathlib.Omega.{arith}
use lib.Dec.{eqb}
use Rattle.runs.specs.Runs.{run, pairs}
use Rattle.runs.proofs.Runs.{run-le, pairs-le, blocks-pairs}
use Rattle.runs.proofs.pairs_by_blocks.Goals as goal

passed : (c : goal.After-whole_blocks-blocks) → c.whole_blocks-blocks.result ≡ run (λ b. eqb b 0x22) c.args.bytes.now / 64
passed c = c.whole_blocks-blocks.ensures (λ b. eqb b 0x22) (λ b r k. search (rules, tests))

pub overflow_mul-result : goal.overflow_mul-result
overflow_mul-result c = omega (arith, passed c, run-le (λ b. eqb b 0x22) c.args.bytes.now)

pub overflow_mul-blocks : goal.overflow_mul-blocks
overflow_mul-blocks c = omega (arith, passed c, run-le (λ b. eqb b 0x22) c.args.bytes.now)

all : (c : goal.After-pairs_at_front) → 32 * c.whole_blocks-blocks.result + c.pairs_at_front.result ≡ pairs c.args.bytes.now
all c =
    blocks-pairs c.args.bytes.now _ _ (c.whole_blocks-blocks.ensures (λ b. eqb b 0x22) (λ b r k. search (rules, tests))) (c.pairs_at_front.ensures ∙ ap pairs c.bytes_from.ensures)

pub overflow_add-result : goal.overflow_add-result
overflow_add-result c = omega (arith, all c, pairs-le c.args.bytes.now)

pub returns : goal.returns
returns c = all c
