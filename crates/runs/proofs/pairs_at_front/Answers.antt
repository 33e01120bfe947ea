-- `runs::pairs_at_front` meets its contract.
use Rattle.std.proofs.Common.{◌∙◌, ap, rules, tests}
use Rattle.std.specs.List.{prefix_len}
use Rattle.std.proofs.lemmas.Iterator.{YieldsList-from_slice}
use Rattle.runs.proofs.Blocks.{counted-front}
use Rattle.runs.proofs.Runs.{is_pair, twos-pairs}
use Rattle.runs.proofs.pairs_at_front.Goals as goal

pub returns : goal.returns
returns c =
    counted-front _ is_pair _ c.count.ensures.ran (YieldsList-from_slice c.as_chunks.result.0.now cc) c.take_while.ensures.closure c.take_while.ensures.done (λ x b q k. search (rules, tests))
    ∙ ap (prefix_len is_pair) c.as_chunks.ensures.front ∙ twos-pairs c.args.bytes.now
