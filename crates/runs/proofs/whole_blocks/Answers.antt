-- `runs::whole_blocks` meets its contract.
use Rattle.std.proofs.Common.{◌∙◌, ap, rules, tests}
use Rattle.std.specs.List.{prefix_len, list_all}
use Rattle.std.proofs.lemmas.Iterator.{YieldsList-from_slice}
use Rattle.runs.proofs.Blocks.{counted-front, blocks-front}
use Rattle.runs.proofs.whole_blocks.Goals as goal

pub returns : goal.returns
returns g c p computes =
    counted-front _ (list_all p) _ c.count.ensures.ran (YieldsList-from_slice c.as_chunks.result.0.now cc) c.take_while.ensures.closure c.take_while.ensures.done (λ x b q k. search (rules, tests, computes))
    ∙ ap (prefix_len (list_all p)) c.as_chunks.ensures.front ∙ blocks-front p g.row.N c.args.bytes.now c.requires.some
