-- `runs::all_pass` meets its contract.
use Rattle.std.proofs.Common.{◌∙◌, true, ◌&&◌, rules, tests}
use Rattle.std.proofs.lemmas.Iterator.{YieldsList-from_slice}
use Rattle.std.proofs.lemmas.Iterator.Consumers.{fold_from_yields_List}
use Rattle.runs.proofs.Blocks.{fold-all}
use Rattle.runs.proofs.all_pass.Goals as goal

pub returns : goal.returns
returns g c p computes =
    fold_from_yields_List _ (λ a b. a && p b) true _ c.fold.ensures.ran (YieldsList-from_slice c.args.block.now cc) (λ a x b q k. search (rules, tests, computes))
    ∙ fold-all p true c.args.block.now
