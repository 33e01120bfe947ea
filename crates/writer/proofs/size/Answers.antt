use Rattle.std.proofs.Common.{◌≡◌, rules, tests, ◌∙◌}
use mathlib.Core.List.{flatten}
use Rattle.std.specs.Prelude.{count_by}
use Rattle.std.proofs.lemmas.Iterator.Consumers.{YieldsList-from_first, YieldsList-from_filter, count_from_yields_List}
use Rattle.std.proofs.lemmas.List.Sums.{length-filter}
use Rattle.tables.specs.Fields.{contents}
use Rattle.tables.specs.Records.{held}
use Rattle.writer.specs.Form.{quotes}
use Rattle.writer.proofs.Sizes.{is_quote, size_is}
use Rattle.writer.proofs.size.Goals as goal

pub returns : goal.returns
returns c =
    let fields = flatten (held c.args.formed.now) in
    let doubled : c.count-doubled.result ≡ count_by is_quote c.args.formed.now.table.text.now = search rules in
    let quoted =
    count_from_yields_List c.filter-2.result _ c.count-quoted.ensures.ran
    (YieldsList-from_filter _ (quotes c.args.mode) (YieldsList-from_first (λ x. x.now) contents fields (cc)) c.filter-2.ensures.closure (λ x b q k. search (rules, tests))) in
    size_is c.args.mode c.args.formed.now.well_formed doubled (quoted ∙ length-filter (quotes c.args.mode) fields)
