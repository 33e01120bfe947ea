-- `runs::inner_run` meets its contract.
use Rattle.std.proofs.Common.{◌≡◌, ◌<◌, drop, length, rules, tests}
use mathlib.Core.Path.{refl, sym, ap, ◌∙◌}
use native.Mathlib.Omega.{arith}
use Rattle.std.proofs.lemmas.Iterator.{YieldsList-from_slice}
use Rattle.std.specs.List.{slice_range}
use Rattle.std.proofs.lemmas.List.{drop_all}
use Rattle.runs.specs.Runs.{run, is_inner}
use Rattle.runs.proofs.Blocks.{counted-front}
use Rattle.runs.proofs.Runs.{rest-is, run-le, front-part}
use Rattle.runs.proofs.inner_run.Goals as goal

pub returns-in_default : goal.returns-in_default
unfolding run
returns-in_default c =
    let far : length c.args.s.now < c.args.from = omega (arith, c.in_default.ensures.lookup) in
    rw (drop_all c.args.from c.args.s.now (omega (arith, far)))

pub slice_bounds-iter-start : goal.slice_bounds-iter-start
slice_bounds-iter-start c = omega (arith, c.inner_blocks-passed.ensures, run-le is_inner c.in-Some.rest.now)

pub slice_bounds-iter-count : goal.slice_bounds-iter-count
slice_bounds-iter-count c = omega (arith, c.inner_blocks-passed.ensures, run-le is_inner c.in-Some.rest.now)

pub returns : goal.returns
unfolding run
returns c =
    let rest = c.in-Some.rest.now in
    let passed = c.inner_blocks-passed.result in
    let last = slice_range rest passed (length rest) in
    let e = rest-is c.args.s.now rest c.args.from c.in-Some.ensures.lookup.0.2 in
    let p : c.count.result ≡ run is_inner last = counted-front _ is_inner _ c.count.ensures.ran (YieldsList-from_slice last cc) c.take_while.ensures.closure c.take_while.ensures.done (λ x b q k. search (rules, tests)) in
    let q : c.count.result ≡ run is_inner (drop passed rest) = p ∙ ap (run is_inner) (rest-is rest last passed refl) in
    rw (sym e) (omega (arith, q, front-part is_inner rest passed (omega arith)))
