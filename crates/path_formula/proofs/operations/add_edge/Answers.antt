use Rattle.std.proofs.Common.{◌≡◌, ◌++◌, All, List, ap, sym, ◌∙◌, subst}
use Rattle.std.proofs.lemmas.Result.{on_ok_weaker}
use Rattle.std.proofs.lemmas.List.Elements.{All-append}
use Rattle.path_query.specs.declared.query.Bundle.{Bundle}
use Rattle.bv_term.specs.WellFormed.{Table}
use Rattle.path_query.specs.Facts.{IsBundle}
use Rattle.path_formula.specs.Added.{added_all}
use Rattle.path_formula.proofs.Adding.{all_bundles}
use Rattle.path_formula.proofs.operations.add_edge.Goals as goal

pub returns-clause-bundles : goal.returns-clause-bundles
returns-clause-bundles c =
    let P = IsBundle c.args.graph.now.terms.cells in
    let old = c.args.draws.now.items in
    let ops = c.operations_of-ops.result.now in
    let more = (added_all c.args.graph.now.terms c.args.bits.now ops c.args.kept.now).draws in
    on_ok_weaker c.add_all.result
    (λ e a.
    let d : c.add_all.new.draws.items ≡ old ++ more
    = e ∙ ap (λ (t : Table). old ++ (added_all t c.args.bits.now ops c.args.kept.now).draws) c.terms.ensures.value in
    subst (λ (t : List Bundle). All P t) (sym d)
    (All-append P old more a (all_bundles c.args.graph.now.terms c.args.bits.now ops c.args.kept.now c.operations_of-ops.ensures.fits)))
    c.add_all.ensures.draws
