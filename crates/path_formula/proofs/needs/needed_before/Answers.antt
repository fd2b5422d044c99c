use Rattle.std.proofs.Common.{◌≡◌, ◌<◌, All, length, ℕ, List, ap, sym, ◌∙◌, subst}
use Rattle.std.proofs.lemmas.Result.{on_ok_weaker}
use Rattle.bv_term.specs.WellFormed.{Table}
use Rattle.path_formula.specs.Needs.{needed_by_all}
use Rattle.path_formula.proofs.There.{all_there}
use Rattle.path_formula.proofs.needs.needed_before.Goals as goal

pub returns-clause-there : goal.returns-clause-there
returns-clause-there c =
    let table = c.args.graph.now.terms in
    let later = c.args.needed.now.keys in
    let ops = c.operations_of.result.now in
    on_ok_weaker c.back_over_all.result
    (λ e a.
    let d : c.back_over_all.new.needed.keys ≡ needed_by_all table later ops
    = e ∙ ap (λ (t : Table). needed_by_all t later ops) c.terms.ensures.value in
    subst (λ (t : List ℕ). All (λ k. k < length table.cells) t) (sym d)
    (all_there table later ops c.terms.ensures.flow.table c.operations_of.ensures.fits a))
    c.back_over_all.ensures.needed
