use Rattle.std.proofs.Common.{◌≡◌, ◌++◌, ◌∷◌, [], List, ℕ, ap, sym, ◌∙◌, subst}
use Rattle.std.proofs.lemmas.Result.{err_from_is_err_and, on_ok_weaker, IfErr-weaker}
use Rattle.bit_gates.specs.Cut.{Cut}
use Rattle.prop.specs.declared.BlastFail.{BlastFail}
use Rattle.prop.specs.declared.BlastFail.TheVariants.{Memory}
use Rattle.path_query.specs.declared.query.Bundle.{Bundle}
use Rattle.bit_gates.proofs.Refusals.{memory_whole}
use Rattle.path_formula.proofs.Drafts.{draft_stepped, step_whole, more_clauses}
use Rattle.path_formula.specs.Questions.{planned, stepped}
use Rattle.path_formula.specs.Paths.{AreThere}
use Rattle.path_formula.proofs.path.take_step.Goals as goal

pub returns-in_err-cut-clause-cut : goal.returns-in_err-cut-clause-cut
returns-in_err-cut-clause-cut c =
    let r = err_from_is_err_and c.from_residual-in_err-cut.result c.from_residual-in_err-cut.ensures.1 in
    let old = c.args.draft.now.clauses in
    let p = planned c.args.step.now in
    let more = (stepped c.args.graph.now p c.args.draft.now.bits).clauses in
    let whole : c.add_edge.new.clauses ≡ old ++ more
    = step_whole c.args.graph.now p c.args.draft.now.bits c.renew.new.self c.deref.result.now old c.renew.new.clauses c.add_edge.new.clauses
    c.renew.ensures.clauses c.in_ok-renew.ensures.held c.deref.ensures.value c.in_ok-add_edge.ensures.clauses in
    rw (r.1, r.2) (memory_whole c.in_err-cut.field-0.0 old more c.add_edge.new.clauses c.in_err-cut.ensures.memory whole)

pub returns-clause-draft : goal.returns-clause-draft
returns-clause-draft c =
    let old = c.args.draft.now.clauses in
    let p = planned c.args.step.now in
    let more = (stepped c.args.graph.now p c.args.draft.now.bits).clauses in
    let whole : c.add_edge.new.clauses ≡ old ++ more
    = step_whole c.args.graph.now p c.args.draft.now.bits c.renew.new.self c.deref.result.now old c.renew.new.clauses c.add_edge.new.clauses
    c.renew.ensures.clauses c.in_ok-renew.ensures.held c.deref.ensures.value c.in_ok-add_edge.ensures.clauses in
    on_ok_weaker c.push_cut.result
    (λ e.
    draft_stepped c.args.graph.now.terms c.args.draft.now _ c.deref-2.result.now c.requires.draft c.in_ok-add_edge.ensures.over
    (subst (λ (t : List ℕ). AreThere c.args.graph.now.terms.cells t) (sym c.deref-2.ensures.value) c.requires.step)
    (more_clauses old more c.add_edge.new.clauses whole)
    (c.in_ok-push_start.ensures.pushed ∙ ap (λ (t : ℕ). c.args.draft.now.starts.items ++ t ∷ []) c.len.ensures.value)
    (c.in_ok-add_edge.ensures.bundles c.requires.draft.draws)
    (e ∙ ap (λ (t : List Bundle). c.args.draft.now.cuts.items ++ t ∷ []) c.in_ok-cut.ensures.cut))
    c.push_cut.ensures.pushed

pub returns-clause-cut : goal.returns-clause-cut
returns-clause-cut c =
    let old = c.args.draft.now.clauses in
    let p = planned c.args.step.now in
    let more = (stepped c.args.graph.now p c.args.draft.now.bits).clauses in
    let whole : c.add_edge.new.clauses ≡ old ++ more
    = step_whole c.args.graph.now p c.args.draft.now.bits c.renew.new.self c.deref.result.now old c.renew.new.clauses c.add_edge.new.clauses
    c.renew.ensures.clauses c.in_ok-renew.ensures.held c.deref.ensures.value c.in_ok-add_edge.ensures.clauses in
    IfErr-weaker c.push_cut.result (λ (e : BlastFail). e ≡ Memory) (λ (e : BlastFail). Cut e old more c.add_edge.new.clauses)
    (λ e m. memory_whole e old more c.add_edge.new.clauses m whole)
    c.push_cut.ensures.memory
