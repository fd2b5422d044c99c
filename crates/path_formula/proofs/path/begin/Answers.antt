use Rattle.std.proofs.Common.{◌≡◌, ◌++◌, ◌∷◌, [], List, ℕ, ap, sym, ◌∙◌, arith, subst}
use Rattle.path_query.specs.declared.query.Bundle.{Bundle}
use Rattle.bv_term.specs.WellFormed.{Table}
use Rattle.bit_blast.specs.Held.{new_of}
use Rattle.path_formula.proofs.Parts.{many_cells}
use Rattle.path_formula.proofs.Drafts.{few_cells, held_there, draft_begun}
use Rattle.path_formula.specs.Paths.{AreThere, bundles_of}
use Rattle.path_formula.proofs.path.begin.Goals as goal

pub cut_of-requires-clause-few : goal.cut_of-requires-clause-few
cut_of-requires-clause-few c =
    let ws = c.args.graph.now.terms.cells in
    let we : c.cells.result.now ≡ ws = c.cells.ensures.value ∙ ap (λ (t : Table). t.cells) c.terms.ensures.value in
    let few = few_cells ws c.new-clauses.result c.in_ok-bits.bits c.next-next.result c.terms.ensures.flow.table.cells
    (c.in_ok-bits.ensures.held ∙ ap (λ (t : List ℕ). new_of c.new-clauses.result t) we) c.next-next.ensures c.next-next.type_inv in
    let many = many_cells c.args.graph.now.terms c.in_ok-bits.bits (c.in_ok-bits.ensures.over c.args.graph.now.terms (sym we)) in
    omega (arith, few, many)

pub cut_of-requires-clause-there : goal.cut_of-requires-clause-there
cut_of-requires-clause-there c =
    let ws = c.args.graph.now.terms.cells in
    let we : c.cells.result.now ≡ ws = c.cells.ensures.value ∙ ap (λ (t : Table). t.cells) c.terms.ensures.value in
    held_there c.args.graph.now.terms c.in_ok-bits.bits c.deref.result.now (c.in_ok-bits.ensures.over c.args.graph.now.terms (sym we))
    (subst (λ (t : List ℕ). AreThere ws t) (sym (c.deref.ensures.value ∙ c.in-Ok.ensures)) c.requires)

pub returns-clause-draft : goal.returns-clause-draft
returns-clause-draft c =
    let ws = c.args.graph.now.terms.cells in
    let we : c.cells.result.now ≡ ws = c.cells.ensures.value ∙ ap (λ (t : Table). t.cells) c.terms.ensures.value in
    let ec : c.push_cut.new.cuts.items ≡ bundles_of c.in_ok-bits.bits.cells c.deref.result.now ∷ []
    = c.in_ok-push_cut.ensures.pushed ∙ (ap (λ (t : List (List Bundle)). t ++ c.in_ok-cut.cut ∷ []) c.new-cuts.ensures.items
    ∙ ap (λ (t : List Bundle). t ∷ []) c.in_ok-cut.ensures.cut) in
    draft_begun c.args.graph.now.terms _ c.deref.result.now (c.in_ok-bits.ensures.over c.args.graph.now.terms (sym we))
    (subst (λ (t : List ℕ). AreThere ws t) (sym (c.deref.ensures.value ∙ c.in-Ok.ensures)) c.requires)
    c.new-2.ensures.items c.new-3.ensures.items ec

pub returns-clause-few : goal.returns-clause-few
returns-clause-few c =
    let ws = c.args.graph.now.terms.cells in
    let we : c.cells.result.now ≡ ws = c.cells.ensures.value ∙ ap (λ (t : Table). t.cells) c.terms.ensures.value in
    few_cells ws c.new-clauses.result c.in_ok-bits.bits c.next-next.result c.terms.ensures.flow.table.cells
    (c.in_ok-bits.ensures.held ∙ ap (λ (t : List ℕ). new_of c.new-clauses.result t) we) c.next-next.ensures c.next-next.type_inv
