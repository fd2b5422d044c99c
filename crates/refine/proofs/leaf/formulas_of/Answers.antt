use Rattle.std.proofs.Common.{◌≡◌, ◌∙◌, List, ap, map, refl, subst, sym, length}
use Rattle.bv_term.specs.declared.term.TermId.{TermId}
use Rattle.c_graph.specs.Shape.{widths_of}
use Rattle.path_query.specs.declared.query.PathQuery.{PathQuery}
use Rattle.path_query.specs.Facts.{IsQuery}
use Rattle.resolution_log.specs.Chains.{IsRefutation}
use Rattle.reach_tree.specs.Trees.{IsLabel}
use Rattle.term_copy.specs.Copies.{number_in}
use Rattle.interpolants.specs.CutMeanings.{AreCutFormulas}
use Rattle.interpolants.specs.NamedCells.{AreNamed}
use Rattle.interpolants.specs.Cuts.{AreFormulas}
use Rattle.c_graph.specs.declared.graph.EdgeId.{EdgeId}
use Rattle.path_formula.specs.Questions.{question_of}
use Rattle.cover_engine.specs.Unwindings.{Unwound}
use Rattle.unwinding_laws.proofs.Tables.{legal_later}
use Rattle.chain_laws.specs.Laws.{AreLinks}
use Rattle.chain_laws.proofs.Descending.{formulas_make_links}
use Rattle.refine.proofs.Renumbering.{renumbered_bits}
use Rattle.refine.proofs.leaf.formulas_of.Goals as goal

pub returns-clause-formulas : goal.returns-clause-formulas
returns-clause-formulas c =
    let named : c.new.result ≡ map (number_in c.in_ok-to.to.items) c.in_ok-formulas.formulas.items =
    c.new.ensures ∙ c.in_ok-numbers.ensures ∙ ap (λ (to : List TermId). map (number_in to) c.deref-2.result.now) c.deref.ensures.value
    ∙ ap (map (number_in c.in_ok-to.to.items)) c.deref-2.ensures.value in
    subst (IsLabel c.take_terms.new.self.terms) (sym named)
    (renumbered_bits _ _ c.in_ok-to.to.items c.in_ok-formulas.formulas.items c.in_ok-to.ensures.copies c.in_ok-to.ensures.count c.in_ok-formulas.ensures.formulas.bits)

pub returns-clause-own : goal.returns-clause-own
returns-clause-own c =
    let fs : List TermId = c.in_ok-formulas.formulas.items in
    let to : List TermId = c.in_ok-to.to.items in
    let named : c.new.result ≡ map (number_in to) fs =
    c.new.ensures ∙ c.in_ok-numbers.ensures ∙ ap (λ (to : List TermId). map (number_in to) c.deref-2.result.now) c.deref.ensures.value
    ∙ ap (map (number_in c.in_ok-to.to.items)) c.deref-2.ensures.value in
    λ v e. record {
      table = c.chain.new.terms;
      cuts = fs;
      to = to;
      whole = subst (λ (es : List EdgeId). AreFormulas c.chain.new.terms (length es) fs) e c.in_ok-formulas.ensures.formulas;
      meaning =
          subst (λ (es : List EdgeId). AreCutFormulas c.chain.new.terms (question_of c.args.graph.now es) c.args.log.now fs) e
          (subst (λ (q : PathQuery). AreCutFormulas c.chain.new.terms q c.args.log.now fs) c.requires.question c.in_ok-formulas.ensures.meaning);
      count = c.in_ok-to.ensures.count;
      copies = c.in_ok-to.ensures.copies;
      are = named;
    }

pub returns-clause-links : goal.returns-clause-links
returns-clause-links c =
    let g = c.args.graph.now in
    let path = c.args.path.now in
    let log = c.args.log.now in
    let old : Unwound = c.args.unwinding.now in
    let fs : List TermId = c.in_ok-formulas.formulas.items in
    let to : List TermId = c.in_ok-to.to.items in
    let grown : Unwound = record old { terms = c.take_terms.new.self.terms } in
    let named : c.new.result ≡ map (number_in to) fs =
    c.new.ensures ∙ c.in_ok-numbers.ensures ∙ ap (λ (to : List TermId). map (number_in to) c.deref-2.result.now) c.deref.ensures.value
    ∙ ap (map (number_in c.in_ok-to.to.items)) c.deref-2.ensures.value in
    λ v legal lv e.
    let links : AreLinks g grown v (map (number_in to) fs) =
    formulas_make_links g grown v path c.chain.new.terms to log fs c.entry-entry.ensures.flow (legal_later g old.terms c.take_terms.new.self.terms c.take_terms.ensures.extends old refl legal) lv e
    (subst (λ (q : PathQuery). IsQuery (widths_of g.cells) (length path) q) c.requires.question c.requires.query)
    (subst (λ (q : PathQuery). IsRefutation q.clauses log) c.requires.question c.requires.refuted)
    c.in_ok-formulas.ensures.formulas
    (subst (λ (q : PathQuery). AreNamed c.chain.new.terms q fs) c.requires.question c.in_ok-formulas.ensures.names)
    (subst (λ (q : PathQuery). AreCutFormulas c.chain.new.terms q log fs) c.requires.question c.in_ok-formulas.ensures.meaning)
    c.in_ok-to.ensures.count c.in_ok-to.ensures.copies in
    subst (λ (u : Unwound). AreLinks g u v c.new.result) (sym c.take_terms.ensures.others)
    (subst (λ (ts : List TermId). AreLinks g grown v ts) (sym named) links)
