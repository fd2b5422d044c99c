-- A leaf's path is strengthened by a legal unit.
use Rattle.std.proofs.Common.{◌≡◌, ◌∙◌, ◌<◌, List, length, refl, sym, subst}
use Rattle.bv_term.specs.declared.term.TermId.{TermId}
use Rattle.bv_term.specs.Laws.{Extends}
use Rattle.c_graph.specs.Shape.{Flow}
use Rattle.reach_tree.specs.declared.vertex.VertexId.{VertexId}
use Rattle.reach_tree.specs.Trees.{AreLabelled}
use Rattle.cover_engine.specs.Unwindings.{Unwound}
use Rattle.cover_engine.specs.Units.{CanRefine, Legal}
use Rattle.unwinding_laws.proofs.Tables.{legal_later, open_stays}
use Rattle.chain_laws.specs.Laws.{AreLinks}
use Rattle.refine.specs.Refinements.{IsErrorLeaf}

-- an unwinding stays legal where terms came to its table
pub legal_grown : (g : Flow) (old new : Unwound) → Extends old.terms new.terms → new ≡ record old { terms = new.terms } → Legal g old → Legal g new
legal_grown g old new ext e legal = subst (Legal g) (sym e) (legal_later g old.terms new.terms ext old refl legal)

-- links along the path of an open leaf at an error are formulas of a Refine
pub links_refine : (g : Flow) (old new : Unwound) (v : VertexId) (fs : List TermId) → Extends old.terms new.terms → new ≡ record old { terms = new.terms }
    → AreLabelled old.terms old.vertices → v.0 < length old.vertices → IsErrorLeaf g old v → AreLinks g new v fs → CanRefine g new v fs
links_refine g old new v fs ext e labelled lt leaf links =
    let grown : Unwound = record old { terms = new.terms } in
    let l : AreLinks g grown v fs = subst (λ (u : Unwound). AreLinks g u v fs) e links in
    let can : CanRefine g grown v fs = record {
      vertex = lt;
      leaf = open_stays g old.terms new.terms ext old v (λ k j d less. (labelled k j d less).0) ∙ leaf.leaf;
      node = leaf.node;
      terms = l.terms;
      first = l.first;
      links = l.links;
      names = l.names;
    } in
    subst (λ (u : Unwound). CanRefine g u v fs) (sym e) can
