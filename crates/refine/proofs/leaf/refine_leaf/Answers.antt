use Rattle.std.proofs.Common.{◌≡◌, ◌∙◌, true, List, ap, refl, subst, sym}
use Rattle.prop.specs.Logic.{all_hold}
use Rattle.prop.specs.Trues.{listed}
use Rattle.clause_learning.specs.Solve.{IsAnswer}
use Rattle.bit_gates.specs.Cut.{IsCutOff}
use Rattle.resolution_log.proofs.Refuting.{lean_refutes}
use Rattle.c_graph.specs.declared.graph.EdgeId.{EdgeId}
use Rattle.c_graph.specs.Shape.{widths_of}
use Rattle.path_query.specs.declared.query.PathQuery.{PathQuery}
use Rattle.path_formula.specs.Questions.{question_of}
use Rattle.path_laws.specs.Values.{signs_along, values_read}
use Rattle.refine.specs.Refinements.{IsLeafRefused, edges_of, question_at}
use Rattle.refine.proofs.Driving.{values_drive}
use Rattle.refine.proofs.Refusing.{leaf_refused}
use Rattle.refine.proofs.leaf.refine_leaf.Goals as goal

pub strengthen-requires-clause-refuted : goal.strengthen-requires-clause-refuted
strengthen-requires-clause-refuted c =
    lean_refutes c.in-Ok-path_clauses.query.clauses c.in-Unsat.log
    (subst (IsAnswer c.in-Ok-path_clauses.query.clauses c.args.learn) c.in-Unsat.is c.in_ok-found.ensures).0

pub returns-in-Ok-drawn_values-clause-refined : goal.returns-in-Ok-drawn_values-clause-refined
returns-in-Ok-drawn_values-clause-refined c =
    let g = c.args.graph.now in
    let u = c.args.unwinding.now in
    let e : c.as_slice-edges.result.now ≡ edges_of c.args.unwinding.now c.args.v = c.as_slice-edges.ensures ∙ c.in-Ok.ensures.edges in
    let q : c.in-Ok-path_clauses.query ≡ question_at c.args.graph.now c.args.unwinding.now c.args.v =
    c.in-Ok-path_clauses.ensures.question ∙ ap (λ (es : List EdgeId). question_of c.args.graph.now es) e in
    let held : all_hold (listed c.in-Sat.found) c.in-Ok-path_clauses.query.clauses ≡ true =
    subst (IsAnswer c.in-Ok-path_clauses.query.clauses c.args.learn) c.in-Sat.is c.in_ok-found.ensures in (
      refl,
      values_drive c.args.graph.now c.args.unwinding.now c.args.v (listed c.in-Sat.found) c.in-Ok-drawn_values.values c.entry-entry.ensures.flow c.requires.vertex
          (subst (λ (x : PathQuery). all_hold (listed c.in-Sat.found) x.clauses ≡ true) q held)
          (c.in-Ok-drawn_values.ensures
          ∙ ap (λ (x : PathQuery). values_read (widths_of c.args.graph.now.cells) (listed c.in-Sat.found) x.draws (signs_along c.args.graph.now c.as_slice-edges.result.now)) q
          ∙ ap (λ (es : List EdgeId). values_read (widths_of c.args.graph.now.cells) (listed c.in-Sat.found) (question_at c.args.graph.now c.args.unwinding.now c.args.v).draws (signs_along c.args.graph.now es)) e),
    )

pub returns-in-Err-path_clauses-clause-refused : goal.returns-in-Err-path_clauses-clause-refused
returns-in-Err-path_clauses-clause-refused c =
    let e : c.as_slice-edges.result.now ≡ edges_of c.args.unwinding.now c.args.v = c.as_slice-edges.ensures ∙ c.in-Ok.ensures.edges in
    subst (IsLeafRefused c.args.graph.now c.args.unwinding.now c.args.unwinding.now c.args.v c.args.learn) (sym c.no_clauses.ensures)
    (leaf_refused c.args.graph.now c.args.unwinding.now c.args.v c.args.learn c.in-Err-path_clauses.end
    (subst (λ (es : List EdgeId). IsCutOff (question_of c.args.graph.now es).clauses c.in-Err-path_clauses.end) e c.in-Err-path_clauses.ensures.cut))
