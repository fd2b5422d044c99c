-- Clauses that were cut off are a question that has no answer.
use Rattle.std.proofs.Common.{ℕ, List, refl}
use Rattle.prop.specs.declared.Lit.{Lit}
use Rattle.prop.specs.declared.BlastFail.{BlastFail}
use Rattle.prop.specs.declared.BlastFail.TheVariants.{Over, Memory}
use Rattle.bit_gates.specs.Cut.{IsCutOff}
use Rattle.term_copy.proofs.Copying.{extends_none}
use Rattle.c_graph.specs.Shape.{Flow}
use Rattle.reach_tree.specs.declared.vertex.VertexId.{VertexId}
use Rattle.cover_engine.specs.Unwindings.{Unwound}
use Rattle.refine.specs.Refusals.{IsRefused, without_clauses}
use Rattle.refine.specs.Refinements.{IsLeafRefused, question_at}

pub refused_so : (clauses : List (List Lit)) (learn : ℕ) (e : BlastFail) → IsCutOff clauses e → IsRefused clauses learn (without_clauses e)
refused_so clauses learn (Over n) off = off
refused_so clauses learn Memory off = tt

pub leaf_refused : (g : Flow) (u : Unwound) (v : VertexId) (learn : ℕ) (e : BlastFail) → IsCutOff (question_at g u v).clauses e
    → IsLeafRefused g u u v learn (without_clauses e)
leaf_refused g u v learn (Over n) off = (refl, off)
leaf_refused g u v learn Memory off = record { extends = extends_none u.terms; others = refl }
