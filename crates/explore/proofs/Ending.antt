-- What the ends of an exploration say.
use Rattle.std.proofs.Common.{◌≡◌, ℕ, ℤ, ◌<◌, false, List, length, inl, inr, refl, sym, subst}
use Rattle.prop.specs.declared.Lit.{Lit}
use Rattle.c_graph.specs.Shape.{Flow}
use Rattle.clause_learning.specs.declared.QueryFail.{QueryFail}
use Rattle.clause_learning.specs.declared.QueryFail.TheVariants.{Over, OverLog, Memory}
use Rattle.pair_query.specs.Laws.{pair_of}
use Rattle.reach_tree.specs.declared.vertex.VertexId.{VertexId}
use Rattle.reach_tree.specs.Trees.{vertex_at}
use Rattle.cover_engine.specs.Unwindings.{Unwound, is_complete}
use Rattle.cover_engine.specs.Steering.{IsHighestOpen}
use Rattle.refine.specs.Refinements.{IsDriven, IsErrorLeaf, IsLeafRefused, edges_of, question_at}
use Rattle.refine.specs.Refusals.{IsRefused}
use Rattle.explore.specs.Settling.{MayCover}
use Rattle.explore.specs.Ends.{IsAsked, IsEnd, IsFeasible, end_of}
use Rattle.explore.proofs.Leaves.{open_incomplete}

-- values that drive an open leaf's path to its error
pub leaf_driven : (g : Flow) (u : Unwound) (v : VertexId) (values : List ℤ) → v.0 < length u.vertices → IsHighestOpen g u v → IsErrorLeaf g u v → IsDriven g u v values → IsFeasible g u values
leaf_driven g u v values there highest error driven =
    let (store, after, whole, run) = driven in
    let (kind, (at, is)) = error.node in
    record {
      leaf = v;
      there = there;
      highest = highest;
      error = error;
      driven = driven;
      reached = ((vertex_at u.vertices v.0).node, (after, (kind, (at, (edges_of u v, store, whole, run), is))));
    }

-- a question of a leaf's path
pub path_asked : (g : Flow) (units : ℕ) (u : Unwound) (v : VertexId) (Why : List (List Lit) → Type 0) → v.0 < length u.vertices → IsHighestOpen g u v → IsErrorLeaf g u v
    → length u.journal < units → Why (question_at g u v).clauses → IsAsked g units u Why
path_asked g units u v Why there highest error more why = record {
  incomplete = open_incomplete g u (length u.vertices) v there error.leaf;
  more = more;
  clauses = (question_at g u v).clauses;
  asked = inl (record { leaf = v; there = there; highest = highest; error = error; are = refl });
  why = why;
}

pub leaf_ends : (g : Flow) (units learn : ℕ) (old new : Unwound) (v : VertexId) (e : QueryFail) → v.0 < length old.vertices → IsHighestOpen g old v → IsErrorLeaf g old v
    → length old.journal < units → IsLeafRefused g old new v learn e → IsEnd g units learn new (end_of e)
leaf_ends g units learn old new v (Over n) there highest error more (same, why) =
    subst (λ (u : Unwound). IsEnd g units learn u (end_of (Over n))) (sym same) (path_asked g units old v _ there highest error more why)
leaf_ends g units learn old new v (OverLog log) there highest error more (same, why) =
    subst (λ (u : Unwound). IsEnd g units learn u (end_of (OverLog log))) (sym same) (path_asked g units old v _ there highest error more why)
leaf_ends g units learn old new v Memory there highest error more h = tt

-- a question of a pair
pub pair_asked : (g : Flow) (units : ℕ) (u : Unwound) (v w : VertexId) (Why : List (List Lit) → Type 0) → is_complete g u ≡ false → v.0 < length u.vertices → w.0 < length u.vertices
    → MayCover g u v w → length u.journal < units → Why (pair_of u.terms (vertex_at u.vertices v.0).label (vertex_at u.vertices w.0).label) → IsAsked g units u Why
pair_asked g units u v w Why is-open left right rule more why = record {
  incomplete = is-open;
  more = more;
  clauses = pair_of u.terms (vertex_at u.vertices v.0).label (vertex_at u.vertices w.0).label;
  asked = inr (record { left = v; right = w; left_there = left; right_there = right; rule = rule; are = refl });
  why = why;
}

pub pair_ends : (g : Flow) (units learn : ℕ) (old new : Unwound) (v w : VertexId) (e : QueryFail) → is_complete g old ≡ false → v.0 < length old.vertices → w.0 < length old.vertices
    → MayCover g old v w → length old.journal < units → new ≡ old
    → IsRefused (pair_of old.terms (vertex_at old.vertices v.0).label (vertex_at old.vertices w.0).label) learn e → IsEnd g units learn new (end_of e)
pair_ends g units learn old new v w (Over n) is-open left right rule more same why =
    subst (λ (u : Unwound). IsEnd g units learn u (end_of (Over n))) (sym same) (pair_asked g units old v w _ is-open left right rule more why)
pair_ends g units learn old new v w (OverLog log) is-open left right rule more same why =
    subst (λ (u : Unwound). IsEnd g units learn u (end_of (OverLog log))) (sym same) (pair_asked g units old v w _ is-open left right rule more why)
pair_ends g units learn old new v w Memory is-open left right rule more same why = tt
