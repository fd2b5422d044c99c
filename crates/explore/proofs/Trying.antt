-- What a turn leaves of what an exploration keeps.
use Rattle.std.proofs.Common.{◌≡◌, ◌∙◌, ℕ, ◌<◌, true, List, [], length, Option, None, Some, inl, inr, sym, ap, subst, slice_index, slice_index_or, reverse}
use Rattle.c_graph.specs.declared.graph.Node.TheVariants.{Error}
use Rattle.c_graph.specs.Shape.{Flow, IsFlow}
use Rattle.reach_tree.specs.declared.vertex.VertexId.{VertexId}
use Rattle.reach_tree.specs.declared.vertex.Vertex.{Vertex}
use Rattle.reach_tree.specs.Trees.{vertex_at}
use Rattle.cover_engine.specs.Unwindings.{Unwound, path_of, vertices_named}
use Rattle.cover_engine.specs.Units.{Legal, after_expand, after_refine}
use Rattle.cover_engine.specs.Steering.{IsHighestOpen, IsNoError, StandsOn, Steered}
use Rattle.unwinding_laws.specs.Steered.{last_refined}
use Rattle.unwinding_laws.proofs.Rooting.{legal_tree}
use Rattle.refine.specs.Decisions.{IsPairSettled}
use Rattle.resolution_log.specs.declared.Chain.{Chain}
use Rattle.refine.specs.Refinements.{IsRefined, IsStrengthened}
use Rattle.refine.specs.declared.answers.Refined.{Refined}
use Rattle.refine.specs.declared.answers.Refined.TheVariants.{Strengthened, Feasible, Spent}
use Rattle.refine.specs.declared.answers.Settled.{Settled}
use Rattle.refine.specs.declared.answers.Settled.TheVariants.{Covered, Apart, Spent as DidSpend}
use Rattle.explore.specs.declared.beside.Beside.{Beside}
use Rattle.explore.specs.Standing.{AreAtNodes, SameNodes}
use Rattle.explore.specs.Settling.{HasTurn, MayCover}
use Rattle.explore.specs.Ends.{Follows, is_plain, is_plain_at}
use Rattle.explore.proofs.Leaves.{node_in}
use Rattle.explore.proofs.Walks.{beside-begins, beside-stays}
use Rattle.explore.proofs.Turns.{cover-steered, part-steered, refined-now}
use Rattle.explore.proofs.Rules.{above-there, nodes-expanded, nodes-refined, nodes-same, path-above, refine-steered}

-- the vertices of nodes are kept
pub follows-stays : (g : Flow) (vs ws : List Vertex) (a b : Beside) → SameNodes vs ws → b ≡ a → Follows g vs a → Follows g ws b
follows-stays g vs ws a b s e h =
    subst (Follows g ws) (sym e) (record { nodes = h.nodes; beside = beside-stays vs ws a.before.items a.last.items s h.beside })

pub follows-same : (g : Flow) (old new : Unwound) (a b : Beside) → new.vertices ≡ old.vertices → b ≡ a → Follows g old.vertices a → Follows g new.vertices b
follows-same g old new a b same e h = follows-stays g old.vertices new.vertices a b (nodes-same old.vertices new.vertices same) e h

pub follows-begins : (g : Flow) (vs : List Vertex) (b : Beside) → length b.last.items ≡ length g.nodes → b.before.items ≡ [] → ((x : ℕ) → slice_index b.last.items x ≡ 0) → Follows g vs b
follows-begins g vs b many none zeros = record { nodes = many; beside = beside-begins vs b.before.items b.last.items none zeros }

pub at-nodes : (g : Flow) (u : Unwound) (n : ℕ) → IsFlow g → Legal g u → n ≡ length g.nodes → AreAtNodes u.vertices n
at-nodes g u n flow legal e k lt = subst (λ (m : ℕ). (vertex_at u.vertices k).node.0 < m) (sym e) (node_in g u k flow (legal_tree g u legal) lt)

-- a pair that was settled
pub settled-steered : (g : Flow) (old new : Unwound) (v w : VertexId) (learn : ℕ) (s : Settled) → Legal g old → Steered g old → MayCover g old v w
    → IsPairSettled old new v w learn s → Steered g new
settled-steered g old new v w learn Covered legal st rule e = cover-steered g old new v w legal st rule e
settled-steered g old new v w learn Apart legal st rule (store, e) = part-steered g old new v w store legal st rule e
settled-steered g old new v w learn (DidSpend log) legal st rule (e, why) = subst (Steered g) (sym e) st

-- a leaf that was refined
pub refined-steered : (g : Flow) (old new : Unwound) (v : VertexId) (learn : ℕ) (r : Refined) → Legal g old → Steered g old → IsHighestOpen g old v
    → IsRefined g old new v learn r → Steered g new
refined-steered g old new v learn (Strengthened log) legal st highest (h, why) =
    subst (Steered g) (sym h.made) (refine-steered g old h.grown v h.formulas h.grows.extends h.grows.others legal st highest)
refined-steered g old new v learn (Feasible values) legal st highest (e, why) = subst (Steered g) (sym e) st
refined-steered g old new v learn (Spent log) legal st highest (e, why) = subst (Steered g) (sym e) st

pub strengthened-nodes : {log : List Chain} (g : Flow) (old new : Unwound) (v : VertexId) → IsStrengthened g old new v log → SameNodes old.vertices new.vertices
strengthened-nodes g old new v h =
    let grown : h.grown.vertices ≡ old.vertices = ap (λ (u : Unwound). u.vertices) h.grows.others in
    let made : new.vertices ≡ (after_refine h.grown v h.formulas).vertices = ap (λ (u : Unwound). u.vertices) h.made in
    subst (λ (ws : List Vertex). SameNodes old.vertices ws) (sym made)
    (subst (λ (vs : List Vertex). SameNodes vs (after_refine h.grown v h.formulas).vertices) grown
    (nodes-refined h.grown.terms h.grown.vertices (path_of h.grown.vertices v) (reverse h.formulas)))

pub strengthened-last : {log : List Chain} (g : Flow) (old new : Unwound) (v : VertexId) → IsStrengthened g old new v log → last_refined None new.journal ≡ Some v
strengthened-last g old new v h = ap (λ (u : Unwound). last_refined None u.journal) h.made ∙ refined-now h.grown.journal v h.formulas

-- a leaf that was expanded
pub expanded-nodes : (g : Flow) (old new : Unwound) (v : VertexId) → v.0 < length old.vertices → new ≡ after_expand g old v → SameNodes old.vertices new.vertices
expanded-nodes g old new v there e = subst (λ (u : Unwound). SameNodes old.vertices u.vertices) (sym e) (nodes-expanded g old.vertices v there)

-- whose turn it is
pub plain-turn : (g : Flow) (u : Unwound) (v : VertexId) → IsHighestOpen g u v → is_plain_at g u v ≡ true → HasTurn g u v
plain-turn g u v highest plain = inl (highest, no-error)
  where
    no-error : IsNoError g u v
    no-error kind at e = let no : is_plain (Some (Error kind at)) ≡ true = ap is_plain (sym e) ∙ plain in absurd cc

pub path-turn : (g : Flow) (u : Unwound) (leaf : VertexId) (path : List VertexId) (k : ℕ) (d : VertexId) → last_refined None u.journal ≡ Some leaf
    → path ≡ vertices_named (reverse (path_of u.vertices leaf)) → k < length path → HasTurn g u (slice_index_or path k d)
path-turn g u leaf path k d last is lt =
    inr (subst (λ (o : Option VertexId). StandsOn u o (slice_index_or path k d)) (sym last) (path-above u.vertices leaf path k d is lt))

pub path-there : (g : Flow) (u : Unwound) (leaf : VertexId) (path : List VertexId) (k : ℕ) (d : VertexId) → Legal g u → leaf.0 < length u.vertices
    → path ≡ vertices_named (reverse (path_of u.vertices leaf)) → k < length path → (slice_index_or path k d).0 < length u.vertices
path-there g u leaf path k d legal there is lt =
    above-there g u (slice_index_or path k d) leaf (legal_tree g u legal) there (path-above u.vertices leaf path k d is lt)
