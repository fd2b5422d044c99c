-- Values that were replayed.
use Rattle.std.proofs.Common.{◌≡◌, ◌∙◌, sym, ap, ℕ, ℤ, List, [], ◌∷◌, ◌<◌, ◌*◌, ◌+◌, ◌≤◌, ◌^◌, suc, zero, length, length-append, Option, None, Some, arith, reverse, subst}
use Rattle.std.specs.Prelude.{unsigned_abs}
use Rattle.std.proofs.lemmas.List.{length-reverse}
use Rattle.lv_base.specs.declared.fault.ErrorKind.{ErrorKind}
use Rattle.c_run.specs.Run as run
use Rattle.c_typed.specs.Tree.{Program}
use Rattle.c_typed.specs.Run as typed
use Rattle.c_graph.specs.declared.graph.EdgeId.{EdgeId}
use Rattle.c_graph.specs.Shape.{Flow, IsFlow}
use Rattle.reach_tree.specs.declared.vertex.VertexId.{VertexId}
use Rattle.reach_tree.specs.declared.vertex.Vertex.{Vertex}
use Rattle.reach_tree.specs.Trees.{vertex_at}
use Rattle.cover_engine.specs.Unwindings.{Unwound, path_of, path_up}
use Rattle.cover_engine.specs.Units.{edge_in, edges_to}
use Rattle.refine.specs.Refinements.{IsDriven, IsErrorLeaf, edges_of}
use Rattle.explore.specs.Ends.{IsFeasible}
use Rattle.slot_code.specs.declared.reply.Ending.{Ending}
use Rattle.slot_code.specs.declared.reply.Ending.TheVariants as ending
use Rattle.slot_code.specs.Machine.{ending_of}
use Rattle.stored_text.specs.RunText.{AreShort}
use Rattle.program_graphs.specs.Returning.{ErrorsReturn, FailsAlong}
use Rattle.drawn_value_laws.specs.Drawn.{AreWords, DrawnAreWords, ErrorsMeet}
use Rattle.source_verdicts.specs.Verified.{EndsSo}

pub words_short : (values : List ℤ) → AreWords values → AreShort values
words_short [] h = tt
words_short (v ∷ values) h = let one : unsigned_abs v < 2 ^ 64 = h.0 in (omega (arith, one), words_short values h.1)

-- ---- A path of an unwinding is no longer than the unwinding

up-count : (vs : List Vertex) (n v : ℕ) → length (path_up vs n v) ≤ n
up-count vs zero v = omega arith
up-count vs (suc n) v =
    elim (vertex_at vs v).parent as (λ (o : Option VertexId). length (v ∷ elim o [ None ↦ [] | Some p ↦ path_up vs n p.0 ]) ≤ suc n) [
      | None ↦ omega arith
      | Some p ↦ (let h : length (path_up vs n p.0) ≤ n = up-count vs n p.0 in omega (arith, h))
    ]

edges-count : (vs : List Vertex) (xs : List ℕ) → length (edges_to vs xs) ≤ length xs
edges-count vs [] = omega arith
edges-count vs (x ∷ xs) =
    let one : length (edge_in (vertex_at vs x).by) ≤ 1 = elim (vertex_at vs x).by as (λ o. length (edge_in o) ≤ 1) [ None ↦ omega arith | Some e ↦ omega arith ] in
    let rest : length (edges_to vs xs) ≤ length xs = edges-count vs xs in
    let both : length (edges_to vs (x ∷ xs)) ≡ length (edge_in (vertex_at vs x).by) + length (edges_to vs xs) = length-append (edge_in (vertex_at vs x).by) (edges_to vs xs) in
    omega (arith, one, rest, both)

pub path-count : (u : Unwound) (v : VertexId) → length (edges_of u v) ≤ length u.vertices
path-count u v =
    let edges : length (edges_of u v) ≤ length (reverse (path_of u.vertices v)) = edges-count u.vertices (reverse (path_of u.vertices v)) in
    let turned : length (reverse (path_of u.vertices v)) ≡ length (path_of u.vertices v) = length-reverse (path_of u.vertices v) in
    let up : length (path_of u.vertices v) ≤ length u.vertices = up-count u.vertices (length u.vertices) v.0 in
    omega (arith, edges, turned, up)

-- ---- A found path

-- it is a run to an error, along no more edges than there are vertices
pub record Found (g : Flow) (u : Unwound) (values : List ℤ) : Type 0 where
  pub path : List EdgeId
  pub kind : ErrorKind
  pub at : ℕ
  pub fails : FailsAlong g path values kind at
  pub short : length path ≤ length u.vertices

pub found_fails : (g : Flow) (u : Unwound) (values : List ℤ) → IsFeasible g u values → Found g u values
found_fails g u values f =
    let driven = f.driven in
    let node = f.error.node in record {
      path = edges_of u f.leaf;
      kind = node.0;
      at = node.1.0;
      fails = record { store = driven.0; last = (vertex_at u.vertices f.leaf.0).node; after = driven.1; whole = driven.2; runs = driven.3; error = node.1.1 };
      short = path-count u f.leaf;
    }

-- the values of such a path fit into 64 bits
pub found_words : (g : Flow) (u : Unwound) (values : List ℤ) → DrawnAreWords → IsFlow g → IsFeasible g u values → AreWords values
found_words g u values words flow f =
    let along = (found_fails g u values f).fails in words g (found_fails g u values f).path g.entry along.last along.store along.after values flow along.runs

-- they lead the program to the error, with so many turns for each vertex
pub found_ends : (p : Program) (g : Flow) (u : Unwound) (values : List ℤ) (turns : ℕ) → ErrorsMeet → ErrorsReturn p g → IsFeasible g u values → 2147483647 * length u.vertices ≤ turns
    → EndsSo p turns values
found_ends p g u values turns meet back f enough =
    let found = found_fails g u values f in
    (found.kind, found.at, meet p g found.path values turns found.kind found.at back found.fails (omega (arith, found.short, enough)))

-- ---- How the replay ends

abbrev kind-in : ErrorKind → Ending → ErrorKind
kind-in d (ending.Error kind at drawn) = kind
kind-in d e = d

abbrev at-in : Ending → ℕ
at-in (ending.Error kind at drawn) = at
at-in e = 0

-- where the run ends in an error, so does its replay
pub error_read : (r : run.End) (kind read : ErrorKind) (at offset count drawn : ℕ) → r ≡ run.Error kind at count → ending.Error read offset drawn ≡ ending_of r
    → r ≡ run.Error read offset count
error_read r kind read at offset count drawn is told =
    let both : ending.Error read offset drawn ≡ ending.Error kind at count = told ∙ ap ending_of is in
    let kinds : read ≡ kind = ap (kind-in read) both in
    let places : offset ≡ at = ap at-in both in
    is ∙ sym (ap (λ (k : ErrorKind). run.Error k at count) kinds) ∙ sym (ap (λ (a : ℕ). run.Error read a count) places)
