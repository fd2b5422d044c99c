-- Which operations give each element its first value, and the node and the edge on which they stand.
use Rattle.std.specs.Prelude.{ℕ, zero, suc, ◌+◌, List, [], ◌∷◌, ◌++◌, length, Option, None, Some, slice_get}
use Rattle.lv_base.specs.declared.kind.Model.{Model}
use Rattle.lv_base.specs.Integers.{width_of}
use Rattle.c_typed.specs.declared.tree.Object.{Object}
use Rattle.c_graph.specs.declared.graph.Node.{Node}
use Rattle.c_graph.specs.declared.graph.Node.TheVariants.{Plain}
use Rattle.c_graph.specs.declared.graph.Operation.{Operation}
use Rattle.c_graph.specs.declared.graph.Operation.TheVariants.{Set}
use Rattle.c_graph.specs.declared.graph.Edge.{Edge}
use Rattle.c_terms.specs.declared.words.Words.{Words}
use Rattle.c_terms.specs.Made as term
use Rattle.code_layout.specs.Layout.{elements_of}
use Rattle.code_moves.specs.Setting.{Setting}
use Rattle.cfg_build.specs.Steps.{node_id, edge}
use Rattle.cfg_build.specs.Graphs.{first_value}

-- the first so many elements of an object, which lie from a cell on in cells of this width, get their values
abbrev pub open_first : Words → List Operation → (first width : ℕ) → Object → ℕ → Words × List Operation
open_first w ops first width o zero = (w, ops)
open_first w ops first width o (suc n) =
    let p = open_first w ops first width o n in
    let q = term.constant_of p.0 width (first_value o n) in
    (q.0, p.1 ++ Set (first + n) q.1 ∷ [])

abbrev pub open_elements : Words → List Operation → ℕ → Object → Model → Words × List Operation
open_elements w ops first o model = open_first w ops first (width_of o.kind model) o (elements_of o)

abbrev pub open_in : Setting → Words → List Operation → ℕ → Option Object → Words × List Operation
open_in g w ops first None = (w, ops)
open_in g w ops first (Some o) = open_elements w ops first o g.model

-- the object of this number, whose first cell is known
abbrev pub open_at : Setting → Words → List Operation → (first number : ℕ) → Words × List Operation
open_at g w ops first number = open_in g w ops first (slice_get g.objects number)

abbrev pub open_from : Setting → Words → List Operation → Option ℕ → ℕ → Words × List Operation
open_from g w ops None number = (w, ops)
open_from g w ops (Some first) number = open_at g w ops first number

abbrev pub open_object : Setting → Words → List Operation → ℕ → Words × List Operation
open_object g w ops number = open_from g w ops (slice_get g.lay.firsts number) number

-- the first so many objects
abbrev pub open_objects : Setting → Words → ℕ → Words × List Operation
open_objects g w zero = (w, [])
open_objects g w (suc n) = let p = open_objects g w n in open_object g p.0 p.1 n

abbrev pub opening : Setting → Words → Words × List Operation
opening g w = open_objects g w (length g.objects)

-- one node more, and an edge from it to the next one
abbrev pub add_opening : Setting → Words → List Node → List Edge → Words × List Node × List Edge
add_opening g w nodes edges =
    let p = opening g w in
    (p.0, nodes ++ Plain ∷ [], edges ++ edge (node_id (length nodes)) (node_id (length nodes + 1)) p.1 ∷ [])
