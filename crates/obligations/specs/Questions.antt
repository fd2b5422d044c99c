-- The obligations of a graph, by number.
use Rattle.std.specs.Prelude.{ℕ, ◌+◌, ◌-◌, ◌<◌, Bool, true, false, List, [], ◌∷◌, length, zero, suc, nat_lt, slice_index_or, if◌then◌else◌}
use Rattle.c_graph.specs.declared.graph.NodeId.{NodeId}
use Rattle.c_graph.specs.declared.graph.Node.{Node}
use Rattle.c_graph.specs.declared.graph.Node.TheVariants.{Plain, Error, End, Call}
use Rattle.c_graph.specs.Shape.{Flow}
use Rattle.obligations.specs.declared.questions.Question.{Question}
use Rattle.obligations.specs.declared.questions.Question.TheVariants.{Entry, Edge as EdgeOf, Error as ErrorOf}

abbrev pub is_error : Node → Bool
is_error Plain = false
is_error (Error kind at) = true
is_error End = false
is_error (Call function next) = false

-- the numbers of the error nodes among these, the first of these being number n
abbrev pub errors_from : ℕ → List Node → List NodeId
errors_from n [] = []
errors_from n (x ∷ xs) = if is_error x then record { 0 = n } ∷ errors_from (n + 1) xs else errors_from (n + 1) xs

-- the error node with so many before it, node 0 past the last
abbrev pub error_at : List Node → ℕ → NodeId
error_at nodes k = slice_index_or (errors_from 0 nodes) k (record { 0 = 0 })

-- one for the entry, one for each edge, one for each error node
abbrev pub count_of : Flow → ℕ
count_of g = 1 + length g.edges + length (errors_from 0 g.nodes)

abbrev pub place_of : Flow → ℕ → Question
place_of g k = if nat_lt k (length g.edges) then EdgeOf (record { 0 = k }) else ErrorOf (error_at g.nodes (k - length g.edges))

abbrev pub question_of : Flow → ℕ → Question
question_of g zero = Entry
question_of g (suc k) = place_of g k

-- its edge or node is there
abbrev pub IsThere : Flow → Question → Type 0
IsThere g Entry = Unit {0}
IsThere g (EdgeOf e) = e.0 < length g.edges
IsThere g (ErrorOf v) = v.0 < length g.nodes
