-- What the steps answer, by the graph's edges and terms.
use Rattle.std.specs.Prelude.{ℕ, ◌+◌, ◌==◌, ◌&&◌, ◌||◌, Bool, true, false, not, nat_lt, List, [], ◌∷◌, length, slice_get, Option, None, Some, if◌then◌else◌}
use Rattle.bv_term.specs.declared.term.TermId.{TermId}
use Rattle.bv_term.specs.WellFormed.{Table}
use Rattle.c_graph.specs.declared.graph.EdgeId.{EdgeId}
use Rattle.c_graph.specs.declared.graph.Edge.{Edge}
use Rattle.c_graph.specs.declared.graph.Node.{Node}
use Rattle.c_graph.specs.declared.graph.Node.TheVariants.{Plain}
use Rattle.c_graph.specs.declared.graph.Operation.{Operation}
use Rattle.c_graph.specs.declared.graph.Operation.TheVariants.{Assume, Set, SetAt, Draw}
use Rattle.c_graph.specs.Shape.{Flow, outs}
use Rattle.truth_terms.specs.Made as truths
use Rattle.block_steps.specs.declared.cursor.Cursor.{Cursor}
use Rattle.block_steps.specs.declared.cursor.Step.{Step}
use Rattle.block_steps.specs.declared.cursor.Fork.{Fork}
use Rattle.block_steps.specs.declared.cursor.Side.{Side}
use Rattle.block_steps.specs.declared.steps.Put.{Put}
use Rattle.block_steps.specs.declared.tests.Test.{Test}
use Rattle.block_steps.specs.declared.tests.Test.TheVariants.{On, Under}

-- ---- Places in edges

-- the operation of that number of an edge that is there
abbrev pub operation_in : ℕ → Option Edge → Option Operation
operation_in at None = None
operation_in at (Some e) = slice_get e.ops at

-- the next operation of an edge
abbrev pub operation_at : Flow → Cursor → Option Operation
operation_at h k = operation_in k.op_at (slice_get h.edges k.edge_at)

-- the place behind an operation
abbrev pub behind : Cursor → Option Cursor
behind k = if k.op_at == 18446744073709551615 then None else Some (record { edge_at = k.edge_at; op_at = k.op_at + 1 })

-- an operation, and the place behind it, where there is one
abbrev pub step_to : Operation → Option Cursor → Option Step
step_to op None = None
step_to op (Some next) = Some (record { operation = op; next = next })

-- the operation that was found at a place, and the place behind it
abbrev pub step_at : Cursor → Option Operation → Option Step
step_at k None = None
step_at k (Some op) = step_to op (behind k)

-- the next operation of an edge, and the place behind it
abbrev pub next_step : Flow → Cursor → Option Step
next_step h k = step_at k (operation_at h k)

-- the node to which an edge leads that has so many operations
abbrev pub end_in : ℕ → Option Edge → Option ℕ
end_in at None = None
end_in at (Some e) = if at == length e.ops then Some e.to.0 else None

-- the node to which an edge leads whose operations are all done
abbrev pub end_of : Flow → Cursor → Option ℕ
end_of h k = end_in k.op_at (slice_get h.edges k.edge_at)

-- the first place of the next edge
abbrev pub first_of_next : Cursor → Option Cursor
first_of_next k = if k.edge_at == 18446744073709551615 then None else Some (record { edge_at = k.edge_at + 1; op_at = 0 })

-- the place behind an edge, where it leads to that node
abbrev pub ends_at : Cursor → ℕ → Option ℕ → Option Cursor
ends_at k to None = None
ends_at k to (Some found) = if found == to then first_of_next k else None

-- the place behind an edge that ends at a node, its operations being done
abbrev pub ends : Flow → Cursor → ℕ → Option Cursor
ends h k to = ends_at k to (end_of h k)

-- a node, and the first place of the next edge, where there is one
abbrev pub fork_to : ℕ → Option Cursor → Option Fork
fork_to node None = None
fork_to node (Some next) = Some (record { node = node; next = next })

-- the node that was found at the end of an edge, and the first place of the next edge
abbrev pub fork_at : Cursor → Option ℕ → Option Fork
fork_at k None = None
fork_at k (Some node) = fork_to node (first_of_next k)

-- the node of a branch, to which an edge leads whose operations are all done
abbrev pub find_branch : Flow → Cursor → Option Fork
find_branch h k = fork_at k (end_of h k)

-- whether an edge is there, and leads from the node
abbrev pub is_from : ℕ → Option Edge → Bool
is_from node None = false
is_from node (Some e) = e.from.0 == node

-- whether the edge of a number is there, and leads from the node
abbrev pub leads_from : Flow → ℕ → ℕ → Bool
leads_from h number node = is_from node (slice_get h.edges number)

-- the term of an Assume that was found
abbrev pub assumed_in : Option Operation → Option TermId
assumed_in (Some (Assume term)) = Some term
assumed_in _ = None

-- the term on which an edge goes on, if it begins with an Assume
abbrev pub first_assumed : Flow → ℕ → Option TermId
first_assumed h number = assumed_in (operation_at h (record { edge_at = number; op_at = 0 }))

-- the term that was found, and the place behind it in the edge of a number
abbrev pub side_on : ℕ → Option TermId → Option Side
side_on number None = None
side_on number (Some term) = Some (record { term = term; next = record { edge_at = number; op_at = 1 } })

-- the term on which an edge of a node goes on, if it begins with an Assume
abbrev pub find_side : Flow → Cursor → ℕ → Option Side
find_side h k node =
    if k.op_at == 0 && leads_from h k.edge_at node then side_on k.edge_at (first_assumed h k.edge_at) else None

-- ---- All edges that lead from a node

-- whether what was found is a plain node
abbrev pub plain_in : Option Node → Bool
plain_in (Some Plain) = true
plain_in _ = false

-- whether a node is there, and plain
abbrev pub is_plain : Flow → ℕ → Bool
is_plain h node = plain_in (slice_get h.nodes node)

-- whether a number is one of these two
abbrev pub is_either : ℕ → ℕ → ℕ → Bool
is_either number one other = number == one || number == other

-- whether each is one of these two
abbrev pub are_among : List EdgeId → ℕ → ℕ → Bool
are_among [] one other = true
are_among (n ∷ ns) one other = is_either n.0 one other && are_among ns one other

-- whether a node is plain, and the edges of these two numbers are all that lead from it, if they do
abbrev pub are_sides : Flow → ℕ → ℕ → ℕ → Bool
are_sides h node one other = is_plain h node && are_among (outs h (record { 0 = node })) one other

-- ---- Deeds

-- whether a term is the test's old term, of one bit
abbrev pub is_this : Table → Table → (term found : TermId) → Bool
is_this old table term found = term.0 == found.0 && truths.is_old_bit old table found

-- whether a term is the bit of a test
abbrev pub is_test : Table → Table → TermId → Test → Bool
is_test old table term (On None) = truths.is_one_bit table term
is_test old table term (On (Some cell)) = truths.is_cell_bit table term cell
is_test old table term (Under None found) = is_this old table term found
is_test old table term (Under (Some cell) found) = truths.is_bit_under old table term cell found

-- the term, and the place behind it, where the cell that gets it is that one and is there
abbrev pub put_in : Flow → Cursor → (found : ℕ) → TermId → (cell : ℕ) → Option Put
put_in h next found term cell = if found == cell && nat_lt cell (length h.cells) then Some (record { term = term; next = next }) else None

-- of an operation that sets a cell: the term, and the place behind it
abbrev pub put_of : Flow → ℕ → Operation → Cursor → Option Put
put_of h cell (Set found term) next = put_in h next found term cell
put_of h cell _ next = None

-- of a step that was found: the term that the cell gets, and the place behind it
abbrev pub put_by : Flow → ℕ → Option Step → Option Put
put_by h cell None = None
put_by h cell (Some step) = put_of h cell step.operation step.next

-- the term that a cell gets, and the place behind that
abbrev pub put_at : Flow → Cursor → ℕ → Option Put
put_at h k cell = put_by h cell (next_step h k)

-- the place behind, where the term that was put is the test's bit
abbrev pub sets_by : Table → Flow → Test → Option Put → Option Cursor
sets_by old h test None = None
sets_by old h test (Some put) = if is_test old h.terms put.term test then Some put.next else None

-- the place behind a store of a test's bit
abbrev pub sets : Table → Flow → Cursor → ℕ → Test → Option Cursor
sets old h k cell test = sets_by old h test (put_at h k cell)

-- the place behind, where the other part is the test's bit
abbrev pub adds_to : Table → Flow → Test → Cursor → Option TermId → Option Cursor
adds_to old h test next None = None
adds_to old h test next (Some term) = if is_test old h.terms term test then Some next else None

-- the place behind, where the term that was put is the cell's own bit or the test's
abbrev pub adds_by : Table → Flow → ℕ → Test → Option Put → Option Cursor
adds_by old h cell test None = None
adds_by old h cell test (Some put) = adds_to old h test put.next (truths.is_added h.terms put.term cell)

-- the place behind a store of a cell's own bit or a test's
abbrev pub adds : Table → Flow → Cursor → ℕ → Test → Option Cursor
adds old h k cell test = adds_by old h cell test (put_at h k cell)

-- the place behind, where the term is the test's bit
abbrev pub assumed : Table → Flow → Cursor → TermId → Test → Option Cursor
assumed old h next term test = if is_test old h.terms term test then Some next else None

-- of an operation that assumes a term: the place behind, where that is the test's bit
abbrev pub assumes_of : Table → Flow → Test → Operation → Cursor → Option Cursor
assumes_of old h test (Assume term) next = assumed old h next term test
assumes_of old h test _ next = None

-- of a step that was found: the place behind, where it assumes the test's bit
abbrev pub assumes_by : Table → Flow → Test → Option Step → Option Cursor
assumes_by old h test None = None
assumes_by old h test (Some step) = assumes_of old h test step.operation step.next

-- the place behind an Assume of a test
abbrev pub assumes : Table → Flow → Cursor → Test → Option Cursor
assumes old h k test = assumes_by old h test (next_step h k)

-- whether a term is the old one of a number
abbrev pub is_value : Table → Table → (found index : TermId) → Bool
is_value old table found index = found.0 == index.0 && truths.is_old old index

-- whether a term is the index of a store through a guard
abbrev pub is_index : Table → Table → Option ℕ → (index : TermId) → (count : ℕ) → (found : TermId) → Bool
is_index old table None index count found = is_value old table found index
is_index old table (Some test) index count found = truths.is_chosen_index old table found test index count

-- a store into an array, and the one that was found: the first cell, the length, the index and the value
abbrev pub is_array_store : Table → Table → Option ℕ → (first count : ℕ) → (index term : TermId) → (one many : ℕ) → (at put : TermId) → Bool
is_array_store old table guard first count index term one many at put =
    first == one && count == many && is_value old table put term && is_index old table guard index count at

-- whether the term that a cell gets is the old one through a guard
abbrev pub is_put : Table → Table → Option ℕ → (cell : ℕ) → (term put : TermId) → Bool
is_put old table None cell term put = is_value old table put term
is_put old table (Some test) cell term put = truths.is_chosen old table put test term cell

-- whether a store into a cell is the old one through a guard, and the cell is there
abbrev pub is_store : Table → Flow → Option ℕ → (cell : ℕ) → TermId → (one : ℕ) → TermId → Bool
is_store old h guard cell term one put = cell == one && nat_lt cell (length h.cells) && is_put old h.terms guard cell term put

-- whether two truths are one
abbrev pub is_alike : Bool → Bool → Bool
is_alike true b = b
is_alike false b = not b

-- whether two draws are one
abbrev pub is_same_draw : ℕ → Bool → ℕ → Bool → Bool
is_same_draw cell signed one other = cell == one && is_alike signed other

-- whether an operation is the old one through a guard, and sets a cell that is there
abbrev pub is_same : Table → Flow → Option ℕ → (operation found : Operation) → Bool
is_same old h guard (Set cell term) (Set one put) = is_store old h guard cell term one put
is_same old h guard (SetAt first count index term) (SetAt one many at put) =
    is_array_store old h.terms guard first count index term one many at put
is_same old h guard (Draw cell signed) (Draw one other) = is_same_draw cell signed one other
is_same old h guard _ _ = false

-- of a step that was found: the place behind, where it is the old operation through a guard
abbrev pub stores_by : Table → Flow → Option ℕ → Operation → Option Step → Option Cursor
stores_by old h guard operation None = None
stores_by old h guard operation (Some step) = if is_same old h guard operation step.operation then Some step.next else None

-- the place behind an operation of the old graph through a guard
abbrev pub stores : Table → Flow → Cursor → Option ℕ → Operation → Option Cursor
stores old h k guard operation = stores_by old h guard operation (next_step h k)
