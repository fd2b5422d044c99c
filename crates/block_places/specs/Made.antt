-- Which places the nodes of a graph have: what each guess and each test answers.
use Rattle.std.specs.Prelude.{ℕ, zero, suc, ◌+◌, ◌-◌, ◌==◌, ◌&&◌, ◌||◌, nat_le, nat_lt, Bool, true, false, if◌then◌else◌, List, [], ◌∷◌, ◌++◌, drop, length, Option, None, Some, slice_get, slice_index, Vec}
use Rattle.std.specs.Global.{Global}
use Rattle.std.specs.List.{list_all, list_any}
use Rattle.bv_term.specs.declared.term.TermId.{TermId}
use Rattle.bv_term.specs.declared.term.Term.{Term}
use Rattle.bv_term.specs.declared.term.Term.TheVariants.{Not}
use Rattle.bv_term.specs.WellFormed.{Table, widths}
use Rattle.c_graph.specs.declared.graph.NodeId.{NodeId}
use Rattle.c_graph.specs.declared.graph.EdgeId.{EdgeId}
use Rattle.c_graph.specs.declared.graph.Node.{Node}
use Rattle.c_graph.specs.declared.graph.Node.TheVariants.{Error}
use Rattle.c_graph.specs.declared.graph.Operation.{Operation}
use Rattle.c_graph.specs.declared.graph.Operation.TheVariants.{Assume, Set, SetAt, Draw}
use Rattle.c_graph.specs.declared.graph.Edge.{Edge}
use Rattle.c_graph.specs.Shape.{Flow, outs}
use Rattle.plan_tables.specs.Tables.{unit_at}
use Rattle.block_steps.specs.Made as steps
use Rattle.walk_states.specs.declared.known.Known.{Known}
use Rattle.walk_states.specs.declared.state.Way.{Way}
use Rattle.walk_states.specs.declared.state.Ways.{Ways}
use Rattle.walk_states.specs.declared.state.Ways.TheVariants.{Goes, Tested, Checked, Fails, Forks}
use Rattle.walk_states.specs.declared.state.Place.{Place}
use Rattle.walk_states.specs.Known.{on_unit}
use Rattle.block_places.specs.declared.exits.Exit.{Exit}

-- ---- Edges compared with ways

-- what is asked of an edge, no where there is none
abbrev pub on_edge : (Edge → Bool) → Option Edge → Bool
on_edge test None = false
on_edge test (Some e) = test e

abbrev pub is_test : Operation → TermId → Bool
is_test (Assume t) test = t.0 == test.0
is_test (Set c t) test = false
is_test (SetAt first n i t) test = false
is_test (Draw c signed) test = false

abbrev pub tests_first : List Operation → TermId → Bool
tests_first [] test = false
tests_first (op ∷ ops) test = is_test op test

abbrev pub are_test : List Operation → TermId → Bool
are_test ops test = length ops == 1 && tests_first ops test

-- the edge tests the term, does nothing more, and leads there
abbrev pub only_tests : TermId → (to : ℕ) → Edge → Bool
only_tests test to e = e.to.0 == to && are_test e.ops test

-- the edge tests the term first, and leads there
abbrev pub begins : TermId → (to : ℕ) → Edge → Bool
begins test to e = e.to.0 == to && tests_first e.ops test

abbrev pub is_bare : Flow → (number : ℕ) → TermId → (to : ℕ) → Bool
is_bare g number test to = on_edge (only_tests test to) (slice_get g.edges number)

abbrev pub is_behind : Flow → (number : ℕ) → TermId → Way → Bool
is_behind g number test way = way.edge_at == number && way.skip == 1 && on_edge (begins test way.to) (slice_get g.edges number)

abbrev pub leads_to : (to : ℕ) → Edge → Bool
leads_to to e = e.to.0 == to

abbrev pub is_whole : Flow → (number : ℕ) → Way → Bool
is_whole g number way = way.edge_at == number && way.skip == 0 && on_edge (leads_to way.to) (slice_get g.edges number)

-- the edge of a number is one of the ways
abbrev pub is_covered : Flow → Ways → (number : ℕ) → Bool
is_covered g (Goes way) number = is_whole g number way
is_covered g (Tested test way) number = is_behind g number test way
is_covered g (Checked fails error passes way) number = is_bare g number fails error || is_behind g number passes way
is_covered g (Fails test one others other) number = is_bare g number test one || is_bare g number others other
is_covered g (Forks test one others other) number = is_bare g number test one || is_bare g number others other

abbrev pub are_covered : Flow → Ways → List EdgeId → Bool
are_covered g ways numbers = list_all (λ (id : EdgeId). is_covered g ways id.0) numbers

-- ---- The ways that edges may be

abbrev pub is_error_node : Option Node → Bool
is_error_node (Some (Error kind at)) = true
is_error_node _ = false

abbrev pub leads_to_error : Flow → NodeId → Bool
leads_to_error g v = is_error_node (slice_get g.nodes v.0)

abbrev pub tested_by : Operation → Option TermId
tested_by (Assume t) = Some t
tested_by (Set c t) = None
tested_by (SetAt first n i t) = None
tested_by (Draw c signed) = None

abbrev pub first_test : List Operation → Option TermId
first_test [] = None
first_test (op ∷ ops) = tested_by op

abbrev pub skip_of : Option TermId → ℕ
skip_of None = 0
skip_of (Some t) = 1

abbrev pub exit_on : Flow → (number : ℕ) → Edge → Exit
exit_on g number e = record {
  test = first_test e.ops;
  way = record { to = e.to.0; edge_at = number; skip = skip_of (first_test e.ops) };
  is_failure = leads_to_error g e.to;
}

abbrev pub exit_at : Flow → (number : ℕ) → Option Edge → Option Exit
exit_at g number None = None
exit_at g number (Some e) = Some (exit_on g number e)

abbrev pub exit_of : Flow → EdgeId → Option Exit
exit_of g id = exit_at g id.0 (slice_get g.edges id.0)

abbrev pub way_behind : Option TermId → Way → Ways
way_behind None way = Goes way
way_behind (Some test) way = Tested test way

abbrev pub one_way : Exit → Ways
one_way exit = way_behind exit.test exit.way

-- two ways behind their tests, by which of them are errors
abbrev pub sorted_ways : (first second : Bool) → TermId → Way → TermId → Way → Ways
sorted_ways true true test one others other = Fails test one.to others other.to
sorted_ways true false test one others other = Checked test one.to others other
sorted_ways false true test one others other = Checked others other.to test one
sorted_ways false false test one others other = Forks test one.to others other.to

abbrev pub ways_behind : (first second : Exit) → (test others : Option TermId) → Option Ways
ways_behind first second (Some test) (Some others) = Some (sorted_ways first.is_failure second.is_failure test first.way others second.way)
ways_behind first second _ _ = None

abbrev pub two_ways : (first second : Exit) → Option Ways
two_ways first second = ways_behind first second first.test second.test

abbrev pub ways_of_one : Option Exit → Option Ways
ways_of_one None = None
ways_of_one (Some exit) = Some (one_way exit)

abbrev pub ways_of_two : Option Exit → Option Exit → Option Ways
ways_of_two (Some first) (Some second) = two_ways first second
ways_of_two _ _ = None

-- the ways that these edges, all that lead from a node, may be
abbrev pub guess : Flow → List EdgeId → Option Ways
guess g (only ∷ []) = ways_of_one (exit_of g only)
guess g (first ∷ (second ∷ [])) = ways_of_two (exit_of g first) (exit_of g second)
guess g _ = None

-- ---- Operations that test nothing

abbrev pub has_unit : Known → (cell unit : ℕ) → Bool
has_unit known cell unit = on_unit (λ u. u == unit) (unit_at known.units cell)

-- so many cells from one on have this unit
abbrev pub units_from : Known → (unit : ℕ) → (left cell : ℕ) → Bool
units_from known unit zero cell = true
units_from known unit (suc left) cell = has_unit known cell unit && units_from known unit left (cell + 1)

abbrev pub have_unit : Known → (first end unit : ℕ) → Bool
have_unit known first end unit = units_from known unit (end - first) first

abbrev pub are_one : Known → (first end : ℕ) → Bool
are_one known first end = on_unit (have_unit known first end) (unit_at known.units first)

abbrev pub is_array : Known → (cells first count : ℕ) → Bool
is_array known cells first count =
    if nat_lt (first + count) 4294967296 then nat_le (first + count) cells && are_one known first (first + count) else false

abbrev pub is_move : Known → (cells : ℕ) → Operation → Bool
is_move known cells (Assume t) = false
is_move known cells (Set c t) = nat_lt c cells
is_move known cells (Draw c signed) = nat_lt c cells
is_move known cells (SetAt first n i t) = is_array known cells first n

abbrev pub are_moves : Known → (cells : ℕ) → List Operation → (skip : ℕ) → Bool
are_moves known cells ops skip = list_all (is_move known cells) (drop skip ops)

abbrev pub moves_behind : Flow → Known → (skip : ℕ) → Edge → Bool
moves_behind g known skip e = are_moves known (length g.cells) e.ops skip

abbrev pub has_moves : Flow → Known → Way → Bool
has_moves g known way = on_edge (moves_behind g known way.skip) (slice_get g.edges way.edge_at)

-- ---- Regular ways

abbrev pub is_not : Term → TermId → Bool
is_not (Not found) operand = found.0 == operand.0
is_not _ operand = false

abbrev pub is_not_at : Option Term → TermId → Bool
is_not_at None operand = false
is_not_at (Some t) operand = is_not t operand

-- the second term is the complement of the first, which has one bit
abbrev pub are_complements : Table → (first second : TermId) → Bool
are_complements table first second =
    (nat_lt first.0 (length table.terms) && nat_lt second.0 (length table.terms))
    && slice_index (widths table) first.0 == 1 && is_not_at (slice_get table.terms second.0) first

abbrev pub exclude : Table → (first second : TermId) → Bool
exclude table first second = are_complements table first second || are_complements table second first

abbrev pub is_error : Flow → ℕ → Bool
is_error g v = is_error_node (slice_get g.nodes v)

abbrev pub are_errors : Flow → (one other : ℕ) → Bool
are_errors g one other = is_error g one && is_error g other

abbrev pub both_fail : Flow → (fails : TermId) → (error : ℕ) → (others : TermId) → (other : ℕ) → Bool
both_fail g fails error others other = exclude g.terms fails others && are_errors g error other

abbrev pub is_regular : Flow → Known → Ways → Bool
is_regular g known (Goes way) = has_moves g known way
is_regular g known (Tested test way) = has_moves g known way
is_regular g known (Checked fails error passes way) = exclude g.terms fails passes && is_error g error && has_moves g known way
is_regular g known (Fails fails error others other) = both_fail g fails error others other
is_regular g known (Forks test one others other) = exclude g.terms test others

-- ---- Ways that are edges from the node

abbrev pub has_whole : Flow → (node : ℕ) → Way → Bool
has_whole g node way = steps.leads_from g way.edge_at node && is_whole g way.edge_at way

abbrev pub has_behind : Flow → (node : ℕ) → TermId → Way → Bool
has_behind g node test way = steps.leads_from g way.edge_at node && is_behind g way.edge_at test way

abbrev pub is_bare_from : Flow → (node number : ℕ) → TermId → (to : ℕ) → Bool
is_bare_from g node number test to = steps.leads_from g number node && is_bare g number test to

-- one of these edges leads from the node, tests the term, does nothing more, and leads there
abbrev pub has_bare : Flow → (node : ℕ) → List EdgeId → TermId → (to : ℕ) → Bool
has_bare g node numbers test to = list_any (λ (id : EdgeId). is_bare_from g node id.0 test to) numbers

abbrev pub are_leading : Flow → (node : ℕ) → Ways → List EdgeId → Bool
are_leading g node (Goes way) numbers = has_whole g node way
are_leading g node (Tested test way) numbers = has_behind g node test way
are_leading g node (Checked fails error passes way) numbers = has_bare g node numbers fails error && has_behind g node passes way
are_leading g node (Fails test one others other) numbers = has_bare g node numbers test one && has_bare g node numbers others other
are_leading g node (Forks test one others other) numbers = has_bare g node numbers test one && has_bare g node numbers others other

-- ---- Places

-- the place with these ways, if they pass the tests
abbrev pub tested : Flow → Known → NodeId → List EdgeId → Ways → Option Place
tested g known v numbers ways =
    if (are_covered g ways numbers && is_regular g known ways) && are_leading g v.0 ways numbers then Some (record { node = v.0; ways = ways }) else None

abbrev pub place_guessed : Flow → Known → NodeId → List EdgeId → Option Ways → Option Place
place_guessed g known v numbers None = None
place_guessed g known v numbers (Some ways) = tested g known v numbers ways

abbrev pub place_among : Flow → Known → NodeId → List EdgeId → Option Place
place_among g known v numbers = place_guessed g known v numbers (guess g numbers)

-- the place of a node with its ways out, if it is plain and these are regular
abbrev pub place_of_node : Flow → Known → (node : ℕ) → Option Place
place_of_node g known node = if steps.is_plain g node then place_among g known (record { 0 = node }) (outs g (record { 0 = node })) else None

-- what is asked for the nodes behind one, if it has a place
abbrev pub places_behind : (Place → Option (List Place)) → Option Place → Option (List Place)
places_behind rest None = None
places_behind rest (Some place) = rest place

-- these places, and those of the nodes behind them, if each has one
abbrev pub places_onto : Flow → Known → List Place → List NodeId → Option (List Place)
places_onto g known places [] = Some places
places_onto g known places (v ∷ vs) = places_behind (λ place. places_onto g known (places ++ place ∷ []) vs) (place_of_node g known v.0)

abbrev pub places_of_nodes : Flow → Known → List NodeId → Option (List Place)
places_of_nodes g known nodes = places_onto g known [] nodes

abbrev pub items_of : Option (Vec Place Global) → Option (List Place)
items_of None = None
items_of (Some places) = Some places.items
