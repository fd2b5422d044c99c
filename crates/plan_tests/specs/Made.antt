-- Which plans pass the tests: what each test answers.
use Rattle.std.specs.Prelude.{ℕ, zero, suc, ◌+◌, ◌-◌, ◌*◌, ◌/◌, ◌==◌, ◌&&◌, ◌||◌, nat_le, nat_lt, Bool, true, false, not, if◌then◌else◌, List, take, length, Option, None, Some, slice_get}
use Rattle.std.specs.List.{list_all, list_any}
use Rattle.bv_term.specs.declared.term.TermId.{TermId}
use Rattle.bv_term.specs.declared.term.Term.{Term}
use Rattle.bv_term.specs.declared.term.Term.TheVariants as term
use Rattle.bv_term.specs.WellFormed.{Table}
use Rattle.c_graph.specs.declared.graph.NodeId.{NodeId}
use Rattle.c_graph.specs.declared.graph.Node.{Node}
use Rattle.c_graph.specs.declared.graph.Node.TheVariants.{Plain, Error, End, Call}
use Rattle.c_graph.specs.declared.graph.Operation.{Operation}
use Rattle.c_graph.specs.declared.graph.Operation.TheVariants.{Assume, Set, SetAt, Draw}
use Rattle.c_graph.specs.declared.graph.Edge.{Edge}
use Rattle.c_graph.specs.declared.graph.LoopAt.{LoopAt}
use Rattle.c_graph.specs.Shape.{Flow}
use Rattle.plan_tables.specs.Made.{unit_count}
use Rattle.plan_tables.specs.Tables.{UnitTable, flag_at, is_live_in, unit_at, units_of, words_of}
use Rattle.block_rule.specs.Plans.{matters}
use Rattle.walk_states.specs.declared.known.Known.{Known}
use Rattle.walk_states.specs.Known.{has_unit, on_unit, plan_of}
use Rattle.plan_tests.specs.Passes.{all_at, all_from}

-- ---- The units of cells

abbrev pub is_unit : UnitTable → (cell unit : ℕ) → Bool
is_unit units cell unit = on_unit (λ u. u == unit) (unit_at units cell)

abbrev pub within : (unit last count : ℕ) → Option ℕ
within unit last count = if nat_le last unit && nat_lt unit count then Some unit else None

abbrev pub next_within : Option ℕ → (last count : ℕ) → Option ℕ
next_within None last count = None
next_within (Some unit) last count = within unit last count

-- the unit of a cell, if it is below the count and not below the last one
abbrev pub next_unit : UnitTable → (cell last count : ℕ) → Option ℕ
next_unit units cell last count = next_within (unit_at units cell) last count

abbrev pub has_none : Option ℕ → Bool
has_none None = true
has_none (Some unit) = false

-- what is asked of the cells behind one, its unit being the last
abbrev pub units_behind : (ℕ → Bool) → Option ℕ → Bool
units_behind rest None = false
units_behind rest (Some unit) = rest unit

-- so many cells from one on have units that do not fall, and the cell behind them has none
abbrev pub units_from : UnitTable → (count : ℕ) → (left cell last : ℕ) → Bool
units_from units count zero cell last = has_none (unit_at units cell)
units_from units count (suc left) cell last = units_behind (units_from units count left (cell + 1)) (next_unit units cell last count)

abbrev pub are_units : UnitTable → (cells count : ℕ) → Bool
are_units units cells count = units_from units count cells 0 0

-- the cell behind has another unit, and no number is past the cell of the highest one
abbrev pub is_last : UnitTable → (cell unit : ℕ) → Bool
is_last units cell unit = nat_lt cell 4294967295 && not (is_unit units (cell + 1) unit)

abbrev pub is_first : UnitTable → (cell unit : ℕ) → Bool
is_first units cell unit = cell == 0 || not (is_unit units (cell - 1) unit)

-- the unit is that of this cell alone
abbrev pub is_alone : UnitTable → (cell unit : ℕ) → Bool
is_alone units cell unit = is_unit units cell unit && is_last units cell unit && is_first units cell unit

-- ---- Nodes

abbrev pub leads : List Bool → (from to : ℕ) → Bool
leads flags from to = not (flag_at flags from) || flag_at flags to

abbrev pub is_step : Known → Edge → Bool
is_step known e = leads known.reached e.from.0 e.to.0 && leads known.alive e.to.0 e.from.0

abbrev pub are_steps : Known → List Edge → Bool
are_steps known edges = list_all (is_step known) edges

abbrev pub is_watched : Known → ℕ → Node → Bool
is_watched known number Plain = true
is_watched known number (Error kind at) = flag_at known.alive number
is_watched known number End = true
is_watched known number (Call callee next) = true

abbrev pub are_watched : Known → Flow → Bool
are_watched known g = all_at (is_watched known) 0 g.nodes

abbrev pub is_listed : Known → NodeId → Bool
is_listed known v = flag_at known.cuts v.0 && flag_at known.alive v.0

abbrev pub are_listed : Known → List LoopAt → Bool
are_listed known loops = list_all (λ (l : LoopAt). is_listed known l.node) loops

-- ---- What terms read

abbrev pub has : List ℕ → ℕ → Bool
has list unit = has_unit list unit

-- the first list has each unit of the second
abbrev pub includes : (list units : List ℕ) → Bool
includes list units = list_all (has list) units

abbrev pub reads_cell : Known → (number cell : ℕ) → Bool
reads_cell known number cell = (plan_of known).reads number cell

-- a unit that the last cell has too, and the term is said to read
abbrev pub reads_both : Known → (number last : ℕ) → ℕ → Bool
reads_both known number last unit = is_unit known.units last unit && has (units_of known.reads number) unit

abbrev pub reads_span : Known → (number first last : ℕ) → Bool
reads_span known number first last = on_unit (reads_both known number last) (unit_at known.units first)

abbrev pub reads_array : Known → (number first count : ℕ) → Bool
reads_array known number first count =
    if count == 0 then true else
    if nat_lt (first + (count - 1)) 4294967296 then reads_span known number first (first + (count - 1)) else false

module _ (known : Known) (number : ℕ) where
  -- the term of the number is said to read what the other term is said to read
  abbrev pub reads_one : TermId → Bool
  reads_one i = includes (units_of known.reads number) (units_of known.reads i.0)

  abbrev pub reads_two : TermId → TermId → Bool
  reads_two i j = reads_one i && reads_one j

  abbrev pub reads_three : TermId → TermId → TermId → Bool
  reads_three i j k = reads_one i && reads_one j && reads_one k

  abbrev pub reads_operands : Term → Bool
  reads_operands (term.Constant w v) = true
  reads_operands (term.Cell c) = true
  reads_operands (term.Element first n i) = reads_one i
  reads_operands (term.Add i j) = reads_two i j
  reads_operands (term.Subtract i j) = reads_two i j
  reads_operands (term.Multiply i j) = reads_two i j
  reads_operands (term.Divide i j) = reads_two i j
  reads_operands (term.Remainder i j) = reads_two i j
  reads_operands (term.And i j) = reads_two i j
  reads_operands (term.Or i j) = reads_two i j
  reads_operands (term.Xor i j) = reads_two i j
  reads_operands (term.Not i) = reads_one i
  reads_operands (term.ShiftLeft i j) = reads_two i j
  reads_operands (term.ShiftRight i j) = reads_two i j
  reads_operands (term.ShiftSigned i j) = reads_two i j
  reads_operands (term.Equal i j) = reads_two i j
  reads_operands (term.Less i j) = reads_two i j
  reads_operands (term.LessSigned i j) = reads_two i j
  reads_operands (term.Select i j k) = reads_three i j k
  reads_operands (term.ZeroExtend w i) = reads_one i
  reads_operands (term.SignExtend w i) = reads_one i
  reads_operands (term.Truncate w i) = reads_one i
  reads_operands (term.Bit n i) = reads_one i

  abbrev pub reads_own : Term → Bool
  reads_own (term.Cell c) = reads_cell known number c
  reads_own (term.Element first n i) = reads_array known number first n
  reads_own _ = true

  abbrev pub is_read : Term → Bool
  is_read t = reads_own t && reads_operands t

abbrev pub are_reads : Known → Table → Bool
are_reads known table = all_at (is_read known) 0 table.terms

-- ---- What is read from a node on

abbrev pub kills : UnitTable → (unit : ℕ) → Operation → Bool
kills units unit (Set cell t) = is_alone units cell unit
kills units unit (Draw cell signed) = is_alone units cell unit
kills units unit (Assume t) = false
kills units unit (SetAt first n i t) = false

-- one of these operations sets the only cell of a unit
abbrev pub is_killed : UnitTable → List Operation → (unit : ℕ) → Bool
is_killed units ops unit = list_any (kills units unit) ops

abbrev pub is_covered : Known → (node : ℕ) → List Operation → (unit : ℕ) → Bool
is_covered known node ops unit = is_live_in known.live node unit || is_killed known.units ops unit

abbrev pub is_kept : Known → (from : ℕ) → List Operation → (to unit : ℕ) → Bool
is_kept known from ops to unit = not (is_live_in known.live to unit) || is_covered known from ops unit

abbrev pub are_bits_kept : Known → (from : ℕ) → List Operation → (to number : ℕ) → Bool
are_bits_kept known from ops to number = all_from (λ bit. is_kept known from ops to (number * 64 + bit)) 64 0

abbrev pub is_same_word : Option ℕ → ℕ → Bool
is_same_word None word = false
is_same_word (Some found) word = found == word

abbrev pub is_word : List ℕ → (number word : ℕ) → Bool
is_word row number word = is_same_word (slice_get row number) word

abbrev pub has_that_word : List ℕ → ℕ → Option ℕ → Bool
has_that_word row number None = true
has_that_word row number (Some word) = is_word row number word

-- the first row has the second one's word of this number, or there is none
abbrev pub has_word : (row other : List ℕ) → (number : ℕ) → Bool
has_word row other number = has_that_word row number (slice_get other number)

abbrev pub is_word_kept : Known → (from : ℕ) → List Operation → (to number : ℕ) → Bool
is_word_kept known from ops to number = has_word (words_of known.live from) (words_of known.live to) number || are_bits_kept known from ops to number

abbrev pub all_kept : Known → (from : ℕ) → List Operation → (to count : ℕ) → Bool
all_kept known from ops to count = all_from (is_word_kept known from ops to) (count / 64 + 1) 0

abbrev pub stays_live : Known → (from : ℕ) → List Operation → (to count : ℕ) → Bool
stays_live known from ops to count = not known.live.is_whole || all_kept known from ops to count

abbrev pub all_covered : Known → (node : ℕ) → (before : List Operation) → (units : List ℕ) → Bool
all_covered known node before units = list_all (is_covered known node before) units

abbrev pub term_flows : Known → (node : ℕ) → (before : List Operation) → TermId → Bool
term_flows known node before t = all_covered known node before (units_of known.reads t.0)

abbrev pub reads_flow : Known → (node : ℕ) → (before : List Operation) → Operation → Bool
reads_flow known node before (Assume t) = term_flows known node before t
reads_flow known node before (Set c t) = term_flows known node before t
reads_flow known node before (SetAt first n i t) = term_flows known node before i && term_flows known node before t
reads_flow known node before (Draw c signed) = true

abbrev pub all_reads_flow : Known → (node : ℕ) → List Operation → Bool
all_reads_flow known node ops = all_at (λ number op. reads_flow known node (take number ops) op) 0 ops

abbrev pub flows : Known → (count : ℕ) → Edge → Bool
flows known count e = all_reads_flow known e.from.0 e.ops && stays_live known e.from.0 e.ops e.to.0 count

abbrev pub flows_to : Known → (count : ℕ) → Edge → Bool
flows_to known count e = not (matters (plan_of known) e.to.0) || flows known count e

abbrev pub all_flow : Known → List Edge → (count : ℕ) → Bool
all_flow known edges count = list_all (flows_to known count) edges

-- ---- All tests

abbrev pub is_entry : Known → NodeId → Bool
is_entry known entry = flag_at known.reached entry.0 && flag_at known.cuts entry.0

-- all tests, there being so many units
abbrev pub is_plan_of : Flow → Known → (count : ℕ) → Bool
is_plan_of g known count =
    (are_units known.units (length g.cells) count && is_entry known g.entry) && (are_steps known g.edges && are_watched known g)
    && are_listed known g.loops && are_reads known g.terms && all_flow known g.edges count

-- more units than 32 bits can count are none of a plan
abbrev pub is_plan : Flow → Known → Bool
is_plan g known = if nat_lt (unit_count known.units) 4294967296 then is_plan_of g known (unit_count known.units) else false
