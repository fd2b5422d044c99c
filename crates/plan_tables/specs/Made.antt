-- What the tables hold once they are filled: numbers past the end answer none, and nothing is written there.
use Rattle.std.specs.Prelude.{ℕ, ◌+◌, ◌-◌, ◌==◌, ◌&&◌, ◌||◌, min, Bool, true, false, not, nat_lt, if◌then◌else◌, List, [], ◌∷◌, ◌++◌, length, replicate, slice_get, slice_index, slice_set, Option, None, Some, bit_or}
use Rattle.bv_term.specs.declared.term.TermId.{TermId}
use Rattle.bv_term.specs.declared.term.Term.{Term}
use Rattle.bv_term.specs.declared.term.Term.TheVariants.{Constant, Cell as ACell, Element as AnElement, Add, Subtract, Multiply, Divide, Remainder, And, Or, Xor, Not, ShiftLeft, ShiftRight, ShiftSigned, Equal, Less, LessSigned, Select, ZeroExtend, SignExtend, Truncate, Bit}
use Rattle.bv_term.specs.WellFormed.{Table}
use Rattle.c_graph.specs.declared.graph.Cell.{Cell}
use Rattle.c_graph.specs.declared.graph.Origin.{Origin}
use Rattle.c_graph.specs.declared.graph.Origin.TheVariants.{Element, Saved}
use Rattle.plan_tables.specs.Tables.{UnitTable, LiveRows, unit_at, units_of}

-- ---- Truths

-- so many truths, each false
abbrev pub flags_new : ℕ → List Bool
flags_new count = replicate count false

-- a number's truth becomes true
abbrev pub flags_set : List Bool → ℕ → List Bool
flags_set flags n = slice_set flags n true

-- ---- Numbers of numbers

-- so many numbers, each with none
abbrev pub links_new : ℕ → List (Option ℕ)
links_new count = replicate count None

abbrev pub link_of : Option (Option ℕ) → Option ℕ
link_of None = None
link_of (Some link) = link

-- the number of a number, none past the end
abbrev pub link_at : List (Option ℕ) → ℕ → Option ℕ
link_at links n = link_of (slice_get links n)

-- a number gets a number or none
abbrev pub links_set : List (Option ℕ) → ℕ → Option ℕ → List (Option ℕ)
links_set links n link = slice_set links n link

-- ---- Counts

-- so many counts of 0
abbrev pub counts_new : ℕ → List ℕ
counts_new count = replicate count 0

abbrev pub or_zero : Option ℕ → ℕ
or_zero None = 0
or_zero (Some n) = n

-- the count of a number, 0 past the end
abbrev pub count_at : List ℕ → ℕ → ℕ
count_at counts n = or_zero (slice_get counts n)

-- one more, so far as 32 bits hold it
abbrev pub counts_add : List ℕ → ℕ → List ℕ
counts_add counts n = slice_set counts n (min (count_at counts n + 1) 4294967295)

-- one less, down to 0
abbrev pub counts_take : List ℕ → ℕ → List ℕ
counts_take counts n = slice_set counts n (count_at counts n - 1)

-- ---- Units of cells

-- units that were given to the first cells, the object of the last one, and how many units there are
pub record Numbering : Type 0 where
  pub units : List ℕ
  pub single : List Bool
  pub last : Option ℕ
  pub unit : ℕ

abbrev pub nothing_numbered : Numbering
nothing_numbered = record { units = []; single = []; last = None; unit = 0 }

-- a cell in a unit of its own, of an object or of none
abbrev pub alone : Numbering → Option ℕ → Numbering
alone s object =
    let unit = min (s.unit + 1) 4294967295 in
    record { units = s.units ++ (unit - 1) ∷ []; single = s.single ++ true ∷ []; last = object; unit = unit }

-- a further cell in the last unit
abbrev pub further : Numbering → Numbering
further s = record { units = s.units ++ (s.unit - 1) ∷ []; single = slice_set s.single (s.unit - 1) false; last = s.last; unit = s.unit }

abbrev pub is_number : Option ℕ → ℕ → Bool
is_number None n = false
is_number (Some m) n = m == n

-- a cell of the object that the last cell belongs to stands in its unit
abbrev pub numbered : Numbering → Origin → Numbering
numbered s (Element object at) = if is_number s.last object && nat_lt 0 s.unit then further s else alone s (Some object)
numbered s Saved = alone s None

abbrev pub all_numbered : Numbering → List Cell → Numbering
all_numbered s [] = s
all_numbered s (c ∷ cs) = all_numbered (numbered s c.origin) cs

abbrev pub units_in : Numbering → UnitTable
units_in s = record { units = s.units; single = s.single }

-- the units of these cells
abbrev pub units_new : List Cell → UnitTable
units_new cells = units_in (all_numbered nothing_numbered cells)

-- the unit of a cell, 0 past the end
abbrev pub unit_of : UnitTable → ℕ → ℕ
unit_of units c = or_zero (unit_at units c)

abbrev pub or_false : Option Bool → Bool
or_false None = false
or_false (Some b) = b

-- whether a unit has one cell
abbrev pub is_single : UnitTable → ℕ → Bool
is_single units unit = or_false (slice_get units.single unit)

-- how many units there are
abbrev pub unit_count : UnitTable → ℕ
unit_count units = length units.single

-- ---- Units that terms read

abbrev pub is_among : ℕ → List ℕ → Bool
is_among n [] = false
is_among n (m ∷ ms) = m == n || is_among n ms

-- a unit behind those that were found, if it is not among them
abbrev pub add : ℕ → List ℕ → List ℕ
add unit found = if is_among unit found then found else found ++ unit ∷ []

abbrev pub add_each : List ℕ → List ℕ → List ℕ
add_each [] found = found
add_each (u ∷ us) found = add_each us (add u found)

-- the units that a term reads, those of the earlier terms being known
abbrev pub add_all : List (List ℕ) → TermId → List ℕ → List ℕ
add_all lists t found = add_each (units_of lists t.0) found

abbrev pub add_two : List (List ℕ) → TermId → TermId → List ℕ → List ℕ
add_two lists a b found = add_all lists b (add_all lists a found)

module _ (lists : List (List ℕ)) (units : UnitTable) where
  abbrev pub reads_of : Term → List ℕ
  reads_of (Constant w v) = []
  reads_of (ACell c) = add (unit_of units c) []
  reads_of (AnElement first n i) = add_all lists i (add (unit_of units first) [])
  reads_of (Add a b) = add_two lists a b []
  reads_of (Subtract a b) = add_two lists a b []
  reads_of (Multiply a b) = add_two lists a b []
  reads_of (Divide a b) = add_two lists a b []
  reads_of (Remainder a b) = add_two lists a b []
  reads_of (And a b) = add_two lists a b []
  reads_of (Or a b) = add_two lists a b []
  reads_of (Xor a b) = add_two lists a b []
  reads_of (Not a) = add_all lists a []
  reads_of (ShiftLeft a b) = add_two lists a b []
  reads_of (ShiftRight a b) = add_two lists a b []
  reads_of (ShiftSigned a b) = add_two lists a b []
  reads_of (Equal a b) = add_two lists a b []
  reads_of (Less a b) = add_two lists a b []
  reads_of (LessSigned a b) = add_two lists a b []
  reads_of (Select a b c) = add_all lists c (add_two lists a b [])
  reads_of (ZeroExtend w a) = add_all lists a []
  reads_of (SignExtend w a) = add_all lists a []
  reads_of (Truncate w a) = add_all lists a []
  reads_of (Bit k a) = add_all lists a []

-- the lists of further terms behind those of the first ones
abbrev pub reads_from : UnitTable → List (List ℕ) → List Term → List (List ℕ)
reads_from units lists [] = lists
reads_from units lists (t ∷ ts) = reads_from units (lists ++ reads_of lists units t ∷ []) ts

-- the units that the terms of a table read
abbrev pub reads_new : Table → UnitTable → List (List ℕ)
reads_new table units = reads_from units [] table.terms

-- ---- What is read from a node on

abbrev pub live_unknown : LiveRows
live_unknown = record { rows = []; is_whole = false }

-- so many nodes, each with so many words of 0
abbrev pub live_empty : ℕ → ℕ → LiveRows
live_empty count words = record { rows = replicate count (replicate words 0); is_whole = true }

-- the words of a row in place of others, 0 behind its end
abbrev pub loaded : List ℕ → List ℕ → List ℕ
loaded row [] = []
loaded [] (x ∷ xs) = 0 ∷ loaded [] xs
loaded (w ∷ ws) (x ∷ xs) = w ∷ loaded ws xs

abbrev pub loaded_from : Option (List ℕ) → List ℕ → List ℕ
loaded_from None scratch = scratch
loaded_from (Some row) scratch = loaded row scratch

-- the words of a node, as many as there is room for
abbrev pub live_load : LiveRows → ℕ → List ℕ → List ℕ
live_load live v scratch = loaded_from (slice_get live.rows v) scratch

-- a row with the bits of one further word
abbrev pub word_added : List ℕ → ℕ → ℕ → List ℕ
word_added row k bits = slice_set row k (bit_or (slice_index row k) bits)

-- whether some of these bits were not there
abbrev pub word_adds : Option ℕ → ℕ → Bool
word_adds None bits = false
word_adds (Some w) bits = not (bit_or w bits == w)

-- a row with the bits of further words
abbrev pub added : List ℕ → List ℕ → List ℕ
added row [] = row
added [] (x ∷ xs) = []
added (w ∷ ws) (x ∷ xs) = bit_or w x ∷ added ws xs

-- whether some of their bits were not there
abbrev pub adds : List ℕ → List ℕ → Bool
adds row [] = false
adds [] (x ∷ xs) = false
adds (w ∷ ws) (x ∷ xs) = word_adds (Some w) x || adds ws xs

abbrev pub joined_at : LiveRows → ℕ → Option (List ℕ) → List ℕ → LiveRows
joined_at live v None scratch = live
joined_at live v (Some row) scratch = record { rows = slice_set live.rows v (added row scratch); is_whole = live.is_whole }

-- the bits of words in the row of a node too
abbrev pub live_join : LiveRows → ℕ → List ℕ → LiveRows
live_join live v scratch = joined_at live v (slice_get live.rows v) scratch

abbrev pub adds_to : Option (List ℕ) → List ℕ → Bool
adds_to None scratch = false
adds_to (Some row) scratch = adds row scratch

-- whether these are more than the node had
abbrev pub live_grows : LiveRows → ℕ → List ℕ → Bool
live_grows live v scratch = adds_to (slice_get live.rows v) scratch
