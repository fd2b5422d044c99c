-- Which terms and operations instructions become: the words first, then the operations that are there, then what the code takes.
use Rattle.std.specs.Prelude.{ℕ, zero, suc, ◌+◌, min, ℤ, pos, Bool, if◌then◌else◌, nat_lt, List, [], ◌∷◌, ◌++◌, Option, None, Some}
use Rattle.lv_base.specs.declared.kind.Kind.{Kind}
use Rattle.lv_base.specs.declared.kind.Kind.TheVariants.{Bool as ABool}
use Rattle.lv_base.specs.declared.fault.ErrorKind.{ErrorKind}
use Rattle.lv_base.specs.declared.fault.ErrorKind.TheVariants as error
use Rattle.lv_base.specs.Integers.{is_signed, is_promoted, width_of}
use Rattle.bv_term.specs.declared.term.TermId.{TermId}
use Rattle.bv_term.specs.declared.term.Term.TheVariants.{Element}
use Rattle.c_graph.specs.declared.graph.Operation.{Operation}
use Rattle.c_graph.specs.declared.graph.Operation.TheVariants.{Set, SetAt, Draw}
use Rattle.c_tree.specs.declared.symbol.BinaryOp.{BinaryOp}
use Rattle.c_tree.specs.declared.symbol.Crement.{Crement}
use Rattle.slot_code.specs.declared.flat.Instruction.{Instruction}
use Rattle.slot_code.specs.declared.flat.Instruction.TheVariants as i
use Rattle.c_terms.specs.declared.words.Words.{Words}
use Rattle.c_terms.specs.declared.failing.Tests.{Tests}
use Rattle.c_terms.specs.declared.failing.Tests.TheVariants as tests
use Rattle.c_terms.specs.Numbers.{promoted}
use Rattle.c_terms.specs.Made as term
use Rattle.code_layout.specs.Layout.{slot_cell, drawn_cell}
use Rattle.code_moves.specs.declared.ground.Room.{Room}
use Rattle.code_moves.specs.Setting.{Site}
use Rattle.code_moves.specs.Values.{operation_of}
use Rattle.code_moves.specs.Moves.{kept_in}

-- ---- The values of slots and elements

abbrev pub slot_at : Words → Option ℕ → Words × TermId
slot_at w None = term.zero w 64
slot_at w (Some cell) = term.cell w cell

abbrev pub slot : Site → Words → ℕ → Words × TermId
slot g w number = slot_at w (slot_cell g.lay number)

abbrev pub slot_behind : Site → Words → (number steps : ℕ) → Words × TermId
slot_behind g w number steps = slot g w (number + steps)

abbrev pub bits : Site → Words → Room → TermId → Words × TermId
bits g w room index = if room.is_array then term.put w (Element room.first room.length index) else term.cell w room.first

abbrev pub element_in : Site → Words → Room → TermId → Words × TermId
element_in g w room index = let p = bits g w room index in term.widen p.0 room.kind g.model p.1

abbrev pub element_of : Site → Words → Option Room → TermId → Words × TermId
element_of g w None index = term.zero w 64
element_of g w (Some room) index = element_in g w room index

abbrev pub element : Site → Words → ℕ → TermId → Words × TermId
element g w object index = element_of g w (g.rooms object) index

abbrev pub scalar_in : Site → Words → Room → Words × TermId
scalar_in g w room = let p = term.cell w room.first in term.widen p.0 room.kind g.model p.1

abbrev pub scalar_of : Site → Words → Option Room → Words × TermId
scalar_of g w None = term.zero w 64
scalar_of g w (Some room) = scalar_in g w room

abbrev pub scalar : Site → Words → ℕ → Words × TermId
scalar g w object = scalar_of g w (g.rooms object)

-- ---- Operations on values of slots

abbrev pub applied : Site → Words → BinaryOp → Kind → (left right : TermId) → Words × TermId
applied g w op kind left right = let p = term.operands w kind g.model left right in term.value p.0 p.1 op

abbrev pub tested : Site → Words → BinaryOp → Kind → (left right : TermId) → Words × Tests
tested g w op kind left right = let p = term.operands w kind g.model left right in term.tests p.0 p.1 op

abbrev pub stepped : Site → Words → Crement → Kind → TermId → Words × TermId
stepped g w x kind old =
    let p = term.converted w (promoted kind) g.model old in
    let q = term.constant p.0 (pos 1) in
    let r = applied g q.0 (operation_of x) (promoted kind) p.1 q.1 in
    term.converted r.0 kind g.model r.1

abbrev pub step_tested : Site → Words → Crement → Kind → TermId → Words × Tests
step_tested g w x kind old =
    if is_promoted kind
    then (let p = term.converted w (promoted kind) g.model old in
    let q = term.constant p.0 (pos 1) in
    tested g q.0 (operation_of x) (promoted kind) p.1 q.1)
    else (w, tests.None)

-- ---- Tests

-- the one test of an error
abbrev pub one : ErrorKind → Words × TermId → Words × Tests
one kind p = (p.0, tests.One (record { kind = kind; when = p.1 }))

abbrev pub index_test : Site → Words → (number count : ℕ) → Words × Tests
index_test g w number count =
    let p = slot g w number in
    let q = term.constant p.0 (pos count) in
    let r = term.word_less q.0 p.1 q.1 in
    one error.Index (term.word_not r.0 r.1)

abbrev pub missing_test : Site → Words → ℕ → Bool → Words × Tests
missing_test g w from is_needed = if is_needed then (let p = slot_behind g w from 2 in one error.Missing (term.is_zero p.0 p.1)) else (w, tests.None)

abbrev pub negation_test : Site → Words → ℕ → Kind → Words × Tests
negation_test g w number kind =
    if is_signed kind then (let p = slot g w number in one error.Overflow (term.negation_overflows p.0 kind g.model p.1)) else (w, tests.None)

abbrev pub binary_tests : Site → Words → ℕ → BinaryOp → Kind → Words × Tests
binary_tests g w number op kind =
    let p = slot g w number in
    let q = slot_behind g p.0 number 1 in
    tested g q.0 op kind p.1 q.1

abbrev pub update_tests : Site → Words → ℕ → BinaryOp → Kind → Words × Tests
update_tests g w number op kind =
    let p = slot_behind g w number 1 in
    let q = slot_behind g p.0 number 2 in
    let r = term.converted q.0 kind g.model p.1 in
    tested g r.0 op kind r.1 q.1

abbrev pub change_tests : Site → Words → ℕ → Crement → Kind → ℕ → Words × Tests
change_tests g w number x kind object =
    let p = slot g w number in
    let q = element g p.0 object p.1 in
    step_tested g q.0 x kind q.1

module _ (g : Site) (w : Words) where
  abbrev pub checks : Instruction → Words × Tests
  checks (i.Constant number v) = (w, tests.None)
  checks (i.Read number object) = (w, tests.None)
  checks (i.Element number at object count) = index_test g w number count
  checks (i.Locate number at object count) = index_test g w number count
  checks (i.Load number object) = (w, tests.None)
  checks (i.Store number object) = (w, tests.None)
  checks (i.Convert number k) = (w, tests.None)
  checks (i.Negate number k at) = negation_test g w number k
  checks (i.Complement number k at) = (w, tests.None)
  checks (i.Not number) = (w, tests.None)
  checks (i.Truth number) = (w, tests.None)
  checks (i.Binary number o k at) = binary_tests g w number o k
  checks (i.Update number o k l at object) = update_tests g w number o k
  checks (i.Change number before x k at object) = change_tests g w number x k object
  checks (i.Draw number k) = (w, tests.None)
  checks (i.Fill object k count) = (w, tests.None)
  checks (i.Begin number object count values) = (w, tests.None)
  checks (i.Bind number object) = (w, tests.None)
  checks (i.Jump skip) = (w, tests.None)
  checks (i.Turn at goal) = (w, tests.None)
  checks (i.SkipZero number skip) = (w, tests.None)
  checks (i.SkipEqual number v skip) = (w, tests.None)
  checks (i.Call at goal number) = (w, tests.None)
  checks (i.Return number) = (w, tests.None)
  checks (i.Take number at from needed) = missing_test g w from needed
  checks (i.Fail kind at) = (w, tests.None)
  checks i.Stop = (w, tests.None)

-- ---- One slot or element gets a value

abbrev pub fill_at : List Operation → Option ℕ → TermId → List Operation
fill_at ops None value = ops
fill_at ops (Some cell) value = ops ++ Set cell value ∷ []

abbrev pub fill : Site → List Operation → ℕ → TermId → List Operation
fill g ops number value = fill_at ops (slot_cell g.lay number) value

-- a slot gets the term that was made
abbrev pub filled : Site → Words × TermId → List Operation → ℕ → Words × List Operation
filled g p ops number = (p.0, fill g ops number p.1)

abbrev pub set_in : Room → (index value : TermId) → Operation
set_in room index value = if room.is_array then SetAt room.first room.length index value else Set room.first value

abbrev pub write_in : Site → Words → List Operation → Room → (index value : TermId) → Words × List Operation
write_in g w ops room index value =
    let p = term.narrow w room.kind g.model value in
    (p.0, ops ++ set_in room index p.1 ∷ [])

abbrev pub write_to : Site → Words → List Operation → Option Room → (index value : TermId) → Words × List Operation
write_to g w ops None index value = (w, ops)
write_to g w ops (Some room) index value = write_in g w ops room index value

abbrev pub write : Site → Words → List Operation → ℕ → (index value : TermId) → Words × List Operation
write g w ops object index value = write_to g w ops (g.rooms object) index value

abbrev pub write_at : Site → Words → List Operation → Room → ℕ → TermId → Words × List Operation
write_at g w ops room at value =
    let p = term.narrow w room.kind g.model value in
    (p.0, ops ++ Set (room.first + at) p.1 ∷ [])

-- ---- Instructions

abbrev pub constant : Site → Words → List Operation → ℕ → ℤ → Words × List Operation
constant g w ops number value = filled g (term.constant w value) ops number

abbrev pub read : Site → Words → List Operation → (number object : ℕ) → Words × List Operation
read g w ops number object = filled g (scalar g w object) ops number

abbrev pub load : Site → Words → List Operation → (number to object : ℕ) → Words × List Operation
load g w ops number to object = let p = slot g w number in filled g (element g p.0 object p.1) ops to

abbrev pub load_behind : Site → Words → List Operation → (number object : ℕ) → Words × List Operation
load_behind g w ops number object = load g w ops number (number + 1) object

abbrev pub store : Site → Words → List Operation → (number object : ℕ) → Words × List Operation
store g w ops number object =
    let p = slot g w number in
    let q = slot_behind g p.0 number 1 in
    let r = write g q.0 ops object p.1 q.1 in
    (r.0, fill g r.1 number q.1)

abbrev pub store_value : Site → Words → List Operation → (number object : ℕ) → TermId → Words × List Operation
store_value g w ops number object value =
    let p = slot g w number in
    let q = write g p.0 ops object p.1 value in
    (q.0, fill g q.1 number value)

abbrev pub convert : Site → Words → List Operation → ℕ → Kind → Words × List Operation
convert g w ops number kind = let p = slot g w number in filled g (term.converted p.0 kind g.model p.1) ops number

abbrev pub negate : Site → Words → List Operation → ℕ → Kind → Words × List Operation
negate g w ops number kind = let p = slot g w number in filled g (term.negated p.0 kind g.model p.1) ops number

abbrev pub complement : Site → Words → List Operation → ℕ → Kind → Words × List Operation
complement g w ops number kind = let p = slot g w number in filled g (term.complement p.0 kind g.model p.1) ops number

abbrev pub not : Site → Words → List Operation → ℕ → Words × List Operation
not g w ops number =
    let p = slot g w number in
    let q = term.is_zero p.0 p.1 in
    filled g (term.truth q.0 q.1) ops number

abbrev pub binary : Site → Words → List Operation → ℕ → BinaryOp → Kind → Words × List Operation
binary g w ops number op kind =
    let p = slot g w number in
    let q = slot_behind g p.0 number 1 in
    filled g (applied g q.0 op kind p.1 q.1) ops number

-- what a call gave
abbrev pub take : Site → Words → List Operation → (number from : ℕ) → Words × List Operation
take g w ops number from = filled g (slot_behind g w from 1) ops number

-- what a call gave, or 0 where it gave nothing
abbrev pub take_some : Site → Words → List Operation → (number from : ℕ) → Words × List Operation
take_some g w ops number from =
    let p = slot_behind g w from 1 in
    let q = slot_behind g p.0 from 2 in
    let r = term.is_zero q.0 q.1 in
    let z = term.zero r.0 64 in
    filled g (term.word_choose z.0 r.1 z.1 p.1) ops number

abbrev pub taken : Site → Words → List Operation → (number from : ℕ) → Bool → Words × List Operation
taken g w ops number from is_needed = if is_needed then take g w ops number from else take_some g w ops number from

-- ---- `op=`, `++` and `--`

abbrev pub updated : Site → Words → ℕ → BinaryOp → (kind to : Kind) → Words × TermId
updated g w number op kind to =
    let p = slot_behind g w number 1 in
    let q = slot_behind g p.0 number 2 in
    let r = term.converted q.0 kind g.model p.1 in
    let s = applied g r.0 op kind r.1 q.1 in
    term.converted s.0 to g.model s.1

abbrev pub update : Site → Words → List Operation → ℕ → BinaryOp → (kind to : Kind) → ℕ → Words × List Operation
update g w ops number op kind to object = let p = updated g w number op kind to in store_value g p.0 ops number object p.1

abbrev pub step : Site → Words → List Operation → ℕ → Crement → Kind → ℕ → Words × List Operation
step g w ops number x kind object =
    let p = slot g w number in
    let q = element g p.0 object p.1 in
    let r = stepped g q.0 x kind q.1 in
    write g r.0 ops object p.1 r.1

abbrev pub change_before : Site → Words → List Operation → ℕ → Crement → Kind → ℕ → Words × List Operation
change_before g w ops number x kind object = let p = step g w ops number x kind object in load g p.0 p.1 number number object

abbrev pub keep_in : Words → List Operation → Option ℕ → TermId → Words × List Operation × TermId
keep_in w ops None index = (w, ops, index)
keep_in w ops (Some cell) index = let p = term.cell w cell in (p.0, ops ++ Set cell index ∷ [], p.1)

abbrev pub keep : Site → Words → List Operation → ℕ → TermId → Words × List Operation × TermId
keep g w ops object index = keep_in w ops (kept_in (g.rooms object) g.lay.index) index

abbrev pub step_behind : Site → Words → List Operation → (number cell : ℕ) → Crement → Kind → ℕ → Words × List Operation
step_behind g w ops number cell x kind object =
    let p = slot g w number in
    let q = element g p.0 object p.1 in
    let k = keep g q.0 ops object p.1 in
    let r = term.cell k.0 cell in
    let s = stepped g r.0 x kind r.1 in
    write g s.0 (k.1 ++ Set cell q.1 ∷ []) object k.2 s.1

abbrev pub change_in : Site → Words → List Operation → ℕ → Option ℕ → Crement → Kind → ℕ → Words × List Operation
change_in g w ops number None x kind object = step g w ops number x kind object
change_in g w ops number (Some cell) x kind object = step_behind g w ops number cell x kind object

abbrev pub change_behind : Site → Words → List Operation → ℕ → Crement → Kind → ℕ → Words × List Operation
change_behind g w ops number x kind object = change_in g w ops number (slot_cell g.lay number) x kind object

abbrev pub change : Site → Words → List Operation → ℕ → Bool → Crement → Kind → ℕ → Words × List Operation
change g w ops number is_before x kind object = if is_before then change_before g w ops number x kind object else change_behind g w ops number x kind object

-- ---- Draws

abbrev pub draw_in : Site → Words → List Operation → ℕ → Kind → ℕ → Words × List Operation
draw_in g w ops number kind cell =
    let p = term.cell w cell in
    filled g (term.widen p.0 kind g.model p.1) (ops ++ Draw cell (is_signed kind) ∷ []) number

abbrev pub draw_to : Site → Words → List Operation → ℕ → Kind → Option ℕ → Words × List Operation
draw_to g w ops number kind None = (w, ops)
draw_to g w ops number kind (Some cell) = draw_in g w ops number kind cell

abbrev pub draw : Site → Words → List Operation → ℕ → Kind → Words × List Operation
draw g w ops number kind = draw_to g w ops number kind (drawn_cell g.lay (width_of kind g.model))

-- the first so many elements
abbrev pub draw_first : List Operation → Room → Kind → ℕ → List Operation
draw_first ops room kind zero = ops
draw_first ops room kind (suc n) = draw_first ops room kind n ++ Draw (room.first + n) (is_signed kind) ∷ []

abbrev pub draw_into : Words → List Operation → Option Room → Kind → ℕ → Words × List Operation
draw_into w ops None kind count = (w, ops)
draw_into w ops (Some room) kind count = (w, draw_first ops room kind (min count room.length))

abbrev pub draw_all : Site → Words → List Operation → ℕ → Kind → ℕ → Words × List Operation
draw_all g w ops object kind count = draw_into w ops (g.rooms object) kind count

-- ---- All elements of an object

-- the value for an element, 0 behind the values
abbrev pub begun : Site → Words → (number values at : ℕ) → Words × TermId
begun g w number values at = if nat_lt at values then slot_behind g w number at else term.zero w 64

-- the first so many elements
abbrev pub begin_first : Site → Words → List Operation → ℕ → Room → (count values : ℕ) → Words × List Operation
begin_first g w ops number room zero values = (w, ops)
begin_first g w ops number room (suc n) values =
    let p = begin_first g w ops number room n values in
    let q = begun g p.0 number values n in
    write_at g q.0 p.1 room n q.1

abbrev pub begin_in : Site → Words → List Operation → ℕ → Option Room → (count values : ℕ) → Words × List Operation
begin_in g w ops number None count values = (w, ops)
begin_in g w ops number (Some room) count values = begin_first g w ops number room (min count room.length) values

abbrev pub begin : Site → Words → List Operation → (number object count values : ℕ) → Words × List Operation
begin g w ops number object count values = begin_in g w ops number (g.rooms object) count values

abbrev pub bind_in : Site → Words → List Operation → ℕ → Option Room → Words × List Operation
bind_in g w ops number None = (w, ops)
bind_in g w ops number (Some room) = let p = slot g w number in write_at g p.0 ops room 0 p.1

abbrev pub bind : Site → Words → List Operation → (number object : ℕ) → Words × List Operation
bind g w ops number object = bind_in g w ops number (g.rooms object)

-- ---- All instructions

module _ (g : Site) (w : Words) (ops : List Operation) where
  abbrev pub moves : Instruction → Words × List Operation
  moves (i.Constant number v) = constant g w ops number v
  moves (i.Read number object) = read g w ops number object
  moves (i.Element number at object count) = load g w ops number number object
  moves (i.Locate number at object count) = (w, ops)
  moves (i.Load number object) = load_behind g w ops number object
  moves (i.Store number object) = store g w ops number object
  moves (i.Convert number k) = convert g w ops number k
  moves (i.Negate number k at) = negate g w ops number k
  moves (i.Complement number k at) = complement g w ops number k
  moves (i.Not number) = not g w ops number
  moves (i.Truth number) = convert g w ops number ABool
  moves (i.Binary number o k at) = binary g w ops number o k
  moves (i.Update number o k l at object) = update g w ops number o k l object
  moves (i.Change number before x k at object) = change g w ops number before x k object
  moves (i.Draw number k) = draw g w ops number k
  moves (i.Fill object k count) = draw_all g w ops object k count
  moves (i.Begin number object count values) = begin g w ops number object count values
  moves (i.Bind number object) = bind g w ops number object
  moves (i.Jump skip) = (w, ops)
  moves (i.Turn at goal) = (w, ops)
  moves (i.SkipZero number skip) = (w, ops)
  moves (i.SkipEqual number v skip) = (w, ops)
  moves (i.Call at goal number) = (w, ops)
  moves (i.Return number) = (w, ops)
  moves (i.Take number at from needed) = taken g w ops number from needed
  moves (i.Fail kind at) = (w, ops)
  moves i.Stop = (w, ops)
