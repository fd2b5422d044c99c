-- The values of slots and elements in a store of cells, and where instructions meet an error there.
use Rattle.std.specs.Prelude.{ℕ, ◌+◌, Bool, true, false, if◌then◌else◌, nat_lt, nat_eq, List, [], ◌∷◌, Option, None, Some, slice_index, pos}
use Rattle.lv_base.specs.declared.kind.Kind.{Kind}
use Rattle.lv_base.specs.declared.kind.Model.{Model}
use Rattle.lv_base.specs.declared.fault.ErrorKind.TheVariants as error
use Rattle.lv_base.specs.Integers.{residue, is_signed, is_promoted}
use Rattle.bv_term.specs.Numbers.{complement_in, truth}
use Rattle.c_tree.specs.declared.symbol.BinaryOp.{BinaryOp}
use Rattle.c_tree.specs.declared.symbol.BinaryOp.TheVariants as op
use Rattle.c_tree.specs.declared.symbol.Crement.{Crement}
use Rattle.c_tree.specs.declared.symbol.Crement.TheVariants as by
use Rattle.slot_code.specs.declared.flat.Instruction.{Instruction}
use Rattle.slot_code.specs.declared.flat.Instruction.TheVariants as i
use Rattle.c_terms.specs.Numbers.{narrowed, widened, zero_test, converted, promoted}
use Rattle.c_terms.specs.Operations.{Failure, failure, operation, failures, negation_overflows}
use Rattle.code_layout.specs.Layout.{slot_cell}
use Rattle.code_moves.specs.declared.ground.Room.{Room}
use Rattle.code_moves.specs.Setting.{Setting, room_of}

-- ---- Slots and elements

abbrev pub held : List ℕ → Option ℕ → ℕ
held store None = 0
held store (Some cell) = slice_index store cell

-- the value of a slot; one that no instruction reads has none
abbrev pub slot_value : Setting → List ℕ → ℕ → ℕ
slot_value g store slot = held store (slot_cell g.lay slot)

-- the bits of an element, whose index is a slot's value; of a scalar its only one
abbrev pub bits_in : Room → List ℕ → ℕ → ℕ
bits_in r store index = if r.is_array then (if nat_lt index r.length then slice_index store (r.first + index) else 0) else slice_index store r.first

abbrev pub element_in : Model → Option Room → List ℕ → ℕ → ℕ
element_in model None store index = 0
element_in model (Some r) store index = widened r.kind model (bits_in r store index)

-- the value of an object's element, as a slot's
abbrev pub element_value : Setting → List ℕ → ℕ → ℕ → ℕ
element_value g store object index = element_in g.model (room_of g object) store index

abbrev pub scalar_in : Model → Option Room → List ℕ → ℕ
scalar_in model None store = 0
scalar_in model (Some r) store = widened r.kind model (slice_index store r.first)

-- the first element of an object
abbrev pub scalar_value : Setting → List ℕ → ℕ → ℕ
scalar_value g store object = scalar_in g.model (room_of g object) store

-- ---- Operations on values of slots

abbrev pub applied : BinaryOp → Kind → Model → ℕ → ℕ → ℕ
applied o k model a b = operation o k model (narrowed k model a) (narrowed k model b)

abbrev pub tested : BinaryOp → Kind → Model → ℕ → ℕ → List Failure
tested o k model a b = failures o k model (narrowed k model a) (narrowed k model b) b

abbrev pub operation_of : Crement → BinaryOp
operation_of by.Increment = op.Add
operation_of by.Decrement = op.Subtract

-- one more or less, in a kind
abbrev pub stepped : Crement → Kind → Model → ℕ → ℕ
stepped x k model a = converted k model (applied (operation_of x) (promoted k) model (converted (promoted k) model a) (residue 64 (pos 1)))

-- a narrow kind is promoted to one that holds what is one more or less
abbrev pub step_tested : Crement → Kind → Model → ℕ → List Failure
step_tested x k model a = if is_promoted k then tested (operation_of x) (promoted k) model (converted (promoted k) model a) (residue 64 (pos 1)) else []

-- what a call gave, or 0 where it gave nothing
abbrev pub taken : Bool → ℕ → ℕ → ℕ
taken true value flag = value
taken false value flag = if nat_eq (zero_test flag) 1 then 0 else value

-- ---- Errors, in the order in which they are met

abbrev pub index_fails : ℕ → ℕ → List Failure
index_fails count index = failure error.Index (complement_in 1 (truth (nat_lt index (residue 64 (pos count))))) ∷ []

abbrev pub missing_fails : Bool → ℕ → List Failure
missing_fails needed flag = if needed then failure error.Missing (zero_test flag) ∷ [] else []

abbrev pub negation_fails : Kind → Model → ℕ → List Failure
negation_fails k model a = if is_signed k then failure error.Overflow (negation_overflows k model a) ∷ [] else []

module _ (g : Setting) (store : List ℕ) where
  abbrev pub failures_of : Instruction → List Failure
  failures_of (i.Constant slot v) = []
  failures_of (i.Read slot object) = []
  failures_of (i.Element slot at object count) = index_fails count (slot_value g store slot)
  failures_of (i.Locate slot at object count) = index_fails count (slot_value g store slot)
  failures_of (i.Load slot object) = []
  failures_of (i.Store slot object) = []
  failures_of (i.Convert slot k) = []
  failures_of (i.Negate slot k at) = negation_fails k g.model (slot_value g store slot)
  failures_of (i.Complement slot k at) = []
  failures_of (i.Not slot) = []
  failures_of (i.Truth slot) = []
  failures_of (i.Binary slot o k at) = tested o k g.model (slot_value g store slot) (slot_value g store (slot + 1))
  failures_of (i.Update slot o k l at object) = tested o k g.model (converted k g.model (slot_value g store (slot + 1))) (slot_value g store (slot + 2))
  failures_of (i.Change slot before x k at object) = step_tested x k g.model (element_value g store object (slot_value g store slot))
  failures_of (i.Draw slot k) = []
  failures_of (i.Fill object k count) = []
  failures_of (i.Begin slot object count values) = []
  failures_of (i.Bind slot object) = []
  failures_of (i.Jump skip) = []
  failures_of (i.Turn at goal) = []
  failures_of (i.SkipZero slot skip) = []
  failures_of (i.SkipEqual slot v skip) = []
  failures_of (i.Call at goal slot) = []
  failures_of (i.Return slot) = []
  failures_of (i.Take slot at from needed) = missing_fails needed (slot_value g store (from + 2))
  failures_of (i.Fail kind at) = []
  failures_of i.Stop = []
