-- The board and its answers, in the words of runs.
use Rattle.std.specs.Prelude.{ℕ, suc, Bool, ◌&&◌, if◌then◌else◌, List, [], length, slice_index_or, slice_set, Result, Ok, Err, ℤ, pos, int_le, int_lt, nat_eq, nat_le, true}
use Rattle.lv_base.specs.declared.kind.Kind.{Kind}
use Rattle.lv_base.specs.declared.kind.Model.{Model}
use Rattle.lv_base.specs.declared.fault.ErrorKind.{ErrorKind}
use Rattle.lv_base.specs.Integers.{arith_of}
use Rattle.c_tree.specs.declared.symbol.BinaryOp.{BinaryOp}
use Rattle.c_run.specs.Run.{with_store, State, Got, Value, Stop, Run, Compute, give, after, located, read, Element}
use Rattle.c_run.specs.Operators.{op_of, is_turned, is_negated, negated}
use Rattle.typed_range_laws.specs.Guards.{guarded}
use Rattle.slot_code.specs.declared.reply.Ending.{Ending}
use Rattle.slot_code.specs.declared.flat.Instruction.{Instruction}
use Rattle.slot_code.specs.declared.flat.Instruction.TheVariants as i
use Rattle.slot_code.specs.Slots.{put}
use Rattle.slot_code.specs.Machine.{machine, Next, Goes, Over, ending_of}

abbrev pub state : List (List ℤ) → (taken turns : ℕ) → State
state store taken turns = record { store = store; taken = taken; turns = turns }

-- ---- Answers: a value with the state behind it, or how the run ends

pub data Reply (A : Type 0) : Type 0 where
  Gave : (value : A) (st : State) → Reply A
  Ends : (ending : Ending) → Reply A

-- what is seen of what a run gives
abbrev pub seen : {A : Type 0} → Got A → Reply A
seen (Value v st) = Gave v st
seen (Stop e) = Ends (ending_of e)

abbrev pub reply : {A : Type 0} → Result A Ending → State → Reply A
reply (Ok v) st = Gave v st
reply (Err e) st = Ends e

-- all values of an object were drawn, and are these
abbrev pub drew : Result (Unit {0}) Ending → List ℤ → State → Reply (List ℤ)
drew (Ok v) values st = Gave values st
drew (Err e) values st = Ends e

-- the value gets into a slot, and the next place follows
abbrev pub filled_by : ℕ → List ℤ → ℕ → Reply ℤ → Next
filled_by place slots slot (Gave v st) = Goes (machine (suc place) (put slots slot v) st)
filled_by place slots slot (Ends e) = Over e

-- ---- Values

-- operations test their operands
abbrev pub compute_of : Model → Compute
compute_of model op kind x y = guarded model op kind x y

abbrev pub finished : Bool → Result ℤ ErrorKind → Result ℤ ErrorKind
finished n (Ok v) = Ok (negated n v)
finished n (Err kind) = Err kind

-- a binary operator but for `&&` and `||`, on values of its kind
abbrev pub applied_value : Model → BinaryOp → Kind → ℤ → ℤ → Result ℤ ErrorKind
applied_value model o k x y = finished (is_negated o) (if is_turned o then guarded model (op_of o) k y x else guarded model (op_of o) k x y)

-- the same where the operands are known to be values of the kind
abbrev pub plain_value : Model → BinaryOp → Kind → ℤ → ℤ → Result ℤ ErrorKind
plain_value model o k x y = finished (is_negated o) (if is_turned o then arith_of (op_of o) k model y x else arith_of (op_of o) k model x y)

abbrev pub is_index_of : ℕ → ℤ → Bool
is_index_of count index = int_le (pos 0) index && int_lt index (pos count)

-- how many elements an object of the store has
abbrev pub size_in : List (List ℤ) → ℕ → ℕ
size_in store object = length (slice_index_or store object [])

-- an instruction that stores all values of an object has as many as the object has elements
abbrev pub fits : List (List ℤ) → Instruction → Bool
fits store (i.Fill object k count) = nat_eq (size_in store object) count
fits store (i.Begin slot object count values) = nat_eq (size_in store object) count && nat_le values count
fits store (i.Bind slot object) = nat_eq (size_in store object) 1
fits store _ = true

-- the element whose index is tested first
abbrev pub element_at : (at object count : ℕ) → ℤ → Run ℤ
element_at at object count v st = after (located at object count v st) read

abbrev pub index_at : (at object count : ℕ) → ℤ → Run ℤ
index_at at object count v st = after (located at object count v st) (λ e. give (pos e.index))

-- the state behind a write
abbrev pub state_written : Element → ℤ → State → State
state_written e v st = with_store st (slice_set st.store e.object (slice_set (slice_index_or st.store e.object []) e.index v))
