-- Runs: what reads and changes a state, and gives a value or ends. The meaning of a source tree and that of a typed tree
-- are both written with these words.
use Rattle.std.specs.Prelude.{ℕ, zero, suc, ◌-◌, Bool, true, false, ◌&&◌, not, List, [], ◌∷◌, ◌++◌, length, replicate, Option, Some, None, Result, Ok, Err, slice_get, slice_index_or, slice_set, ℤ, pos, int_le, int_lt, unsigned_abs}
use Rattle.lv_base.specs.declared.kind.Kind.{Kind}
use Rattle.lv_base.specs.declared.kind.Model.{Model}
use Rattle.lv_base.specs.declared.kind.Op.{Op}
use Rattle.lv_base.specs.declared.fault.ErrorKind.{ErrorKind}
use Rattle.lv_base.specs.declared.fault.ErrorKind.TheVariants as error
use Rattle.lv_base.specs.Integers.{is_in_range, is_zero}

infixr 20 ◌>>=◌
infixr 20 ◌>>◌
-- The store gives each object its values, one to an element; a scalar has one. `taken` counts the inputs drawn, and
-- `turns` are those left. Each object has one instance, since no function is entered while it runs.
pub record State : Type 0 where
  pub store : List (List ℤ)
  pub taken : ℕ
  pub turns : ℕ

-- How a run ends. An error has the offset of its token and the inputs drawn; a bad input its number, from 0; a run that is
-- out of turns the offset of what asked for one more, the store there, and the inputs drawn. So a loop at this offset is
-- visited with this store, so many inputs being drawn, exactly where for some number of turns the run ends `Spent` with all three.
pub data End : Type 0 where
  Error : (kind : ErrorKind) (at : ℕ) (taken : ℕ) → End
  Ended : End
  NoInput : End
  BadInput : (number : ℕ) → End
  Spent : (at : ℕ) (store : List (List ℤ)) (taken : ℕ) → End

-- a value with the state behind it, or the end of the run
pub data Got (A : Type 0) : Type 0 where
  Value : (value : A) (st : State) → Got A
  Stop : (end : End) → Got A

abbrev pub Run : Type 0 → Type 0
Run A = State → Got A

-- ---- One after the other

abbrev pub give : {A : Type 0} → A → Run A
give v st = Value v st

abbrev pub after : {A B : Type 0} → Got A → (A → Run B) → Got B
after (Value v st) go = go v st
after (Stop e) go = Stop e

-- the first, and then what its value leads to
abbrev pub ◌>>=◌ : {A B : Type 0} → Run A → (A → Run B) → Run B
◌>>=◌ m go st = after (m st) go

abbrev pub ◌>>◌ : {A B : Type 0} → Run A → Run B → Run B
◌>>◌ m next st = after (m st) (λ _. next)

abbrev pub choose : {A : Type 0} → Bool → A → A → A
choose true a b = a
choose false a b = b

-- ---- Endings

abbrev pub stop : {A : Type 0} → End → Run A
stop e st = Stop e

abbrev pub fail : {A : Type 0} → ErrorKind → ℕ → Run A
fail kind at st = Stop (Error kind at st.taken)

-- out of turns at this offset
abbrev pub spent : {A : Type 0} → ℕ → Run A
spent at st = Stop (Spent at st.store st.taken)

abbrev pub with_turns : State → ℕ → State
with_turns st turns = record { store = st.store; taken = st.taken; turns = turns }

-- takes one turn, where one is left
abbrev pub turn : ℕ → Run (Unit {0})
turn at st = elim (st.turns) [ zero ↦ Stop (Spent at st.store st.taken) | suc left ↦ Value tt (with_turns st left) ]

-- ---- Objects

abbrev pub with_store : State → List (List ℤ) → State
with_store st store = record { store = store; taken = st.taken; turns = st.turns }

-- an element of an object; a scalar is element 0
pub record Element : Type 0 where
  pub object : ℕ
  pub index : ℕ

abbrev pub values_of : State → ℕ → List ℤ
values_of st object = slice_index_or st.store object []

abbrev pub read : Element → Run ℤ
read e st = Value (slice_index_or (values_of st e.object) e.index (pos 0)) st

-- all values of an object at once
abbrev pub store_all : ℕ → List ℤ → Run (Unit {0})
store_all object values st = Value tt (with_store st (slice_set st.store object values))

-- the value of an assignment is the one that was stored (C11 6.5.16 p3)
abbrev pub write : Element → ℤ → Run ℤ
write e v st = Value v (with_store st (slice_set st.store e.object (slice_set (values_of st e.object) e.index v)))

abbrev pub scalar : ℕ → Element
scalar object = record { object = object; index = 0 }

abbrev pub element : ℕ → ℕ → Element
element object index = record { object = object; index = index }

-- the element of this index, or the error at the `[` where the array has none (C11 6.5.6 p8)
abbrev pub located : ℕ → ℕ → ℕ → ℤ → Run Element
located at object count index =
    choose (int_le (pos 0) index && int_lt index (pos count)) (give (element object (unsigned_abs index))) (fail error.Index at)

-- values, and 0 for each element that is left, of so many elements (C11 6.7.9 p21)
abbrev pub padded : ℕ → List ℤ → List ℤ
padded count values = values ++ replicate (count - length values) (pos 0)

-- ---- Inputs

abbrev pub with_taken : State → ℕ → State
with_taken st taken = record { store = st.store; taken = taken; turns = st.turns }

abbrev pub drawn : Kind → Model → Option ℤ → Run ℤ
drawn kind model None st = Stop NoInput
drawn kind model (Some v) st = choose (is_in_range kind model v) (Value v (with_taken st (suc (st.taken)))) (Stop (BadInput st.taken))

-- the next input, which has to be a value of this kind
abbrev pub draw : List ℤ → Model → Kind → Run ℤ
draw inputs model kind st = drawn kind model (slice_get inputs st.taken) st

-- so many inputs, in their order
abbrev pub draw_all : List ℤ → Model → Kind → ℕ → Run (List ℤ)
draw_all inputs model kind zero = give []
draw_all inputs model kind (suc count) = do
  v ← draw inputs model kind
  vs ← draw_all inputs model kind count
  give (v ∷ vs)

-- ---- Operations

-- how a program computes: an operation in a kind, on two values, is a value or an error
abbrev pub Compute : Type 0
Compute = Op → Kind → ℤ → ℤ → Result ℤ ErrorKind

abbrev pub computed : ℕ → Result ℤ ErrorKind → Run ℤ
computed at (Ok v) = give v
computed at (Err kind) = fail kind at

abbrev pub is_true : ℤ → Bool
is_true v = not (is_zero v)
