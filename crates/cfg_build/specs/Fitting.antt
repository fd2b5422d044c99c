-- What holds of each instruction of a program's code, and of its calls.
use Rattle.std.specs.Prelude.{ℕ, ◌≡◌, ◌⊎◌, true, false, List, [], ◌∷◌, Some, slice_get}
use Rattle.lv_base.specs.declared.kind.Model.{Model}
use Rattle.lv_base.specs.Integers.{InAny, is_promoted}
use Rattle.c_run.specs.Operators.{is_logical}
use Rattle.c_typed.specs.Tree.{Object}
use Rattle.c_typed.specs.Run.{size_of, kind_of}
use Rattle.slot_code.specs.declared.flat.Instruction.{Instruction}
use Rattle.slot_code.specs.declared.flat.Instruction.TheVariants as i
use Rattle.slot_code.specs.Values.{Link}

-- Constants are of some kind, operations are in promoted kinds, an index is tested against the elements of its object, and what is
-- drawn or computed for an object is of its kind.
abbrev pub IsFit : Model → List Object → Instruction → Type 0
IsFit model objects (i.Constant slot v) = InAny v
IsFit model objects (i.Element slot at object count) = count ≡ size_of (slice_get objects object)
IsFit model objects (i.Locate slot at object count) = count ≡ size_of (slice_get objects object)
IsFit model objects (i.Negate slot k at) = is_promoted k ≡ true
IsFit model objects (i.Complement slot k at) = is_promoted k ≡ true
IsFit model objects (i.Binary slot o k at) = (is_promoted k ≡ true) × (is_logical o ≡ false)
IsFit model objects (i.Update slot o k l at object) = (is_promoted k ≡ true) × (is_logical o ≡ false) × (l ≡ kind_of (slice_get objects object))
IsFit model objects (i.Change slot before by k at object) = k ≡ kind_of (slice_get objects object)
IsFit model objects (i.Fill object k count) = k ≡ kind_of (slice_get objects object)
IsFit model objects _ = Unit {0}

-- each instruction of the code
abbrev pub AreFit : Model → List Object → List Instruction → Type 0
AreFit model objects code = (place : ℕ) (x : Instruction) → slice_get code place ≡ Some x → IsFit model objects x

-- some function's code begins at the place
abbrev pub IsEntry : List Link → ℕ → Type 0
IsEntry [] place = ⊥
IsEntry (l ∷ ls) place = (l.entry ≡ place) ⊎ IsEntry ls place

-- a call goes to the entry of a function
abbrev pub Enters : List Link → Instruction → Type 0
Enters links (i.Call at goal slot) = IsEntry links goal
Enters links _ = Unit {0}

-- each call does
abbrev pub CallsEnter : List Link → List Instruction → Type 0
CallsEnter links code = (place at goal slot : ℕ) → slice_get code place ≡ Some (i.Call at goal slot) → IsEntry links goal
