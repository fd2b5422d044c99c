-- Which slots instructions read.
use Rattle.std.specs.Prelude.{ℕ, zero, suc, ◌+◌, Bool, true, false, if◌then◌else◌, nat_lt, List, [], ◌∷◌, Option, None, Some, slice_get, slice_set}
use Rattle.c_typed.specs.declared.tree.Object.{Object}
use Rattle.slot_code.specs.declared.flat.Instruction.{Instruction}
use Rattle.slot_code.specs.declared.flat.Instruction.TheVariants as i
use Rattle.code_layout.specs.declared.reading.Span.{Span}

abbrev pub span : ℕ → ℕ → Span
span first count = record { first = first; count = count }

-- whether the object is an array
abbrev pub is_array_at : Option Object → Bool
is_array_at None = false
is_array_at (Some o) = nat_lt 0 o.length

abbrev pub is_array : List Object → ℕ → Bool
is_array objects object = is_array_at (slice_get objects object)

-- the index of an element, and so many slots behind it; of a scalar there is no index
abbrev pub on_element : List Object → (object slot count : ℕ) → Span
on_element objects object slot count = if is_array objects object then span slot (count + 1) else span (slot + 1) count

-- the slots that an instruction reads
abbrev pub reads : List Object → Instruction → Span
reads objects (i.Constant slot v) = span 0 0
reads objects (i.Read slot object) = span 0 0
reads objects (i.Element slot at object count) = span slot 1
reads objects (i.Locate slot at object count) = span slot 1
reads objects (i.Load slot object) = on_element objects object slot 0
reads objects (i.Store slot object) = on_element objects object slot 1
reads objects (i.Convert slot k) = span slot 1
reads objects (i.Negate slot k at) = span slot 1
reads objects (i.Complement slot k at) = span slot 1
reads objects (i.Not slot) = span slot 1
reads objects (i.Truth slot) = span slot 1
reads objects (i.Binary slot o k at) = span slot 2
reads objects (i.Update slot o k l at object) = on_element objects object slot 2
reads objects (i.Change slot before by k at object) = on_element objects object slot 0
reads objects (i.Draw slot k) = span 0 0
reads objects (i.Fill object k count) = span 0 0
reads objects (i.Begin slot object count values) = span slot values
reads objects (i.Bind slot object) = span slot 1
reads objects (i.Jump skip) = span 0 0
reads objects (i.Turn at goal) = span 0 0
reads objects (i.SkipZero slot skip) = span slot 1
reads objects (i.SkipEqual slot v skip) = span slot 1
reads objects (i.Call at goal slot) = span 0 0
reads objects (i.Return slot) = span 0 0
reads objects (i.Take slot at from needed) = span (from + 1) 2
reads objects (i.Fail kind at) = span 0 0
reads objects i.Stop = span 0 0

-- ---- Marks of slots that are read

-- with marks for the first so many slots of a span
abbrev pub marked : List Bool → ℕ → ℕ → List Bool
marked read first zero = read
marked read first (suc n) = slice_set (marked read first n) (first + n) true

-- behind the marks of this code
abbrev pub marks_behind : List Object → List Bool → List Instruction → List Bool
marks_behind objects read [] = read
marks_behind objects read (x ∷ xs) = marks_behind objects (marked read (reads objects x).first (reads objects x).count) xs
