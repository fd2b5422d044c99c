-- Slots: places for values, by number. Each is 0 until it is written.
use Rattle.std.specs.Prelude.{ℕ, zero, suc, ◌+◌, max, List, [], ◌∷◌, slice_index_or, ℤ, pos}
use Rattle.slot_code.specs.declared.flat.Instruction.{Instruction}
use Rattle.slot_code.specs.declared.flat.Instruction.TheVariants as i

abbrev pub get : List ℤ → ℕ → ℤ
get slots slot = slice_index_or slots slot (pos 0)

abbrev pub put : List ℤ → ℕ → ℤ → List ℤ
put [] zero v = v ∷ []
put [] (suc slot) v = pos 0 ∷ put [] slot v
put (x ∷ xs) zero v = v ∷ xs
put (x ∷ xs) (suc slot) v = x ∷ put xs slot v

-- what becomes of the values of so many slots from one on
abbrev pub slots_through : (ℤ → ℤ) → List ℤ → ℕ → ℕ → List ℤ
slots_through f slots slot zero = []
slots_through f slots slot (suc count) = f (get slots slot) ∷ slots_through f slots (suc slot) count

-- these values
abbrev pub slots_from : List ℤ → ℕ → ℕ → List ℤ
slots_from slots slot count = slots_through (λ v. v) slots slot count

-- Slots below this number hold all that an instruction writes.
abbrev pub slots_of : Instruction → ℕ
slots_of (i.Constant slot v) = suc slot
slots_of (i.Read slot object) = suc slot
slots_of (i.Element slot at object count) = suc slot
slots_of (i.Locate slot at object count) = suc slot
slots_of (i.Load slot object) = suc (suc slot)
slots_of (i.Store slot object) = suc (suc slot)
slots_of (i.Convert slot k) = suc slot
slots_of (i.Negate slot k at) = suc slot
slots_of (i.Complement slot k at) = suc slot
slots_of (i.Not slot) = suc slot
slots_of (i.Truth slot) = suc slot
slots_of (i.Binary slot o k at) = suc (suc slot)
slots_of (i.Update slot o k l at object) = suc (suc (suc slot))
slots_of (i.Change slot before by k at object) = suc slot
slots_of (i.Draw slot k) = suc slot
slots_of (i.Begin slot object count values) = slot + values
slots_of (i.Bind slot object) = suc slot
slots_of (i.SkipZero slot skip) = suc slot
slots_of (i.SkipEqual slot v skip) = suc slot
slots_of (i.Call at place slot) = suc slot
slots_of (i.Take slot at from needed) = max (suc slot) (suc (suc (suc from)))
slots_of (i.Return slot) = suc slot
slots_of _ = 0

-- so many slots does a list of instructions need
abbrev pub slots_in : List Instruction → ℕ
slots_in [] = 0
slots_in (x ∷ xs) = max (slots_of x) (slots_in xs)
