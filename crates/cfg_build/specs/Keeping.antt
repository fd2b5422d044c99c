-- Where instructions go on, and which slot they fill: within the code and the slots of their function.
use Rattle.std.specs.Prelude.{ℕ, ◌+◌, ◌==◌, nat_le, nat_lt, Bool, true, ◌&&◌, Option, None, Some}
use Rattle.slot_code.specs.declared.flat.Instruction.{Instruction}
use Rattle.slot_code.specs.declared.flat.Instruction.TheVariants as i
use Rattle.cfg_build.specs.declared.placing.Range.{Range}

-- the place is one of the function's code
abbrev pub is_inside : Range → ℕ → Bool
is_inside r place = nat_le r.entry place && nat_lt place r.end

-- The instruction goes on in its function's code alone; a return is by the function's own slot, and stands last.
abbrev pub stays : Range → ℕ → Instruction → Bool
stays r place (i.Fail kind at) = true
stays r place i.Stop = true
stays r place (i.Return slot) = (slot == r.slot) && (place + 1 == r.end)
stays r place (i.Jump skip) = is_inside r (place + 1 + skip)
stays r place (i.Turn at goal) = is_inside r goal
stays r place (i.SkipZero slot skip) = is_inside r (place + 1) && is_inside r (place + 1 + skip)
stays r place (i.SkipEqual slot v skip) = is_inside r (place + 1) && is_inside r (place + 1 + skip)
stays r place x = is_inside r (place + 1)

-- the slot that gets a value; that of a call, which gets the place to return to, is none of them
abbrev pub filled_by : Instruction → Option ℕ
filled_by (i.Constant slot v) = Some slot
filled_by (i.Read slot object) = Some slot
filled_by (i.Element slot at object count) = Some slot
filled_by (i.Locate slot at object count) = Some slot
filled_by (i.Load slot object) = Some (slot + 1)
filled_by (i.Store slot object) = Some slot
filled_by (i.Convert slot k) = Some slot
filled_by (i.Negate slot k at) = Some slot
filled_by (i.Complement slot k at) = Some slot
filled_by (i.Not slot) = Some slot
filled_by (i.Truth slot) = Some slot
filled_by (i.Binary slot o k at) = Some slot
filled_by (i.Update slot o k l at object) = Some slot
filled_by (i.Change slot before by k at object) = Some slot
filled_by (i.Draw slot k) = Some slot
filled_by (i.Take slot at from needed) = Some slot
filled_by _ = None

-- a slot of the function, which is not the one by which it returns
abbrev pub is_own : Range → Option ℕ → Bool
is_own r None = true
is_own r (Some slot) = nat_lt r.slot slot && nat_lt slot r.bound

abbrev pub keeps : Range → ℕ → Instruction → Bool
keeps r place x = stays r place x && is_own r (filled_by x)
