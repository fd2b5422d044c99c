-- Where all turns at an offset of flat code go.
use Rattle.std.specs.Prelude.{ℕ, zero, suc, nat_eq, ◌≡◌, List, length, Option, None, Some, if◌then◌else◌, slice_get}
use Rattle.std.specs.HashMap.{HashMap, get}
use Rattle.slot_code.specs.declared.flat.Instruction.{Instruction}
use Rattle.slot_code.specs.declared.flat.Instruction.TheVariants as i
use Rattle.slot_turn_laws.specs.Turns.{NoCallAt}
use Rattle.loop_turns.specs.declared.goals.Standing.{Standing}
use Rattle.loop_turns.specs.declared.goals.Standing.TheVariants.{To, Mixed}

-- all turns of the code at this offset go to one place
abbrev pub AllTurnTo : List Instruction → (at goal : ℕ) → Type 0
AllTurnTo code at goal = (place other : ℕ) → slice_get code place ≡ Some (i.Turn at other) → other ≡ goal

-- so they do, and no call stands at the offset
pub record OnlyTurn (code : List Instruction) (at goal : ℕ) : Type 0 where
  pub all : AllTurnTo code at goal
  pub uncalled : NoCallAt code at

-- the offset and the place of a turn
abbrev pub turn_of : Instruction → Option (ℕ × ℕ)
turn_of (i.Turn at goal) = Some (at, goal)
turn_of _ = None

-- the offset of a call
abbrev pub call_of : Instruction → Option ℕ
call_of (i.Call at goal slot) = Some at
call_of _ = None

-- what stands at an offset with one turn more, to this place
abbrev pub turned : ℕ → Option Standing → Standing
turned goal None = To goal
turned goal (Some (To other)) = if nat_eq other goal then To goal else Mixed
turned goal (Some Mixed) = Mixed

-- with what may be a turn, and with what may be a call
abbrev pub with_turn : ℕ → Option (ℕ × ℕ) → Option Standing → Option Standing
with_turn offset None o = o
with_turn offset (Some t) o = if nat_eq t.0 offset then Some (turned t.1 o) else o

abbrev pub with_call : ℕ → Option ℕ → Option Standing → Option Standing
with_call offset None o = o
with_call offset (Some at) o = if nat_eq at offset then Some Mixed else o

-- what stands at an offset with one instruction more
abbrev pub stands_with : ℕ → Instruction → Option Standing → Option Standing
stands_with offset x o = with_call offset (call_of x) (with_turn offset (turn_of x) o)

abbrev pub stands_by : ℕ → Option Instruction → Option Standing → Option Standing
stands_by offset None o = o
stands_by offset (Some x) o = stands_with offset x o

-- what stands at an offset among the first so many instructions
abbrev pub stands_at : ℕ → List Instruction → ℕ → Option Standing
stands_at offset code zero = None
stands_at offset code (suc n) = stands_by offset (slice_get code n) (stands_at offset code n)

-- the one place to which turns go
abbrev pub only_goal : Option Standing → Option ℕ
only_goal (Some (To goal)) = Some goal
only_goal _ = None

-- the map has what stands at each offset
abbrev pub AreStandings : {S : Type 0} → List Instruction → HashMap ℕ Standing S → Type 0
AreStandings code m = (offset : ℕ) → get nat_eq m offset ≡ stands_at offset code (length code)
