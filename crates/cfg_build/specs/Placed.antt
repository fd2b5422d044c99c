-- What a function's places need, so that each has its node.
use Rattle.std.specs.Prelude.{ℕ, ◌+◌, ◌-◌, ◌≡◌, ◌<◌, true, None, Some, slice_get, take, drop}
use Rattle.slot_code.specs.declared.flat.Instruction.{Instruction}
use Rattle.slot_code.specs.declared.flat.Instruction.TheVariants as i
use Rattle.code_layout.specs.Layout.{Lay, slot_cell}
use Rattle.cfg_build.specs.declared.placing.Range.{Range}
use Rattle.cfg_build.specs.declared.placing.Whole.{Whole}
use Rattle.cfg_build.specs.declared.placing.Places.{Places}
use Rattle.cfg_build.specs.Steps.{node_id}
use Rattle.cfg_build.specs.Keeping.{keeps}
use Rattle.cfg_build.specs.Follows.{Begins}
use Rattle.cfg_build.specs.Sizes.{nodes_of}
use Rattle.cfg_build.specs.Numbers.{first_number, last_number}

-- the place at which a function begins is known as one of its code; it returns by the slot, which no instruction reads
pub record IsCalled (w : Whole) (lay : Lay) (caller : Range) (place slot : ℕ) : Type 0 where
  pub function : ℕ
  pub begins : Begins w.ranges.now caller function place slot
  pub owner : slice_get w.owners.now place ≡ Some function
  pub unread : slot_cell lay slot ≡ None

-- a call is of such a function
abbrev pub CanCall : Whole → Lay → Range → Instruction → Type 0
CanCall w lay range (i.Call at goal slot) = IsCalled w lay range goal slot
CanCall w lay range _ = Unit {0}

-- the instruction at a place, whose node has this number
pub record CanStand (p : Places) (lay : Lay) (place n : ℕ) (x : Instruction) : Type 0 where
  pub there : slice_get p.whole.code.now place ≡ Some x
  pub number : slice_get p.whole.numbers.now place ≡ Some n
  pub kept : keeps p.range place x ≡ true
  pub calls : CanCall p.whole lay p.range x

-- the first so many places have so many nodes
abbrev pub nodes_before : Places → ℕ → ℕ
nodes_before p k = nodes_of (take k (drop p.range.entry p.whole.code.now))

-- all places of a function, the first of which has this number, and its exit
pub record CanFollow (p : Places) (lay : Lay) (n : ℕ) : Type 0 where
  pub each : (k : ℕ) → k < p.range.end - p.range.entry → (x : Instruction) × CanStand p lay (p.range.entry + k) (n + nodes_before p k) x
  pub last : p.exit ≡ node_id (n + nodes_before p (p.range.end - p.range.entry))

-- the function of a range, with the node behind its places
abbrev pub places_in : Whole → ℕ → Range → Places
places_in w main range =
    record { whole = w; range = range; exit = node_id (last_number w.code.now (first_number main range.function) range.entry range.end) }

-- all functions
abbrev pub AllCanFollow : Whole → Lay → ℕ → Type 0
AllCanFollow w lay main = (k : ℕ) (range : Range) → slice_get w.ranges.now k ≡ Some range → CanFollow (places_in w main range) lay (first_number main range.function)
