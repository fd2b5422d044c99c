-- How the link whose code begins at a place is found.
use Rattle.std.specs.Prelude.{ℕ, ◌≡◌, ◌<◌, List, Some, slice_get}
use Rattle.slot_code.specs.declared.flat.Instruction.{Instruction}
use Rattle.slot_code.specs.declared.flat.Instruction.TheVariants as i
use Rattle.slot_values.specs.declared.scene.Link.{Link}

-- at the place stands the number of a link whose code begins there
pub record BeginsAt (links : List Link) (numbers : List ℕ) (place : ℕ) : Type 0 where
  pub number : ℕ
  pub link : Link
  pub named : slice_get numbers place ≡ Some number
  pub there : slice_get links number ≡ Some link
  pub entry : link.entry ≡ place

-- so it is for each link whose code begins at one of the first so many places
abbrev pub AreBeginnings : List Link → ℕ → List ℕ → Type 0
AreBeginnings links places numbers = (n : ℕ) (x : Link) → slice_get links n ≡ Some x → x.entry < places → BeginsAt links numbers x.entry

-- the code of each link begins below this place
abbrev pub StandBelow : ℕ → List Link → Type 0
StandBelow end links = (n : ℕ) (x : Link) → slice_get links n ≡ Some x → x.entry < end

-- a call's goal is such a place
abbrev pub FindsEntry : List Link → List ℕ → Instruction → Type 0
FindsEntry links numbers (i.Call at goal slot) = BeginsAt links numbers goal
FindsEntry links numbers _ = Unit {0}

-- so it is of each instruction
abbrev pub FindsEntries : List Link → List ℕ → List Instruction → Type 0
FindsEntries links numbers code = (place : ℕ) (x : Instruction) → slice_get code place ≡ Some x → FindsEntry links numbers x
