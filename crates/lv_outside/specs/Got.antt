-- What a read gives, and whether a call failed.
use Rattle.std.specs.Prelude.{ℕ, List, length, ◌≡◌, ◌<◌, ◌≤◌, Bool, true, false, Result, Ok, Err}
use Rattle.lv_outside.specs.declared.folder.Got.{Got}
use Rattle.lv_outside.specs.declared.folder.Got.TheVariants.{Bytes, Longer}
use Rattle.lv_outside.specs.declared.folder.FileFail.{FileFail}
use Rattle.lv_outside.specs.declared.folder.FileFail.TheVariants.{Failed, Memory}

-- no more bytes than were asked for
abbrev pub IsAtMost : ℕ → Got → Type 0
IsAtMost most (Bytes b) = length b.items ≤ most
IsAtMost most Longer = Unit {0}

-- what a read of this file gives, where at most so many bytes are asked for
abbrev pub IsRead : ℕ → List ℕ → Got → Type 0
IsRead most file (Bytes b) = (b.items ≡ file) × (length file ≤ most)
IsRead most file Longer = most < length file

-- the outside failed
abbrev pub is_failed : {A : Type 0} → Result A FileFail → Bool
is_failed (Ok x) = false
is_failed (Err Failed) = true
is_failed (Err Memory) = false
