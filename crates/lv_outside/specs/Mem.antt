-- Files in memory, under names.
use Rattle.std.specs.Prelude.{ℕ, zero, suc, List, [], ◌∷◌, ◌≡◌, ◌≢◌, ◌==◌, Bool, if◌then◌else◌, Vec}
use Rattle.std.specs.List.{list_any}
use Rattle.std.specs.Str.{bytes_eq}
use Rattle.std.specs.declared.alloc.Global.{Global}

-- names with their files
abbrev pub Files : Type 0
Files = List (List ℕ × Vec ℕ Global)

-- the file of a name is that of its first entry, none where there is no entry
abbrev pub file_of : Files → List ℕ → List ℕ
file_of [] name = []
file_of (f ∷ files) name = if bytes_eq f.0 name then f.1.items else file_of files name

abbrev pub has_name : Files → List ℕ → Bool
has_name files name = list_any (λ f. bytes_eq f.0 name) files

-- the number of a call is among those that fail
abbrev pub is_listed : List ℕ → ℕ → Bool
is_listed fails call = list_any (λ f. f == call) fails

-- the first entry of a name stands at this index
abbrev pub IsPlaceOf : List ℕ → Files → ℕ → Type 0
IsPlaceOf name [] at = ⊥
IsPlaceOf name (f ∷ files) zero = f.0 ≡ name
IsPlaceOf name (f ∷ files) (suc at) = (f.0 ≢ name) × IsPlaceOf name files at

-- no entry has this name
abbrev pub HasNoName : List ℕ → Files → Type 0
HasNoName name [] = Unit {0}
HasNoName name (f ∷ files) = (f.0 ≢ name) × HasNoName name files

abbrev pub NamesDiffer : Files → Type 0
NamesDiffer [] = Unit {0}
NamesDiffer (f ∷ files) = HasNoName f.0 files × NamesDiffer files
