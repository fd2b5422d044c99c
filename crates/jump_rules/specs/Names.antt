-- Labels by their names.
use Rattle.std.specs.Prelude.{◌≡◌, ℕ, zero, suc, ◌<◌, Bool, if◌then◌else◌, List, [], length, map, Option, None, Some, slice_index_or, bytes_eq}
use Rattle.std.specs.Borrow.{Bor}
use Rattle.std.specs.HashMap.{HashMap, get_by}
use Rattle.c_typed.specs.Rules as r

abbrev pub names_of : List r.Jump → List (List ℕ)
names_of ls = map (λ l. l.name) ls

abbrev pub name_at : List (List ℕ) → ℕ → List ℕ
name_at names i = slice_index_or names i []

-- the last name below this number that is the same
abbrev pub last_below : List (List ℕ) → List ℕ → ℕ → Option ℕ
last_below names name zero = None
last_below names name (suc m) = if bytes_eq name (name_at names m) then Some m else last_below names name m

-- the map has the last number of each of the first names
abbrev pub IsLast : {S : Type 0} → List (List ℕ) → ℕ → HashMap (Bor (List ℕ)) ℕ S → Type 0
IsLast names m last = (name : List ℕ) → get_by (λ k. bytes_eq name k.now) last ≡ last_below names name m

-- behind each of the first names stands the last number before it of the same name
abbrev pub AreBefore : List (List ℕ) → ℕ → List (Option ℕ) → Type 0
AreBefore names m before = (i : ℕ) → i < m → slice_index_or before i None ≡ last_below names (name_at names i) i
