-- In which bucket a name stands.
use Rattle.std.specs.Prelude.{ℕ, ◌+◌, ◌*◌, ◌%◌, Bool, if◌then◌else◌, List, [], ◌∷◌}

-- with one byte more
abbrev pub turned : ℕ → ℕ → ℕ
turned at byte = (at * 257 + byte) % 65521

abbrev pub turned_by : ℕ → List ℕ → ℕ
turned_by at [] = at
turned_by at (byte ∷ bytes) = turned_by (turned at byte) bytes

-- Tags, which have a name space of their own, stand in buckets of their own.
abbrev pub begin : Bool → ℕ
begin tag = if tag then 1 else 0

abbrev pub bucket : Bool → List ℕ → ℕ
bucket tag name = turned_by (begin tag) name
