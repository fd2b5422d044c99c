-- How a run file is read, byte after byte.
use Rattle.std.specs.Prelude.{ℕ, ◌+◌, List, [], ◌∷◌, ◌++◌, length, drop, ◌==◌, nat_le, nat_lt, ◌&&◌, Bool, if◌then◌else◌, Option, Some, None, ℤ, Result, Ok, Err, codes}
use Rattle.stored_text.specs.declared.line.Line.{Line}
use Rattle.stored_text.specs.declared.line.Next.{Next}
use Rattle.stored_text.specs.declared.line.Next.TheVariants.{Refused, Full, Value, Part}
use Rattle.stored_text.specs.declared.StoredFail.{StoredFail}
use Rattle.stored_text.specs.declared.StoredFail.TheVariants.{Format, Over}
use Rattle.stored_text.specs.Line.{fresh_line, is_fresh, next_of}

abbrev pub Reading : Type 0
Reading = Result (List ℤ) StoredFail

-- a million whole lines, and nothing behind them
abbrev pub is_full : List ℤ → Line → Bool
is_full values line = is_fresh line && nat_le 1000000 (length values)

abbrev pub answered : ℕ → Next → (ℤ → Reading) → (Line → Reading) → Reading
answered at Refused f g = Err (Format at)
answered at Full f g = Err (Over 9 1000001)
answered at (Value v) f g = f v
answered at (Part line) f g = g line

-- what the bytes from an offset on say, behind these values and this part of a line; one line more than a million passes
-- the limit at its first byte
abbrev pub read_from : List ℤ → Line → ℕ → List ℕ → Reading
read_from values line at [] = if is_fresh line then Ok values else Err (Format at)
read_from values line at (b ∷ rest) =
    answered at (next_of (is_full values line) line b) (λ v. read_from (values ++ v ∷ []) fresh_line (at + 1) rest) (λ next. read_from values next (at + 1) rest)

abbrev pub head_line : List ℕ
head_line = codes "run 1" ++ 10 ∷ []

-- where the first bytes are not those of the first line
abbrev pub head_fault : List ℕ → ℕ → List ℕ → Option ℕ
head_fault [] at bytes = None
head_fault (h ∷ hs) at [] = Some at
head_fault (h ∷ hs) at (b ∷ rest) = if b == h then head_fault hs (at + 1) rest else Some at

abbrev pub read_behind : Option ℕ → List ℕ → Reading
read_behind (Some at) bytes = Err (Format at)
read_behind None bytes = read_from [] fresh_line 6 (drop 6 bytes)

abbrev pub read_run_of : List ℕ → Reading
read_run_of bytes = if nat_lt 22000006 (length bytes) then Err (Over 9 22000007) else read_behind (head_fault head_line 0 bytes) bytes
