-- Counts of failures, which never fall.
use Rattle.std.specs.Prelude.{ℕ, ◌+◌, ◌≡◌, ◌<◌, ◌⊎◌, min, Bool, true, false}

-- a count of 64 bits rose, or stands at its greatest value
abbrev pub Rose : ℕ → ℕ → Type 0
Rose before after = (before < after) ⊎ (after ≡ 18446744073709551615)

-- the count after one failure more: by one greater, or at its greatest value
abbrev pub raised : ℕ → ℕ
raised count = min (count + 1) 18446744073709551615

-- the count after a call, by whether it failed
abbrev pub counted : Bool → ℕ → ℕ
counted true count = raised count
counted false count = count
