-- What reading a run file means, each law named by a public contract.
use Rattle.std.specs.Prelude.{ℕ, ◌+◌, ◌≡◌, ◌<◌, ◌≤◌, ◌⊎◌, ◌↔◌, List, [], ◌∷◌, ◌++◌, length, take, ℤ, Ok, Err}
use Rattle.stored_text.specs.declared.StoredFail.TheVariants.{Format, Over}
use Rattle.stored_text.specs.RunText.{Spells, GoesOn, AreShort, run_text}
use Rattle.stored_text.specs.Reading.{read_run_of}
use Rattle.stored_text.specs.Writing.{write_run_of}

-- a file is read to some values exactly where it is their run text and they are at most a million; so it has one reading
abbrev pub RunTextIsRead : Type 0
RunTextIsRead = (file : List ℕ) (values : List ℤ) → (read_run_of file ≡ Ok values) ↔ (Spells values file × (length values ≤ 1000000))

-- a file is refused at the first byte with which no run text goes on, or at its end, where it is none
abbrev pub RefusedAtTheFirstByte : Type 0
RefusedAtTheFirstByte =
    (file : List ℕ) (n : ℕ) → read_run_of file ≡ Err (Format n)
    → (length file ≤ 22000006) × (n ≤ length file) × GoesOn (take n file)
    × (n < length file → GoesOn (take (n + 1) file) → ⊥)
    × (n ≡ length file → (values : List ℤ) → Spells values file → ⊥)

-- a million values stand in the file, and behind them the first byte of a line more
abbrev pub HasOneMore : List ℕ → Type 0
HasOneMore file =
    (values : List ℤ) × (b : ℕ) × (rest : List ℕ) × (file ≡ run_text values ++ b ∷ rest) × AreShort values × (1000000 ≤ length values) × GoesOn (run_text values ++ b ∷ [])

-- the limit is passed exactly by a file of more than 22,000,006 bytes, and by the first byte of the line of one value more in one that is no longer
abbrev pub OverIsNamed : Type 0
OverIsNamed =
    (file : List ℕ) (number count : ℕ) → (read_run_of file ≡ Err (Over number count))
    ↔ ((number ≡ 9) × (((22000006 < length file) × (count ≡ 22000007)) ⊎ ((length file ≤ 22000006) × (count ≡ 1000001) × HasOneMore file)))

-- what is written of values is read back as these values
abbrev pub WrittenIsRead : Type 0
WrittenIsRead = (values : List ℤ) (file : List ℕ) → AreShort values → write_run_of values ≡ Ok file → read_run_of file ≡ Ok values
