use Rattle.std.specs.Prelude.{◌≡◌, ℕ, ◌<◌, true, List}
use Rattle.prop.specs.Trues.{listed}

-- all numbers of the list are below n
abbrev pub AreBelow : ℕ → List ℕ → Type 0
AreBelow n xs = (q : ℕ) → listed xs q ≡ true → q < n
