-- What the graphs of a program's functions depend on.
use Rattle.std.specs.Prelude.{ℕ, ◌≡◌, List}
use Rattle.c_typed.specs.Parts.{Parts, tree_of}
use Rattle.cfg_build.specs.Built.{built}

-- on the typed tree and the order of the functions alone, wherever the tree lies in memory
abbrev pub GraphsAreOfTrees : Type 0
GraphsAreOfTrees = (t u : Parts) (order : List ℕ) → tree_of t ≡ tree_of u → built t order ≡ built u order
