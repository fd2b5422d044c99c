-- The laws of the machine that reads the tokens of a source.
use Rattle.std.specs.Prelude.{◌≡◌, ℕ, ◌≤◌, List}
use Rattle.c_tree.specs.declared.symbol.SymbolAt.{SymbolAt}
use Rattle.c_tree.specs.Tree.{Items}
use Rattle.c_tree.specs.Height.{height_items}
use Rattle.c_tree.specs.Shape.{ShapedItems}
use Rattle.c_tree.specs.Denotes.{IsSpelled, BeginsWithin, spelling}
use Rattle.parse_machine.specs.Machine.{Result, Tree, Going, Over, start, run, parse_of}

-- A tree that the machine answers is shaped, and its tokens are those that were read.
abbrev pub IsSound : Type 0
IsSound = (tokens : List SymbolAt) (tree : Items) → parse_of tokens ≡ Tree tree → IsSpelled tokens tree

-- Each shaped tree of height at most 200 is answered for its tokens.
abbrev pub IsComplete : Type 0
IsComplete = (tree : Items) → ShapedItems tree → height_items tree ≤ 200 → (end : ℕ) → parse_of (spelling tree end) ≡ Tree tree

-- Two shaped trees of height at most 200 with the same tokens are equal.
abbrev pub IsUnique : Type 0
IsUnique = (tokens : List SymbolAt) (a b : Items) → IsSpelled tokens a → IsSpelled tokens b → height_items a ≤ 200 → height_items b ≤ 200 → a ≡ b

-- The machine stops before the end, at a fault or at the limit on the height, only where no shaped tree of height at
-- most 200 begins with the tokens so far.
abbrev pub StopsRightly : Type 0
StopsRightly = (tokens : List SymbolAt) (answer : Result) → run tokens (Going start) ≡ Over answer → BeginsWithin 200 tokens → ⊥
