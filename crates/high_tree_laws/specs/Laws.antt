-- Trees that are higher than the limit.
use Rattle.std.specs.Prelude.{◌≡◌, ◌≢◌, ℕ, ◌<◌, ◌≤◌, List}
use Rattle.c_tree.specs.declared.symbol.SymbolAt.{SymbolAt}
use Rattle.c_tree.specs.Tree.{Items}
use Rattle.c_tree.specs.Height.{height_items}
use Rattle.c_tree.specs.Shape.{ShapedItems}
use Rattle.c_tree.specs.Denotes.{IsSpelled, Begins, spelling}
use Rattle.parse_machine.specs.Machine.{Result, Tree, TooHigh, Going, Over, start, run, parse_of}

-- A shaped tree that is higher than 200 is answered by the limit on the height.
abbrev pub IsTooHigh : Type 0
IsTooHigh = (tree : Items) → ShapedItems tree → 200 < height_items tree → (end : ℕ) → parse_of (spelling tree end) ≡ TooHigh

-- A fault comes only where no shaped tree, of whatever height, begins with the tokens up to it.
abbrev pub FaultsRightly : Type 0
FaultsRightly = (tokens : List SymbolAt) (answer : Result) → run tokens (Going start) ≡ Over answer → answer ≢ TooHigh → Begins tokens → ⊥

-- A tree that is answered is at most 200 high, and no other shaped tree, of whatever height, has its tokens.
abbrev pub IsTheOnly : Type 0
IsTheOnly = (tokens : List SymbolAt) (tree : Items) → parse_of tokens ≡ Tree tree → (height_items tree ≤ 200) × ((other : Items) → IsSpelled tokens other → other ≡ tree)
