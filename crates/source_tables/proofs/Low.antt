-- A tree that is answered is low enough to be measured.
use Rattle.std.proofs.Common.{◌≡◌, ◌<◌, ◌≤◌, ◌^◌, List, arith}
use Rattle.c_tree.specs.declared.symbol.SymbolAt.{SymbolAt}
use Rattle.c_tree.specs.Tree.{Items}
use Rattle.c_tree.specs.Height.{height_items}
use Rattle.parse_machine.specs.Machine.{Tree, parse_of}
use Rattle.high_tree_laws.specs.Laws.{IsTheOnly}

pub low_tree : IsTheOnly → (tokens : List SymbolAt) (tree : Items) → parse_of tokens ≡ Tree tree → height_items tree < 2 ^ 32
low_tree law tokens tree e = let h : height_items tree ≤ 200 = (law tokens tree e).0 in omega (arith, h)
