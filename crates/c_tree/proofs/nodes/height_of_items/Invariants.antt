use Rattle.std.proofs.Common.{◌≡◌, max, drop}
use Rattle.c_tree.specs.Highest as most
use Rattle.c_tree.proofs.nodes.height_of_items.Given as goal

-- the greatest so far and that of what is left
abbrev pub invariant-loop-item : goal.invariant-loop-item
invariant-loop-item l = max l.height (most.highest most.item_height (drop l.item-index l.items)) ≡ most.highest most.item_height l.items
