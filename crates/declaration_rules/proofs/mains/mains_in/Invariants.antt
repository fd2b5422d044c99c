use Rattle.std.proofs.Common.{◌≡◌, take}
use Rattle.c_tree.specs.View.{items_of}
use Rattle.type_scopes.specs.Seen.{env_of}
use Rattle.declaration_rules.specs.Mains as m
use Rattle.declaration_rules.proofs.mains.mains_in.Given as goal

-- what those so far break
abbrev pub invariant-loop-item : goal.invariant-loop-item
invariant-loop-item l = m.some_found l.all ≡ m.mains_in (env_of l.env) (items_of (take l.item-index l.items))
