use Rattle.std.proofs.Common.{◌≡◌, ◌≤◌, take}
use Rattle.c_tree.specs.View.{items_of}
use Rattle.c_meaning.specs.Scope.{count_bodies}
use Rattle.name_bindings.specs.Bound as bd
use Rattle.type_scopes.specs.Seen.{env_of}
use Rattle.source_bindings.proofs.items.bind_items.Given as goal

-- those so far are bound, and the functions with a body among them are counted
abbrev pub invariant-loop-item : goal.invariant-loop-item
invariant-loop-item l =
    (env_of l.env ≡ bd.items l.model (env_of l.initial.env) (items_of (take l.item-index l.items)))
    × (l.number ≡ count_bodies (items_of (take l.item-index l.items)))
    × (l.number ≤ l.item-index)
