-- What a look-up finds.
use Rattle.std.specs.Prelude.{Option, None, Some}
use Rattle.type_scopes.specs.declared.entries.Entity.{Entity}
use Rattle.type_scopes.specs.declared.entries.Entry.{Entry}
use Rattle.type_scopes.specs.Seen.{entry_of, entity_of}
use Rattle.c_tree.specs.declared.tree.Initial.{Initial}
use Rattle.c_tree.specs.Tree as t
use Rattle.c_tree.specs.View as v
use Rattle.c_meaning.specs.Bindings as b

abbrev pub some_entry : Option Entry → Option b.Entry
some_entry None = None
some_entry (Some e) = Some (entry_of e)

-- a name that nothing declares stands for nothing
abbrev pub some_entity : Option Entity → b.Entity
some_entity None = b.nothingOf
some_entity (Some e) = entity_of e

-- an initial value, which may be left out
abbrev pub some_initial : Option Initial → t.Initial
some_initial None = t.iNothing
some_initial (Some i) = v.initial_of i
