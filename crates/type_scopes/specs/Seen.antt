-- Declarations, without where they lie in memory.
use Rattle.std.specs.Prelude.{suc, map}
use Rattle.type_scopes.specs.declared.entries.Scope.{Scope}
use Rattle.type_scopes.specs.declared.entries.Scope.TheVariants as sc
use Rattle.type_scopes.specs.declared.entries.What.{What}
use Rattle.type_scopes.specs.declared.entries.What.TheVariants as w
use Rattle.type_scopes.specs.declared.entries.Entity.{Entity}
use Rattle.type_scopes.specs.declared.entries.Entity.TheVariants as en
use Rattle.type_scopes.specs.declared.entries.Entry.{Entry}
use Rattle.type_scopes.specs.declared.entries.Object.{Object}
use Rattle.type_scopes.specs.declared.entries.Env.{Env}
use Rattle.c_tree.specs.View.{words_of, form_of, initial_of, parameters_of, enumerators_of}
use Rattle.c_meaning.specs.Scope as s
use Rattle.c_meaning.specs.Bindings as b

abbrev pub scope_of : Scope → s.Scope
scope_of sc.File = s.file
scope_of (sc.Block first last) = s.block first last
scope_of (sc.Behind before last) = s.block (suc before) last

abbrev pub what_of : What → s.What
what_of (w.Object ws f i) = s.anObject (words_of ws.now) (form_of f.now) (initial_of i.now)
what_of (w.Parameter ws) = s.aParameter (words_of ws.now)
what_of (w.Function ws ps body) = s.aFunction (words_of ws.now) (parameters_of ps.now) body
what_of (w.Typedef ws) = s.aTypedef (words_of ws.now)
what_of (w.Constant es) = s.anEnumerator (enumerators_of es.now)
what_of (w.Tag es) = s.aTag (enumerators_of es.now)
what_of (w.Name ws) = s.aName (words_of ws.now)

abbrev pub entity_of : Entity → b.Entity
entity_of (en.Object number) = b.anObjectOf number
entity_of (en.Function result parameters) = b.aFunctionOf result parameters.items
entity_of (en.Constant value) = b.aConstantOf value
entity_of (en.Typedef kind is_const) = b.aTypeOf kind is_const
entity_of (en.Tag kind) = b.aTagOf kind
entity_of (en.Name kind is_const) = b.aNameOf kind is_const

abbrev pub declared_of : Entry → s.Declared
declared_of e = record { name = e.name.now; at = e.at; from = e.from; scope = scope_of e.scope; owner = e.owner; what = what_of e.what }

abbrev pub entry_of : Entry → b.Entry
entry_of e = record { declared = declared_of e; entity = entity_of e.entity }

abbrev pub object_of : Object → b.Object
object_of o = record { name = o.name.now; at = o.at; kind = o.kind; length = o.length; is_const = o.is_const; owner = o.owner }

abbrev pub env_of : Env → b.Env
env_of env = record { entries = map entry_of env.entries; objects = map object_of env.objects.items }
