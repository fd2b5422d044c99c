-- Where a name is declared.
use Rattle.name_entries.specs.declared.places.Region.{Region}
use Rattle.name_entries.specs.declared.places.Named.{Named}
use Rattle.type_scopes.specs.Seen.{scope_of}
use Rattle.c_meaning.specs.Scope as s

abbrev pub declared_by : Region → Named → s.What → s.Declared
declared_by r n what = s.declared (scope_of r.scope) r.owner n.name.now n.at n.behind what
