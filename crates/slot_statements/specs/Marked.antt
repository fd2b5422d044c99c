-- Places that are jumped to, without where they lie in memory, and labels by their names.
use Rattle.std.specs.Prelude.{◌≡◌, ℕ, List, map, bytes_eq}
use Rattle.std.specs.Borrow.{Bor}
use Rattle.std.specs.HashMap.{HashMap, get_by}
use Rattle.slot_code.specs.Statements as c
use Rattle.slot_statements.specs.declared.marks.Name.{Name}
use Rattle.slot_statements.specs.declared.marks.Name.TheVariants as nm
use Rattle.slot_statements.specs.declared.marks.Mark.{Mark}

abbrev pub name_of : Name → c.Name
name_of (nm.Label l) = c.aLabel l.now
name_of (nm.Case v) = c.aCase v
name_of nm.Default = c.aDefault

abbrev pub mark_of : Mark → c.Mark
mark_of m = record { name = name_of m.name; place = m.place }

abbrev pub marks_of : List Mark → List c.Mark
marks_of ms = map mark_of ms

-- the map has the place of the first label of each name
abbrev pub IsFound : {S : Type 0} → List c.Mark → HashMap (Bor (List ℕ)) ℕ S → Type 0
IsFound marks places = (name : List ℕ) → get_by (λ k. bytes_eq name k.now) places ≡ c.label_in name marks
