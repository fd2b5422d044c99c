-- What the terms of instructions are made over, and what objects are among the cells.
use Rattle.std.specs.Prelude.{ℕ, ◌≡◌, nat_lt, List, Option, None, Some, slice_get, slice_index}
use Rattle.lv_base.specs.declared.kind.Model.{Model}
use Rattle.lv_base.specs.Integers.{width_of}
use Rattle.bv_term.specs.WellFormed.{IsArray}
use Rattle.c_typed.specs.declared.tree.Object.{Object}
use Rattle.c_terms.specs.declared.words.Words.{Words}
use Rattle.code_layout.specs.Layout.{Lay, elements_of}
use Rattle.code_layout.specs.Lies.{Lies}
use Rattle.code_moves.specs.declared.ground.Ground.{Ground}
use Rattle.code_moves.specs.declared.ground.Room.{Room}

-- the objects of a program, its data model, and where everything lies
pub record Setting : Type 0 where
  pub objects : List Object
  pub model : Model
  pub lay : Lay

-- without where it lies in memory
abbrev pub setting_of : Ground → Setting
setting_of g = record { objects = g.objects.now; model = g.model; lay = g.layout.now }

-- the table is over cells in which all lies as the layout says
pub record Stands (g : Setting) (words : Words) : Type 0 where
  pub lies : Lies g.model g.objects g.lay words.terms.cells

-- an object among the cells, where it is there
abbrev pub room_at : Option Object → Option ℕ → Option Room
room_at None first = None
room_at (Some o) None = None
room_at (Some o) (Some first) = Some (record { first = first; length = elements_of o; kind = o.kind; is_array = nat_lt 0 o.length })

abbrev pub room_of : Setting → ℕ → Option Room
room_of g object = room_at (slice_get g.objects object) (slice_get g.lay.firsts object)

-- what the operations of instructions depend on: where the objects lie, the data model, and the layout
pub record Site : Type 0 where
  pub rooms : ℕ → Option Room
  pub model : Model
  pub lay : Lay

abbrev pub site_of : Setting → Site
site_of g = record { rooms = room_of g; model = g.model; lay = g.lay }

-- its elements are an array of its kind's width
pub record IsRoom (model : Model) (r : Room) (cells : List ℕ) : Type 0 where
  pub elements : IsArray cells r.first r.length
  pub wide : slice_index cells r.first ≡ width_of r.kind model
