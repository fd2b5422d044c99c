-- What a run is told with.
use Rattle.std.specs.Prelude.{ℕ, nat_eq, ◌==◌, if◌then◌else◌, List, [], ◌∷◌, length, drop, map, codes, Option, None, Some, slice_get}
use Rattle.lv_base.specs.declared.place.Place.{Place}
use Rattle.c_typed.specs.Tree.{Object, Function}
use Rattle.c_typed.specs.View.{object_of, function_of}
use Rattle.slot_code.specs.declared.flat.Instruction.{Instruction}
use Rattle.slot_code.specs.Values.{Link}
use Rattle.slot_values.specs.Seen.{links_of}
use Rattle.trace_sites.specs.declared.site.Site.{Site}
use Rattle.trace_texts.specs.Lines as lines
use Rattle.trace_lines.specs.declared.scene.Scene.{Scene}
use Rattle.trace_lines.specs.Excerpts.{shown, name_in, place_in}

-- the source, its objects and functions, their code, and the site of each instruction
pub record Stage : Type 0 where
  pub source : List ℕ
  pub objects : List Object
  pub functions : List Function
  pub instructions : List Instruction
  pub links : List Link
  pub sites : List (Option Site)

-- a scene, without where it lies in memory
abbrev pub stage_of : Scene → Stage
stage_of s = record {
  source = s.source.now;
  objects = map object_of s.objects.now;
  functions = map function_of s.functions.now;
  instructions = s.code.now.instructions.items;
  links = links_of s.code.now.links.items;
  sites = s.sites.now;
}

abbrev pub site_in : Option (Option Site) → Option Site
site_in None = None
site_in (Some site) = site

abbrev pub site_at : Stage → ℕ → Option Site
site_at s place = site_in (slice_get s.sites place)

-- ---- What stands in front of a line

abbrev pub place_of : List ℕ → Option ℕ → Option Place
place_of source None = None
place_of source (Some at) = place_in source at

abbrev pub front : Stage → Option ℕ → List ℕ
front s at = lines.front (place_of s.source at)

-- ---- Names

-- the name at an offset
abbrev pub name_at : Stage → ℕ → List ℕ
name_at s at = shown (name_in (drop at s.source))

abbrev pub name_or_mark : List ℕ → List ℕ
name_or_mark name = if length name == 0 then codes "?" else shown name

-- that of a parameter without one is a question mark
abbrev pub object_name : Option Object → List ℕ
object_name None = codes "?"
object_name (Some o) = name_or_mark o.name

abbrev pub offset_of : Option Object → Option ℕ
offset_of None = None
offset_of (Some o) = Some o.at

-- an array's element has an index
abbrev pub index_in : Option Object → ℕ → Option ℕ
index_in None index = None
index_in (Some o) index = if o.length == 0 then None else Some index

abbrev pub element_of : Option Object → ℕ → List ℕ
element_of o index = lines.element_text (object_name o) (index_in o index)

-- a scalar, or an element of an array
abbrev pub element : Stage → ℕ → ℕ → List ℕ
element s object index = element_of (slice_get s.objects object) index

-- the function that returns by a slot, the newest one first
abbrev pub function_by : List Link → ℕ → Option ℕ
function_by [] slot = None
function_by (l ∷ ls) slot = if nat_eq l.slot slot then Some l.function else function_by ls slot

abbrev pub name_of_function : Option Function → List ℕ
name_of_function None = codes "?"
name_of_function (Some f) = shown f.name

abbrev pub name_of_number : List Function → Option ℕ → List ℕ
name_of_number functions None = codes "?"
name_of_number functions (Some number) = name_of_function (slice_get functions number)

abbrev pub function_name : Stage → ℕ → List ℕ
function_name s slot = name_of_number s.functions (function_by s.links slot)
