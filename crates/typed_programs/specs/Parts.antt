-- The parts of a typed program, one at a time.
use Rattle.std.specs.Prelude.{ℕ, List, [], ◌∷◌, ◌++◌, Option, None, Some, if◌then◌else◌}
use Rattle.lv_base.specs.declared.kind.Model.{Model}
use Rattle.c_tree.specs.Tree.{Words, Name, named, Parameters, Initial, iNothing, Sts, Body, bBlock, bSkipped, Item, tFunction, Items, no_items, items_and}
use Rattle.c_meaning.specs.Tokens.{first_of_words}
use Rattle.c_meaning.specs.Bindings.{Object, Entry, Env, words_type, kind_in}
use Rattle.c_meaning.specs.Program.{Function, parameter_numbers, is_number, initial_in, start_values}
use Rattle.c_typed.specs.Tree as t
use Rattle.c_types.specs.Elaborated.{owner_of, length_of, first_of}

-- ---- Initial values

abbrev pub or_nothing : Option Initial → Initial
or_nothing None = iNothing
or_nothing (Some i) = i

-- ---- Objects

abbrev pub object_from : Env → Model → ℕ → Object → t.Object
object_from env model number o =
    record { name = o.name; at = o.at; kind = o.kind; length = length_of o.length; owner = owner_of o.owner; first = first_of o.owner (start_values env model number o) }

-- ---- Functions

-- the offset at which a parameter is declared
abbrev pub parameter_at : Words → Option Name → ℕ
parameter_at ws None = first_of_words ws
parameter_at ws (Some (named n at)) = at

abbrev pub function_from : Env → Words → Name → Parameters → Sts → Function
function_from env ws (named n at) ps ss = record { name = n; at = at; result = kind_in (words_type env ws); parameters = parameter_numbers env ps; body = ss }

-- a function whose body is left out is none
abbrev pub function_in : Env → Words → Name → Parameters → Body → List Function
function_in env ws n ps (bBlock a ss b) = function_from env ws n ps ss ∷ []
function_in env ws n ps (bSkipped a r b) = []

abbrev pub functions_in : Env → Item → List Function
functions_in env (tFunction ws n ps ats body) = function_in env ws n ps body
functions_in env _ = []

-- ---- Names

abbrev pub name_in : Name → Body → List (List ℕ)
name_in (named n at) (bBlock a ss b) = n ∷ []
name_in n (bSkipped a r b) = []

abbrev pub names_in : Item → List (List ℕ)
names_in (tFunction ws n ps ats body) = name_in n body
names_in _ = []

-- the names of the functions with a body
abbrev pub names_of : Items → List (List ℕ)
names_of no_items = []
names_of (items_and is i) = names_of is ++ names_in i
