-- Declared names, parameters and the head of a function.
use Rattle.std.specs.Prelude.{ℕ, List, [], ◌∷◌, ◌++◌, length, Option, None, Some, Bool, true, false, ◌&&◌, ◌||◌, not, if◌then◌else◌}
use Rattle.c_tree.specs.declared.symbol.AssignOp.TheVariants as to
use Rattle.c_tree.specs.declared.symbol.Bracket.TheVariants as br
use Rattle.c_tree.specs.declared.symbol.TypeWord.TheVariants as type
use Rattle.c_tree.specs.declared.symbol.Symbol.{Symbol}
use Rattle.c_tree.specs.declared.symbol.Symbol.TheVariants as sy
use Rattle.c_tree.specs.declared.known.Known.{Known}
use Rattle.c_tree.specs.Words.{is_typedef, is_void}
use Rattle.c_tree.specs.Shape.{has, may_declare, is_skipped_name}
use Rattle.c_tree.specs.Tree.{no_raw, Ats, no_attributes, named, Params, no_params, Parameters, pUnknown, Form, fPlain, fArray, fFunction, iNothing, no_statements}
use Rattle.parse_machine.specs.Contexts.{Tall, Spoken, Header, outBody, Declaring, Declared, baseLength, baseInitial, inBase, aroundParameter, onDeclared, waitVoid, waitList, waitAttribute, Mode, Next, Behind, Parameters', Skipped, Begin, Wait, Operand, Maybe}
use Rattle.parse_machine.specs.Making.{tall, unspoken, param_more, declared_plain, with_form, with_initial}
use Rattle.parse_machine.specs.Expressions.{when, ended}
use Rattle.parse_machine.specs.Specifiers.{step_specs, parameters_more, parameters_end}
use Rattle.parse_machine.specs.Heights.{site_of_place, is_first, is_function, is_placed_in_file}

-- a mode and the typedef names in scope
pub record Turn : Type 0 where
  pub mode : Mode
  pub names : List (List ℕ)

abbrev pub turn : Mode → List (List ℕ) → Turn
turn m names = record { mode = m; names = names }

-- the names stay
abbrev pub kept : List (List ℕ) → Option Mode → Option Turn
kept names None = None
kept names (Some m) = Some (turn m names)

abbrev pub is_plain : Form → Bool
is_plain fPlain = true
is_plain _ = false

abbrev pub are_no_attributes : Ats → Bool
are_no_attributes no_attributes = true
are_no_attributes _ = false

-- a name with nothing behind it
abbrev pub is_bare : Declared → Bool
is_bare d = is_plain d.form.value && are_no_attributes d.attributes

-- an object, which may be an array and have a value
abbrev pub is_object : Known → Bool
is_object k = not (is_void k.typing) && not (is_typedef k.storage)

abbrev pub may_be_function : Declared → Bool
may_be_function d = is_bare d && is_placed_in_file d.around.place && not (is_typedef d.around.spoken.told.storage)

abbrev pub may_be_array : Declared → Bool
may_be_array d = is_bare d && is_object d.around.spoken.told

abbrev pub may_have_attribute : Declared → Bool
may_have_attribute d = is_function d.form.value || not (is_void d.around.spoken.told.typing)

-- nothing more need come
abbrev pub may_be_whole : Declared → Bool
may_be_whole d = may_declare (site_of_place d.around.place) d.around.spoken.told d.form.value iNothing

abbrev pub names_with : Declared → List (List ℕ) → List (List ℕ)
names_with d names = if is_typedef d.around.spoken.told.storage then names ++ d.name ∷ [] else names

abbrev pub initial_of_form : Form → ℕ → Declared → Option Mode
initial_of_form fPlain at d = Some (Operand (inBase (baseInitial d at)))
initial_of_form (fArray a e b) at d = Some (Wait (waitList d at))
initial_of_form (fFunction ps) at d = None

abbrev pub initial : ℕ → Declared → Option Mode
initial at d = if is_object d.around.spoken.told then initial_of_form d.form.value at d else None

abbrev pub header : Declared → Parameters → Header
header d ps = record { words = d.around.spoken.words; name = named d.name d.at; parameters = ps; attributes = d.attributes }

abbrev pub body_of_header : List (List ℕ) → ℕ → Header → Mode
body_of_header names at h = if is_skipped_name h.name then Skipped h at no_raw 0 else Begin (outBody (length names) h at no_statements)

abbrev pub body_of_form : List (List ℕ) → Form → ℕ → Declared → Option Mode
body_of_form names (fFunction ps) at d = Some (body_of_header names at (header d ps))
body_of_form names _ at d = None

abbrev pub body : List (List ℕ) → ℕ → Declared → Option Mode
body names at d = if is_first d.around then body_of_form names d.form.value at d else None

abbrev pub step_behind : List (List ℕ) → Symbol → ℕ → Declared → Option Turn
step_behind names (sy.Open br.Round) at d = kept names (when (may_be_function d) (Parameters' d at))
step_behind names (sy.Open br.Square) at d = kept names (when (may_be_array d) (Maybe (inBase (baseLength d at))))
step_behind names (sy.Open br.Curly) at d = kept names (body names at d)
step_behind names (sy.Attribute w) at d = kept names (when (may_have_attribute d) (Wait (waitAttribute w at (onDeclared d))))
step_behind names (sy.Assign to.Plain) at d = kept names (initial at d)
step_behind names sy.Comma at d = when (may_be_whole d) (turn (Next (with_initial d iNothing 0) at) (names_with d names))
step_behind names sy.Semicolon at d = when (may_be_whole d) (turn (ended (with_initial d iNothing 0) at) (names_with d names))
step_behind names _ at d = None

abbrev pub step_next : List (List ℕ) → Symbol → ℕ → Declaring → ℕ → Option Mode
step_next names (sy.Name n) at d c = when (not (has names n)) (Behind (declared_plain d (Some c) n at))
step_next names _ at d c = None

abbrev pub step_listed : Symbol → ℕ → Declaring → Option Mode
step_listed sy.Comma at d = Some (Next d at)
step_listed sy.Semicolon at d = Some (ended d at)
step_listed _ at d = None

abbrev pub step_parameters : List (List ℕ) → Symbol → ℕ → Declared → ℕ → Option Mode
step_parameters names (sy.Close br.Round) at d a = Some (Behind (with_form d (tall (fFunction (pUnknown a at)) 1)))
step_parameters names (sy.Type type.Void) at d a = Some (Wait (waitVoid d a at))
step_parameters names t at d a = step_specs names t at unspoken (aroundParameter d a (tall no_params 0) None)

abbrev pub step_parameter : Symbol → ℕ → Declared → ℕ → Tall Params → Option ℕ → Spoken → List ℕ → ℕ → Option Mode
step_parameter sy.Comma at d a ps c s n x = Some (parameters_more d a (param_more ps c s (Some (named n x))) at)
step_parameter (sy.Close br.Round) at d a ps c s n x = Some (parameters_end d a (param_more ps c s (Some (named n x))) at)
step_parameter _ at d a ps c s n x = None
