-- What a store of a graph tells of the values of a program's objects, and what expressions mean in C.
use Rattle.std.specs.Prelude.{ℕ, ◌<◌, ◌≡◌, List, [], Some, slice_get, slice_index, slice_index_or, true, ℤ, pos}
use Rattle.lv_base.specs.declared.kind.Model.{Model}
use Rattle.lv_base.specs.Integers.{InRange, residue, width_of}
use Rattle.c_graph.specs.declared.graph.Cell.{Cell}
use Rattle.c_graph.specs.declared.graph.Origin.TheVariants.{Element}
use Rattle.c_tree.specs.Tree.{Ex}
use Rattle.c_run.specs.Run.{State, Got, Value, is_true}
use Rattle.c_run.specs.Loops.{Calls}
use Rattle.c_run.specs.Operators.{used}
use Rattle.c_meaning.specs.Bindings.{Env, Object, size_of_object}
use Rattle.c_meaning.specs.Value.{value}
use Rattle.c_meaning.specs.Program.{Function, context, trapping}

-- the value of an element of an object
abbrev pub value_at : List (List ℤ) → ℕ → ℕ → ℤ
value_at values object element = slice_index_or (slice_index_or values object []) element (pos 0)

-- a cell of an element is as wide as the object's kind, and holds the low bits of the element's value, which is one of the kind
pub record IsTold (model : Model) (values : List (List ℤ)) (store : List ℕ) (c : ℕ) (cell : Cell) (object element : ℕ) (o : Object) : Type 0 where
  pub there : element < size_of_object (Some o)
  pub wide : cell.width ≡ width_of o.kind model
  pub low : slice_index store c ≡ residue (width_of o.kind model) (value_at values object element)
  pub in_range : InRange o.kind model (value_at values object element)

-- so it is of each cell of an object that has a property
abbrev pub TellsOf : (ℕ → Type 0) → Env → Model → List Cell → List (List ℤ) → List ℕ → Type 0
TellsOf P env model cells values store =
    (c : ℕ) (cell : Cell) (object element : ℕ) (o : Object) → P c → slice_get cells c ≡ Some cell → cell.origin ≡ Element object element → slice_get env.objects object ≡ Some o
    → IsTold model values store c cell object element o

-- what a tree gives in a program, signed arithmetic that leaves its range being an error
abbrev pub meant : Env → Model → List ℤ → List Function → Calls → Ex → State → Got ℤ
meant env model inputs functions call e = value (context env model (trapping model) inputs functions call) used e

-- evaluation ends, in no error, with a value other than 0, and leaves the state as it was
abbrev pub IsTrueIn : State → Got ℤ → Type 0
IsTrueIn st got = (v : ℤ) × (got ≡ Value v st) × (is_true v ≡ true)
