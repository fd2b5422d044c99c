-- How the graph computes, how it keeps values in objects, which element a number picks there, and which values are the same to it.
use Rattle.std.specs.Prelude.{ℕ, if◌then◌else◌, nat_lt, ◌==◌, List, map, slice_get, ℤ, pos}
use Rattle.lv_base.specs.declared.kind.Kind.{Kind}
use Rattle.lv_base.specs.declared.kind.Model.{Model}
use Rattle.lv_base.specs.Integers.{residue, width_of, wrapped}
use Rattle.c_run.specs.Run.{Compute, element}
use Rattle.typed_range_laws.specs.Ways.{Way}
use Rattle.c_typed.specs.Run.{kind_of, size_of}
use Rattle.c_typed.specs.Tree.{Object}
use Rattle.c_typed.specs.View.{object_of}
use Rattle.word_laws.specs.Laws.{done}
use Rattle.code_layout.specs.Reading.{is_array}
use Rattle.code_moves.specs.Setting.{Setting}

-- the objects of the setting, as those of a typed tree
abbrev pub objects_of : Setting → List Object
objects_of g = map object_of g.objects

-- operands are converted to the operation's kind first
abbrev pub converting : Model → Compute
converting model op kind x y = done op kind model x y

-- the value of the kind that has the same low bits
abbrev pub trimmed : Kind → Model → ℤ → ℤ
trimmed kind model v = wrapped kind model (residue (width_of kind model) v)

-- what becomes of a value in an object: an element's cell gets its low bits
abbrev pub trimming : Model → List Object → ℕ → ℤ → ℤ
trimming model objects object v = trimmed (kind_of (slice_get objects object)) model v

-- the number of the element that a value picks: in an array the value modulo two to the power of 64, a scalar has only one element
abbrev pub number_picked : Setting → ℕ → ℤ → ℕ
number_picked g object v = if is_array g.objects object then residue 64 v else 0

-- what is read of an element that got a value: beyond the end of its object there is none, and 0 is read
abbrev pub read_back : Setting → (object n : ℕ) → ℤ → ℤ
read_back g object n v = if nat_lt n (size_of (slice_get (objects_of g) object)) then v else pos 0

-- what the graph does beside computing: its terms know no more of a value than its residue
abbrev pub graph_way : Setting → Way
graph_way g = record {
  keep = λ object v. trimming g.model (objects_of g) object v;
  pick = λ object v. element object (number_picked g object v);
  back = λ object v new. read_back g object (number_picked g object v) new;
  same = λ a b. residue 64 a == residue 64 b;
}
