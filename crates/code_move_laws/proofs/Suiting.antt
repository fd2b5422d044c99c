-- The graph's way suits the objects of a program.
use Rattle.std.proofs.Common.{ℕ, ap, ◌∙◌, Bool, if◌then◌else◌, nat_lt, lt-ltb, slice_get, pos}
use Rattle.c_run.specs.Run.{element}
use Rattle.c_typed.specs.Run.{size_of, kind_of}
use Rattle.code_move_laws.specs.Ways.{objects_of, trimmed}
use Rattle.code_move_laws.specs.Trims.{GraphWaySuits}
use Rattle.code_move_laws.proofs.Numbers.{wrapped_same}
use Rattle.code_move_laws.proofs.Elements.{picked-index}
use Rattle.code_move_laws.proofs.Skipping.{residues-tell}

pub graph-way-suits : GraphWaySuits
graph-way-suits g laid = record {
  keeps = λ object told v e range. ap (λ o. trimmed (kind_of o) g.model v) e ∙ wrapped_same told.kind g.model v range;
  picks = λ object n lt. ap (element object) (picked-index g object n laid lt);
  backs = λ object n v lt.
      ap (λ (k : ℕ). if nat_lt k (size_of (slice_get (objects_of g) object)) then v else pos 0) (picked-index g object n laid lt)
      ∙ ap (λ (b : Bool). if b then v else pos 0) (lt-ltb n (size_of (slice_get (objects_of g) object)) lt);
  tells = λ k a b ra rb. residues-tell k g.model a b ra rb;
}
