use Rattle.std.proofs.Common.{◌≡◌, ◌++◌, drop}
use Rattle.cover_engine.specs.Keeping.{new_labels_of}
use Rattle.cover_engine.proofs.refinement.new_labels.Given as goal

abbrev pub invariant-loop-place : goal.invariant-loop-place
invariant-loop-place l = l.labels.items ++ new_labels_of l.tree.terms l.tree.vertices (drop l.place l.path) (drop l.place l.formulas) ≡ new_labels_of l.tree.terms l.tree.vertices l.path l.formulas
