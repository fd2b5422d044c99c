use Rattle.std.proofs.Common.{◌≡◌, take}
use Rattle.c_tree.specs.View.{statements_of}
use Rattle.witness_places.specs.Loops.{all_behind}
use Rattle.witness_places.proofs.loops.+loop_walk.Given as goal

-- the loops of the statements so far are found
abbrev pub invariant-put_all-loop-statement : goal.invariant-put_all-loop-statement
invariant-put_all-loop-statement l = l.found.items ≡ all_behind l.initial.found.items (statements_of (take l.statement-index l.statements))
