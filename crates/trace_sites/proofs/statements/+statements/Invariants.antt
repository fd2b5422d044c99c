use Rattle.std.proofs.Common.{◌≡◌, take}
use Rattle.c_tree.specs.View.{statements_of}
use Rattle.trace_sites.specs.Statements.{all_behind}
use Rattle.trace_sites.proofs.statements.+statements.Given as goal

-- the sites in the statements so far are found
abbrev pub invariant-all_sites-loop-statement : goal.invariant-all_sites-loop-statement
invariant-all_sites-loop-statement l = l.found.items ≡ all_behind l.initial.found.items (statements_of (take l.statement-index l.statements))
