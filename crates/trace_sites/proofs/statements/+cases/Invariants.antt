use Rattle.std.proofs.Common.{◌≡◌, take}
use Rattle.c_tree.specs.View.{statements_of}
use Rattle.trace_sites.specs.Statements.{all_cases_behind}
use Rattle.trace_sites.proofs.statements.+cases.Given as goal

-- the cases in the statements so far are found
abbrev pub invariant-all_case_sites-loop-statement : goal.invariant-all_case_sites-loop-statement
invariant-all_case_sites-loop-statement l = l.found.items ≡ all_cases_behind l.initial.found.items (statements_of (take l.statement-index l.statements))
