use Rattle.std.proofs.Common.{◌≡◌, ◌++◌, take}
use Rattle.c_tree.specs.View.{statements_of}
use Rattle.type_scopes.specs.Seen.{env_of}
use Rattle.source_rules.specs.Cases as c
use Rattle.source_rules.proofs.cases.+cases.Given as goal

-- those so far stand behind those that were there
abbrev pub invariant-cases_in_all-loop-statement : goal.invariant-cases_in_all-loop-statement
invariant-cases_in_all-loop-statement l = c.cases l.found.items ≡ c.cases l.initial.found.items ++ c.cases_in_all (env_of l.env) l.model l.kind (statements_of (take l.statement-index l.statements))
