use Rattle.std.proofs.Common.{◌≡◌, take}
use Rattle.c_tree.specs.View.{declarators_of}
use Rattle.trace_sites.specs.Statements.{declarators_behind}
use Rattle.trace_sites.proofs.statements.declaration_sites.Given as goal

-- the sites in the declared names so far are found
abbrev pub invariant-loop-declarator : goal.invariant-loop-declarator
invariant-loop-declarator l = l.found.items ≡ declarators_behind l.initial.found.items (declarators_of (take l.declarator-index l.declaration.declarators.items))
