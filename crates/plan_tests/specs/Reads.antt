-- The cells that a term is said to read.
use Rattle.std.specs.Prelude.{ℕ, ◌≡◌, true, List, Some, slice_get}
use Rattle.bv_term.specs.declared.term.Term.{Term}
use Rattle.term_laws.specs.Operands.{OnOperands}
use Rattle.block_rule.specs.Plans.{Plan}
use Rattle.block_rule.specs.Tests.{ReadsOwn, ReadsOperand}
use Rattle.walk_states.specs.Known.{has_unit}

-- a term is said to read its own cells, and what its operands are said to read
abbrev pub IsRead : Plan → ℕ → Term → Type 0
IsRead plan k u = ReadsOwn plan k u × OnOperands (ReadsOperand plan k) u

-- the list has each of these units
abbrev pub Includes : List ℕ → List ℕ → Type 0
Includes list units = (k u : ℕ) → slice_get units k ≡ Some u → has_unit list u ≡ true
