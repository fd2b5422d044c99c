-- Why a question to the solver has no answer.
use Rattle.std.specs.Prelude.{ℕ, List}
use Rattle.prop.specs.declared.Lit.{Lit}
use Rattle.prop.specs.declared.BlastFail.{BlastFail}
use Rattle.prop.specs.declared.BlastFail.TheVariants.{Over as PastLiterals, Memory as NoRoom}
use Rattle.bit_gates.specs.Cut.{IsCutOff}
use Rattle.clause_learning.specs.Solve.{IsHeavy}
use Rattle.clause_learning.specs.declared.QueryFail.{QueryFail}
use Rattle.clause_learning.specs.declared.QueryFail.TheVariants.{Over, OverLog, Memory}

-- what a failure to make clauses is for a question
abbrev pub without_clauses : BlastFail → QueryFail
without_clauses (PastLiterals n) = Over n
without_clauses NoRoom = Memory

-- its clauses are cut off by the limit on literals, these being those up to the first clause that passes it; or this log, new over them and of fewer chains than may be learned, has
-- too many pairs with its last chain and not before; or memory ran out
abbrev pub IsRefused : List (List Lit) → ℕ → QueryFail → Type 0
IsRefused clauses learn (Over n) = IsCutOff clauses (PastLiterals n)
IsRefused clauses learn (OverLog log) = IsHeavy clauses learn 134217728 log
IsRefused clauses learn Memory = Unit {0}
