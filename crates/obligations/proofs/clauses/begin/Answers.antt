use Rattle.std.proofs.Common.{◌≡◌, ℕ, List, Result, Ok, Err, sym, ap, ◌∙◌}
use Rattle.std.specs.Prelude.{IfOk}
use Rattle.bv_term.specs.WellFormed.{Table}
use Rattle.bit_blast.specs.Held.{Held, IsOver}
use Rattle.obligations.proofs.clauses.begin.Goals as goal

at_table : {E : Type 0} (r : Result Held E) (table : Table) (cells : List ℕ) → IfOk r (λ b. (t : Table) → t.cells ≡ cells → IsOver t b) → table.cells ≡ cells → IfOk r (IsOver table)
at_table (Ok b) table cells h e = h table e
at_table (Err x) table cells h e = tt

pub returns-clause-over : goal.returns-clause-over
returns-clause-over c =
    at_table c.new.result c.args.map.now.terms c.cells.result.now c.new.ensures.over (sym (c.cells.ensures.value ∙ ap (λ (t : Table). t.cells) c.terms.ensures))
