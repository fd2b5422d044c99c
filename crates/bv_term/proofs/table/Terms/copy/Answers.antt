use Rattle.bv_term.proofs.Rows.{Finds-same}
use Rattle.bv_term.proofs.table.Terms.copy.Goals as goal

pub invariant_of-result : goal.invariant_of-result
invariant_of-result c = rw (c.in_ok-cells.ensures, c.in_ok-terms.ensures, c.in_ok-widths.ensures) (record {
  table = c.self.invariant.table;
  widths = c.self.invariant.widths;
  few = c.self.invariant.few;
  finds = Finds-same c.self.inside.numbers c.in_ok-numbers.numbers _ c.in_ok-numbers.ensures c.self.invariant.finds;
})
