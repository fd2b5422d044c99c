use Rattle.std.proofs.Common.{◌≡◌, length}
use Rattle.bv_term.specs.Laws.{Extends}
use Rattle.invariant_map.specs.Labels.{AreFilled}
use Rattle.invariant_map.proofs.joining.filled.Given as goal

abbrev pub invariant-loop-part : goal.invariant-loop-part
invariant-loop-part l = record {
  long : length l.formulas.items ≡ l.part-index;
  extends : Extends l.fn.terms l.terms;
  filled : AreFilled l.fn.terms l.terms l.parts l.formulas.items;
}
