use Rattle.std.proofs.Common.{take}
use Rattle.bv_term.specs.Laws.{Extends}
use Rattle.invariant_map.specs.Labels.{IsLabel}
use Rattle.invariant_map.proofs.joining.put_label.Given as goal

abbrev pub invariant-loop-at : goal.invariant-loop-at
invariant-loop-at l = record {
  extends : Extends l.fn.terms l.terms;
  label : IsLabel l.unwinding.terms l.terms (take l.at l.label) l.joined;
}
