use Rattle.std.proofs.Common.{◌≡◌, length}
use Rattle.bv_term.specs.Laws.{Extends}
use Rattle.invariant_map.specs.Labels.{AreParts}
use Rattle.invariant_map.proofs.joining.joined.Given as goal

abbrev pub invariant-loop-number : goal.invariant-loop-number
invariant-loop-number l = record {
  size : length l.parts.items ≡ l.nodes;
  extends : Extends l.fn.terms l.terms;
  parts : AreParts l.unwinding l.number l.terms l.parts.items;
}
