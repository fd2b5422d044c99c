use Rattle.std.proofs.Common.{◌≡◌, length}
use Rattle.bv_term.specs.Laws.{Extends}
use Rattle.invariant_map.specs.Copies.{AreCopies}
use Rattle.invariant_map.proofs.copying.copied.Given as goal

abbrev pub invariant-loop-number : goal.invariant-loop-number
invariant-loop-number l = record {
  long : length l.places.items ≡ l.number;
  extends : Extends l.fn.terms l.terms;
  copies : AreCopies l.from l.terms l.marks l.places.items;
}
