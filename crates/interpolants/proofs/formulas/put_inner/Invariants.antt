use Rattle.std.proofs.Common.{◌≡◌, ◌+◌, ◌-◌, ◌≤◌, length}
use Rattle.bv_term.specs.Laws.{Extends}
use Rattle.interpolants.specs.Cuts.{Adds}
use Rattle.interpolants.specs.NamedCells.{AreNamed}
use Rattle.interpolants.proofs.Meant.{AreMade}
use Rattle.interpolants.proofs.formulas.put_inner.Given as goal

abbrev pub invariant-loop-number : goal.invariant-loop-number
invariant-loop-number l = record {
  few : l.number - 1 ≤ length l.query.starts - 1;
  extends : Extends l.fn.terms l.terms;
  adds : Adds l.terms (l.number - 1) l.fn.formulas.items l.formulas.items;
  room : length l.memo ≡ length l.query.clauses + length l.log;
  named : AreNamed l.terms l.query l.formulas.items;
  made : AreMade l.terms l.query l.log l.number l.formulas.items;
}
