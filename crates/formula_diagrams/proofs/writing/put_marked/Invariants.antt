use Rattle.std.proofs.Common.{◌≡◌, ◌≢◌, ℕ, ◌+◌, ◌-◌, ◌<◌, ◌≤◌, ◌&&◌, ◌||◌, ◌==◌, Bool, true, false, not, List, [], ◌∷◌, ◌++◌, length, refl, sym, ap, ◌∙◌, subst, arith, rules, Some, Result, Ok, Err, slice_get, zero, suc}
use Rattle.bv_term.specs.Laws.{Extends}
use Rattle.formula_diagrams.specs.Writings.{AreWritten}
use Rattle.formula_diagrams.proofs.writing.put_marked.Given as goal

abbrev pub invariant-loop-place : goal.invariant-loop-place
invariant-loop-place l = record {
  long : length l.written.items ≡ l.place;
  extends : Extends l.fn.terms l.terms;
  written : AreWritten l.nodes l.terms l.marks l.written.items;
}
