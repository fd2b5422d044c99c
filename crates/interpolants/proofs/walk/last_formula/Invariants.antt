use Rattle.std.proofs.Common.{◌≡◌, ◌+◌, ◌≤◌, ℕ, List, length}
use Rattle.interpolants.specs.Memos.{AllKnown}
use Rattle.interpolants.specs.Walks.{AreAgreed, AreCovered, AreMet, AreTrue, truth_of}
use Rattle.interpolants.proofs.walk.last_formula.Given as goal

abbrev pub invariant-loop-place : goal.invariant-loop-place
invariant-loop-place g l = record {
  keeps : g.A.Algebra.keeps l.fn.algebra l.algebra;
  made : g.A.Algebra.has l.algebra l.formula;
  known : AllKnown (g.A.Algebra.has l.algebra) l.memo;
  few : l.place ≤ length l.cut.log.now;
  long : length l.memo ≡ length l.fn.memo;
  met : AreMet l.cut 0 l.fn.memo → AreMet l.cut l.place l.memo;
  truths : (store : List ℕ) → AreAgreed l.cut store → AreCovered l.cut → AreTrue (g.A.Algebra.truth l.fn.algebra) l.cut store l.fn.memo → AreMet l.cut 0 l.fn.memo
      → AreTrue (g.A.Algebra.truth l.algebra) l.cut store l.memo;
  told : (store : List ℕ) → AreAgreed l.cut store → AreCovered l.cut → AreTrue (g.A.Algebra.truth l.fn.algebra) l.cut store l.fn.memo → AreMet l.cut 0 l.fn.memo
      → (p : ℕ) → p + 1 ≡ l.place → l.place ≡ length l.cut.log.now → g.A.Algebra.truth l.algebra l.formula store ≡ truth_of l.cut store (length l.cut.clauses.now + p);
}
