use Rattle.std.proofs.Common.{◌≡◌, ℕ, List, drop, length}
use Rattle.interpolants.specs.Memos.{AllKnown}
use Rattle.interpolants.specs.Rules.{chain_truth, steps_truth}
use Rattle.interpolants.specs.Walks.{AreAgreed, AreCovered, AreKept, AreTrue, HasEntry, all_truths, noted_behind}
use Rattle.interpolants.proofs.walk.chain_formula.Given as goal

abbrev pub invariant-loop-pair : goal.invariant-loop-pair
invariant-loop-pair g l = record {
  keeps : g.A.Algebra.keeps l.fn.algebra l.algebra;
  made : g.A.Algebra.has l.algebra l.so_far;
  known : AllKnown (g.A.Algebra.has l.algebra) l.memo;
  long : length l.memo ≡ length l.fn.memo;
  grows : (k : ℕ) → HasEntry l.fn.memo k → HasEntry l.memo k;
  told : (store : List ℕ) → AreAgreed l.cut store → AreCovered l.cut → AreTrue (g.A.Algebra.truth l.fn.algebra) l.cut store l.fn.memo → AreKept l.cut l.fn.memo l.chain
      → steps_truth (noted_behind l.cut) (all_truths l.cut store) (g.A.Algebra.truth l.algebra l.so_far store) (drop l.pair-index l.chain.pairs)
      ≡ chain_truth (noted_behind l.cut) (all_truths l.cut store) l.chain;
  truths : (store : List ℕ) → AreAgreed l.cut store → AreCovered l.cut → AreTrue (g.A.Algebra.truth l.fn.algebra) l.cut store l.fn.memo → AreKept l.cut l.fn.memo l.chain
      → AreTrue (g.A.Algebra.truth l.algebra) l.cut store l.memo;
}
