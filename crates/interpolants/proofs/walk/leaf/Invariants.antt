use Rattle.std.proofs.Common.{◌≡◌, ◌||◌, ℕ, List, drop}
use Rattle.interpolants.specs.Rules.{some_holds}
use Rattle.interpolants.specs.Walks.{AreAgreed, AreBits, noted_behind, value_of}
use Rattle.interpolants.proofs.walk.leaf.Given as goal

abbrev pub invariant-loop-lit : goal.invariant-loop-lit
invariant-loop-lit g l = record {
  keeps : g.A.Algebra.keeps l.fn.algebra l.algebra;
  made : g.A.Algebra.has l.algebra l.so_far;
  told : (store : List ℕ) → AreAgreed l.cut store → AreBits l.cut l.clause
      → (g.A.Algebra.truth l.algebra l.so_far store || some_holds (noted_behind l.cut) (value_of l.cut store) (drop l.lit-index l.clause)) ≡ some_holds (noted_behind l.cut) (value_of l.cut store) l.clause;
}
