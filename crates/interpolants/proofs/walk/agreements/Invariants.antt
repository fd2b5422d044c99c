use Rattle.std.proofs.Common.{◌≡◌, ℕ, List, true, drop}
use Rattle.interpolants.specs.Meanings.{agree_from}
use Rattle.interpolants.proofs.walk.agreements.Given as goal

abbrev pub invariant-loop-twins : goal.invariant-loop-twins
invariant-loop-twins g l = record {
  keeps : g.A.Algebra.keeps l.fn.algebra l.algebra;
  made : g.A.Algebra.has l.algebra l.so_far;
  told : (store : List ℕ) → agree_from store (g.A.Algebra.truth l.algebra l.so_far store) (drop l.twins-index l.bits.twins.items) ≡ agree_from store true l.bits.twins.items;
}
