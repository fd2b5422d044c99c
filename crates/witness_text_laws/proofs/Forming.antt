-- Trees of expressions are shaped.
use Rattle.std.proofs.Common.{◌≡◌, refl, ℕ, List, [], ◌∷◌, ◌≤◌, arith}
use Rattle.c_tree.specs.declared.symbol.BinaryOp.TheVariants as op
use Rattle.c_tree.specs.Tree.{Ex, eBinary}
use Rattle.c_tree.specs.Spelling.{level_of}
use Rattle.c_tree.specs.Shape.{Shaped}
use Rattle.witness_truth_laws.specs.Written.{Place, pScalar, pElement, Expression, xTruth, xBit, xBoth, xEither, xNot}
use Rattle.witness_truth_laws.specs.Trees.{place_tree, tree_of, conjoined_tree}
use Rattle.witness_text_laws.specs.Names.{IsFree, HasFree, HaveFree}
use Rattle.witness_text_laws.specs.Laws.{TreesAreShaped}

module _ (types : List (List ℕ)) (at : ℕ) where
  place-level : (p : Place) → level_of (place_tree at p) ≡ 15
  place-level (pScalar name) = refl
  place-level (pElement name k) = refl

  place-shaped : (p : Place) → IsFree types p → Shaped types (place_tree at p)
  place-shaped (pScalar name) h = h
  place-shaped (pElement name k) h = (omega arith, h, tt)

  tree-level : (x : Expression) → level_of (tree_of at x) ≡ 15
  tree-level (xTruth v) = refl
  tree-level (xBit k p) = refl
  tree-level (xBoth x y) = refl
  tree-level (xEither x y) = refl
  tree-level (xNot x) = refl

  tree-shaped : (x : Expression) → HasFree types x → Shaped types (tree_of at x)
  tree-shaped (xTruth v) h = tt
  tree-shaped (xBit k p) h = (omega arith, omega arith, (omega (arith, place-level p), omega arith, place-shaped p h, tt), tt)
  tree-shaped (xBoth x y) h = (omega (arith, tree-level x), omega (arith, tree-level y), tree-shaped x h.0, tree-shaped y h.1)
  tree-shaped (xEither x y) h = (omega (arith, tree-level x), omega (arith, tree-level y), tree-shaped x h.0, tree-shaped y h.1)
  tree-shaped (xNot x) h = (omega (arith, tree-level x), tree-shaped x h)

  joined-shaped : (e : Ex) (xs : List Expression) → 4 ≤ level_of e → Shaped types e → HaveFree types xs → Shaped types (conjoined_tree at e xs)
  joined-shaped e [] low h k = h
  joined-shaped e (x ∷ xs) low h (k, ks) =
      joined-shaped (eBinary e op.AndAlso at (tree_of at x)) xs (omega arith) (low, omega (arith, tree-level x), h, tree-shaped x k) ks

pub trees-are-shaped : TreesAreShaped
trees-are-shaped types [] at h = tt
trees-are-shaped types (x ∷ xs) at (h, hs) = joined-shaped types at (tree_of at x) xs (omega (arith, tree-level types at x)) (tree-shaped types at x h) hs
