-- Which tree some tokens are, and with which tokens a tree begins.
use Rattle.std.specs.Prelude.{◌≡◌, ℕ, ◌≤◌, List, [], ◌∷◌, ◌++◌}
use Rattle.c_lexer.specs.declared.token.Token.{Token}
use Rattle.c_tree.specs.declared.symbol.Symbol.TheVariants as sy
use Rattle.c_tree.specs.declared.symbol.SymbolAt.{SymbolAt}
use Rattle.c_tree.specs.declared.tree.Unit.{Unit as Tree}
use Rattle.c_tree.specs.Tree.{Items}
use Rattle.c_tree.specs.View.{items_of}
use Rattle.c_tree.specs.Symbols.{sign, signs_of}
use Rattle.c_tree.specs.Spelling.{spell_items}
use Rattle.c_tree.specs.Shape.{ShapedItems}
use Rattle.c_tree.specs.Height.{height_items}

-- the tokens of a file, with the end at this offset
abbrev pub spelling : Items → ℕ → List SymbolAt
spelling is at = spell_items is (sign sy.End at ∷ [])

abbrev pub tree_of : Tree → Items
tree_of unit = items_of unit.items.items

-- a shaped tree, and these are its tokens
pub record IsSpelled (tokens : List SymbolAt) (tree : Items) : Type 0 where
  pub shaped : ShapedItems tree
  pub end : ℕ
  pub spelled : spelling tree end ≡ tokens

-- The tree is shaped, and its tokens are these, by kind and offset.
abbrev pub Denotes : List Token → Tree → Type 0
Denotes tokens unit = IsSpelled (signs_of tokens) (tree_of unit)

-- some shaped tree's tokens begin with these
pub record Begins (tokens : List SymbolAt) : Type 0 where
  pub tree : Items
  pub shaped : ShapedItems tree
  pub end : ℕ
  pub more : List SymbolAt
  pub spelled : spelling tree end ≡ tokens ++ more

-- the same of trees of at most this height
pub record BeginsWithin (most : ℕ) (tokens : List SymbolAt) : Type 0 where
  pub begins : Begins tokens
  pub low : height_items begins.tree ≤ most
