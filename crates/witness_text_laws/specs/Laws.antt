-- The text and the tree of a conjunction.
use Rattle.std.specs.Prelude.{ℕ, ◌<◌, ◌≡◌, List, [], ◌∷◌, length, Ok}
use Rattle.c_lexer.specs.Lexed.{lexed}
use Rattle.c_lexer.specs.declared.token.Token.{Token}
use Rattle.c_tree.specs.declared.symbol.Symbol.TheVariants as sy
use Rattle.c_tree.specs.Symbols.{sign, signs_of}
use Rattle.c_tree.specs.Spelling.{spell}
use Rattle.c_tree.specs.Shape.{Shaped}
use Rattle.witness_truth_laws.specs.Written.{Expression, conjunction_text}
use Rattle.witness_truth_laws.specs.Trees.{conjunction_tree}
use Rattle.witness_text_laws.specs.Names.{AreSpelled, HaveFree, symbols}

-- The tree has the shape that the grammar asks of an expression, where none of its names stands for a type.
abbrev pub TreesAreShaped : Type 0
TreesAreShaped = (types : List (List ℕ)) (xs : List Expression) (at : ℕ) → HaveFree types xs → Shaped types (conjunction_tree at xs)

-- The lexer gives, of a text of less than 200,000 bytes, the tokens that the tree is spelled with, and the end.
abbrev pub TextsAreRead : Type 0
TextsAreRead =
    (xs : List Expression) (at : ℕ) → AreSpelled xs → length (conjunction_text xs) < 200000
    → (tokens : List Token) × (lexed (conjunction_text xs) ≡ Ok tokens) × (symbols (signs_of tokens) ≡ symbols (spell (conjunction_tree at xs) (sign sy.End 0 ∷ [])))
