-- Sources from their bytes on.
use Rattle.std.specs.Prelude.{◌≡◌, ℕ, List, [], map, All, Some, ℤ, slice_get, position, bytes_eq}
use Rattle.lv_base.specs.declared.kind.Model.{Model}
use Rattle.c_lexer.specs.declared.token.Token.{Token}
use Rattle.c_tokens.specs.Divisions.{Tokens}
use Rattle.c_tree.specs.declared.tree.Unit.{Unit as Tree}
use Rattle.c_tree.specs.Denotes.{Denotes, tree_of}
use Rattle.c_tree.specs.Symbols.{signs_of}
use Rattle.c_meaning.specs.Good.{Good}
use Rattle.c_meaning.specs.Program.{Function, functions_of, env_of, run}
use Rattle.c_typed.specs.Facts.{ObjectFits}
use Rattle.c_typed.specs.Rules.{broken}
use Rattle.c_typed.specs.Run as typed
use Rattle.c_types.specs.Elaborated.{elaborated}
use Rattle.c_types.specs.Fit.{BodiesFit}
use Rattle.elaboration_offset_laws.specs.Laws.{ParametersFit}
use Rattle.elaboration_offset_laws.specs.Rising.{Rises}

abbrev pub TokensRise : Type 0
TokensRise = (source : List ℕ) → (list : List Token) → Tokens source list → Rises 0 (signs_of list)

-- with any number of turns, on any inputs
abbrev pub GoodPrograms : Type 0
GoodPrograms = (source : List ℕ) → (list : List Token) → (tree : Tree) → (model : Model) → Tokens source list → Denotes list tree → Good (tree_of tree) model →
    (broken (elaborated (tree_of tree) model) ≡ []) × ((turns : ℕ) → (inputs : List ℤ) → typed.run turns (elaborated (tree_of tree) model) inputs ≡ run turns (tree_of tree) model inputs)

-- the functions with a body, by their names
abbrev pub CallsFound : Type 0
CallsFound = (source : List ℕ) → (list : List Token) → (tree : Tree) → (model : Model) → Tokens source list → Denotes list tree → Good (tree_of tree) model →
    BodiesFit (env_of (tree_of tree) model) (map (λ f. f.name) (functions_of (env_of (tree_of tree) model) (tree_of tree))) (functions_of (env_of (tree_of tree) model) (tree_of tree))
    × ((name : List ℕ) → (number : ℕ) → position (λ m. bytes_eq m name) (map (λ f. f.name) (functions_of (env_of (tree_of tree) model) (tree_of tree))) ≡ Some number →
    (f : Function) × (slice_get (functions_of (env_of (tree_of tree) model) (tree_of tree)) number ≡ Some f))

-- the typed tree's objects keep their facts, and its functions have their parameters
abbrev pub ObjectsKept : Type 0
ObjectsKept = (source : List ℕ) → (list : List Token) → (tree : Tree) → (model : Model) → Tokens source list → Denotes list tree → Good (tree_of tree) model →
    All (ObjectFits model (elaborated (tree_of tree) model).objects (elaborated (tree_of tree) model).functions) (elaborated (tree_of tree) model).objects
    × ParametersFit model (elaborated (tree_of tree) model).objects (elaborated (tree_of tree) model).functions 0 (elaborated (tree_of tree) model).functions
