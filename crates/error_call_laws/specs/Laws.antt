-- Calls of `reach_error` keep their places and their functions.
use Rattle.std.specs.Prelude.{◌≡◌, ℕ, List, map}
use Rattle.lv_base.specs.declared.kind.Model.{Model}
use Rattle.c_lexer.specs.declared.token.Token.{Token}
use Rattle.c_tree.specs.declared.symbol.SymbolAt.{SymbolAt}
use Rattle.c_tokens.specs.Divisions.{Tokens}
use Rattle.c_tree.specs.declared.tree.Unit.{Unit as Tree}
use Rattle.c_tree.specs.Denotes.{Denotes, IsSpelled, tree_of}
use Rattle.c_tree.specs.Tree.{Items}
use Rattle.c_meaning.specs.Good.{Good}
use Rattle.c_meaning.specs.Program.{functions_of, env_of}
use Rattle.c_types.specs.Elaborated.{elaborated}
use Rattle.elaboration_offset_laws.specs.Laws.{IsRight}
use Rattle.elaboration_offset_laws.specs.Rising.{Rises}
use Rattle.error_call_laws.specs.Reaches.{reached_in, typed_reached}

-- the functions with a body have their names, in their order, and each calls `reach_error` at the same offsets in the same order
abbrev pub KeepsCalls : Items → Model → Type 0
KeepsCalls items model = map typed_reached (elaborated items model).functions ≡ map (reached_in (env_of items model)) (functions_of (env_of items model) items)

-- of tokens whose offsets rise, whose tree breaks no rule of names, types, calls, constants and cases
abbrev pub CallsKept : Type 0
CallsKept = (tokens : List SymbolAt) (items : Items) (model : Model) → IsSpelled tokens items → Rises 0 tokens → IsRight items model → KeepsCalls items model

-- from the bytes on
abbrev pub ReachesKept : Type 0
ReachesKept = (source : List ℕ) → (list : List Token) → (tree : Tree) → (model : Model) → Tokens source list → Denotes list tree → Good (tree_of tree) model → KeepsCalls (tree_of tree) model
