-- What a source that is not refused keeps.
use Rattle.std.specs.Prelude.{◌≡◌, ℕ, List, None, ℤ}
use Rattle.lv_base.specs.declared.kind.Model.{Model}
use Rattle.c_lexer.specs.declared.token.Token.{Token}
use Rattle.c_tokens.specs.Divisions.{Tokens}
use Rattle.c_tree.specs.declared.tree.Unit.{Unit as Tree}
use Rattle.c_tree.specs.Denotes.{Denotes, tree_of}
use Rattle.c_tree.specs.Tree.{Items}
use Rattle.c_meaning.specs.Jumps.{control_faults}
use Rattle.c_meaning.specs.Program.{functions_of, env_of, run}
use Rattle.c_typed.specs.Facts.{IsTyped}
use Rattle.c_typed.specs.Rules.{broken}
use Rattle.c_typed.specs.Run as typed
use Rattle.c_types.specs.Elaborated.{elaborated}
use Rattle.error_call_laws.specs.Laws.{KeepsCalls}
use Rattle.source_refusals.specs.Refusals.{refusal}
use Rattle.elaboration_laws.specs.Read.{IsRead}

abbrev pub SourcesRead : Type 0
SourcesRead = (source : List ℕ) → (list : List Token) → (tree : Tree) → (model : Model) → Tokens source list → Denotes list tree → IsRead (tree_of tree) model

-- neither a rule nor the limit on cells refuses it
abbrev pub IsFree : Items → Model → Type 0
IsFree items model = refusal items model ≡ None

abbrev pub TypedKept : Type 0
TypedKept = (items : Items) → (model : Model) → IsRead items model → IsFree items model → IsTyped (elaborated items model)

-- with any number of turns, on any inputs
abbrev pub RunsKept : Type 0
RunsKept = (items : Items) → (model : Model) → IsRead items model → IsFree items model →
    ((turns : ℕ) → (inputs : List ℤ) → typed.run turns (elaborated items model) inputs ≡ run turns items model inputs)
    × (broken (elaborated items model) ≡ control_faults (env_of items model) (functions_of (env_of items model) items))

-- each call of `reach_error` keeps its place, in the function of the same name
abbrev pub PlacesKept : Type 0
PlacesKept = (items : Items) → (model : Model) → IsRead items model → IsFree items model → KeepsCalls items model
