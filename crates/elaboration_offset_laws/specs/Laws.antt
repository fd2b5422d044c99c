-- What the order of tokens leaves to the rules of names, and the typed trees of sources that break no rule.
use Rattle.std.specs.Prelude.{◌≡◌, ℕ, ◌+◌, ◌<◌, List, [], ◌∷◌, length, map, All, ℤ}
use Rattle.lv_base.specs.declared.kind.Model.{Model}
use Rattle.c_tree.specs.declared.symbol.Symbol.{Symbol}
use Rattle.c_tree.specs.declared.symbol.Symbol.TheVariants as sy
use Rattle.c_tree.specs.declared.symbol.SymbolAt.{SymbolAt}
use Rattle.c_tree.specs.Tree.{Items}
use Rattle.c_tree.specs.Denotes.{IsSpelled}
use Rattle.c_meaning.specs.Good.{Good}
use Rattle.c_meaning.specs.Jumps.{control_faults}
use Rattle.c_meaning.specs.Program.{functions_of, env_of, run}
use Rattle.c_meaning.specs.Rules.{typing_faults}
use Rattle.c_typed.specs.Facts.{ObjectFits, IsParameter}
use Rattle.c_typed.specs.Rules.{broken}
use Rattle.c_typed.specs.Run as typed
use Rattle.c_typed.specs.Tree.{Object, Function}
use Rattle.c_types.specs.Elaborated.{elaborated}
use Rattle.elaboration_fit_laws.specs.Whole.{SourceHolds}
use Rattle.elaboration_offset_laws.specs.Rising.{Rises}

-- a source that breaks no rule of names, types, calls, constants and cases
abbrev pub IsRight : Items → Model → Type 0
IsRight items model = typing_faults (env_of items model) model (map (λ f. f.name) (functions_of (env_of items model) items)) items ≡ []

abbrev pub SourcesHold : Type 0
SourcesHold = (tokens : List SymbolAt) (items : Items) → (model : Model) → IsSpelled tokens items → Rises 0 tokens → IsRight items model → SourceHolds items model

-- its typed tree runs as it does, with any number of turns, on any inputs
abbrev pub SourcesRun : Type 0
SourcesRun = (tokens : List SymbolAt) (items : Items) → (model : Model) → IsSpelled tokens items → Rises 0 tokens → IsRight items model → (turns : ℕ) → (inputs : List ℤ) →
    typed.run turns (elaborated items model) inputs ≡ run turns items model inputs

-- its typed tree breaks the rules of labels, jumps, effects and calls at the same tokens
abbrev pub SourcesBreak : Type 0
SourcesBreak = (tokens : List SymbolAt) (items : Items) → (model : Model) → IsSpelled tokens items → Rises 0 tokens → IsRight items model →
    broken (elaborated items model) ≡ control_faults (env_of items model) (functions_of (env_of items model) items)

-- a source that breaks no rule at all
abbrev pub GoodSources : Type 0
GoodSources = (tokens : List SymbolAt) (items : Items) → (model : Model) → IsSpelled tokens items → Rises 0 tokens → Good items model →
    (broken (elaborated items model) ≡ []) × ((turns : ℕ) → (inputs : List ℤ) → typed.run turns (elaborated items model) inputs ≡ run turns items model inputs)

-- ---- The facts of the typed tree

-- each name among the tokens has a letter
abbrev pub HasLetter : Symbol → Type 0
HasLetter (sy.Name n) = 0 < length n
HasLetter symbol = Unit {0}

abbrev pub HaveLetters : List SymbolAt → Type 0
HaveLetters [] = Unit {0}
HaveLetters (s ∷ signs) = HasLetter s.symbol × HaveLetters signs

-- its typed tree's objects keep their facts
abbrev pub ObjectsTyped : Type 0
ObjectsTyped = (tokens : List SymbolAt) (items : Items) → (model : Model) → IsSpelled tokens items → Rises 0 tokens → HaveLetters tokens → IsRight items model →
    All (ObjectFits model (elaborated items model).objects (elaborated items model).functions) (elaborated items model).objects

-- the parameters of functions, of which the first has this number
abbrev pub ParametersFit : Model → List Object → List Function → ℕ → List Function → Type 0
ParametersFit model objects functions number [] = Unit {0}
ParametersFit model objects functions number (f ∷ fs) = All (IsParameter model objects functions number) f.parameters × ParametersFit model objects functions (number + 1) fs

abbrev pub ParametersTyped : Type 0
ParametersTyped = (tokens : List SymbolAt) (items : Items) → (model : Model) → IsSpelled tokens items → Rises 0 tokens → IsRight items model →
    ParametersFit model (elaborated items model).objects (elaborated items model).functions 0 (elaborated items model).functions
