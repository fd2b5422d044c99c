-- The typed trees of sources that break no rule keep their facts.
use Rattle.std.specs.Prelude.{◌≡◌, ℕ, ◌≤◌, List, []}
use Rattle.lv_base.specs.declared.kind.Model.{Model}
use Rattle.c_lexer.specs.declared.token.Token.{Token}
use Rattle.c_tokens.specs.Divisions.{Tokens}
use Rattle.c_tree.specs.declared.symbol.SymbolAt.{SymbolAt}
use Rattle.c_tree.specs.declared.tree.Unit.{Unit as Tree}
use Rattle.c_tree.specs.Denotes.{IsSpelled, Denotes, tree_of}
use Rattle.c_tree.specs.Tree.{Ex, Items}
use Rattle.c_meaning.specs.Bindings.{Env}
use Rattle.c_meaning.specs.Good.{Good}
use Rattle.c_meaning.specs.Rules.{faults}
use Rattle.c_typed.specs.Facts.{Fits, IsTyped}
use Rattle.c_typed.specs.Tree as typed
use Rattle.c_types.specs.Elaborated.{objects_from, value, elaborated}
use Rattle.elaboration_fit_laws.specs.Laws.{Unnamed}
use Rattle.elaboration_offset_laws.specs.Laws.{IsRight}
use Rattle.elaboration_offset_laws.specs.Rising.{Rises}
use Rattle.elaboration_body_laws.specs.Held.{Held, HeldSigns}
use Rattle.elaboration_body_laws.specs.Short.{AreShort}
use Rattle.elaboration_body_laws.specs.Told.{Told}

-- each value has the kind that its place asks for
abbrev pub ValuesTyped : Type 0
ValuesTyped = (env : Env) → (model : Model) → (bodies : List (List ℕ)) → (functions : List typed.Function) → Told env model bodies functions → (e : Ex) → Unnamed env e → Held model e → faults env model bodies e ≡ [] →
    Fits model (objects_from env model 0 env.objects) functions (value env model bodies e)

-- from the tokens on
abbrev pub SourcesTyped : Type 0
SourcesTyped = (tokens : List SymbolAt) → (items : Items) → (model : Model) → IsSpelled tokens items → Rises 0 tokens → HeldSigns model tokens → IsRight items model → AreShort (elaborated items model).objects → IsTyped (elaborated items model)

-- from the bytes on
abbrev pub ProgramsTyped : Type 0
ProgramsTyped = (source : List ℕ) → (list : List Token) → (tree : Tree) → (model : Model) → Tokens source list → Denotes list tree → Good (tree_of tree) model → AreShort (elaborated (tree_of tree) model).objects →
    IsTyped (elaborated (tree_of tree) model)
