-- What each answer means, on the bytes of the source and of the run file. None of it speaks of how the answer is found.
use Rattle.std.specs.Prelude.{ℕ, ◌≡◌, ◌<◌, ◌≤◌, ◌↔◌, List, [], ◌∷◌, ◌++◌, length, ℤ, Ok, Err, Some, None, if◌then◌else◌}
use Rattle.lv_base.specs.Place.{place_at}
use Rattle.lv_base.specs.declared.kind.Model.{Model}
use Rattle.lv_base.specs.declared.fail.SourceFail.{SourceFail}
use Rattle.lv_base.specs.declared.fault.SourceFault.TheVariants.{Syntax, Unsupported}
use Rattle.c_lexer.specs.declared.token.Token.{Token}
use Rattle.c_tokens.specs.Divisions.{Fits}
use Rattle.c_tree.specs.declared.symbol.SymbolAt.{SymbolAt}
use Rattle.c_tree.specs.Symbols.{signs_of}
use Rattle.c_tree.specs.Tree.{Items}
use Rattle.c_tree.specs.Height.{height_items}
use Rattle.c_tree.specs.Denotes.{IsSpelled, Begins}
use Rattle.parse_machine.specs.Tokens.{is_unsupported}
use Rattle.low_beginning_laws.specs.Laws.{IsFirstStop}
use Rattle.c_meaning.specs.Good.{Good}
use Rattle.c_meaning.specs.Program.{run}
use Rattle.source_checks.specs.Refusals.{source_refusal}
use Rattle.stored_text.specs.declared.StoredFail.{StoredFail}
use Rattle.stored_text.specs.Reading.{read_run_of}
use Rattle.stored_text.specs.RunText.{Spells}
use Rattle.lazic.specs.Words.{Wanted, request_of}
use Rattle.lazic.specs.Answer.{refused, run_refused, outcome_of}
use Rattle.lazic.specs.Running.{said_of}
use Rattle.lazic.specs.declared.outcome.Outcome.{Outcome}
use Rattle.lazic.specs.declared.outcome.Outcome.TheVariants.{Usage, Over, Faulty}

-- the tokens of a source of at most 1,048,576 bytes
abbrev pub HasTokens : List ℕ → List Token → Type 0
HasTokens source tokens = Fits source (Ok tokens)

-- What is told of tokens that are no tree of height at most 200, at the first of them up to which no shaped tree of such a height begins: a fault where
-- none of whatever height begins, and where one does, the limit on the height.
pub data IsUnread (source : List ℕ) (tokens : List SymbolAt) (answer : Outcome) : Type 0 where
  stopped : (token : SymbolAt) → (stop : IsFirstStop tokens token) → (Begins (stop.before ++ token ∷ []) → ⊥) → answer ≡ Faulty (if is_unsupported token.symbol then Unsupported else Syntax) (place_at source token.at) → IsUnread source tokens answer
  too_high : (token : SymbolAt) → (stop : IsFirstStop tokens token) → Begins (stop.before ++ token ∷ []) → answer ≡ Over 3 201 → IsUnread source tokens answer

-- the tree of some tokens, which is not too high, and the only one, of whatever height
pub record IsTreeOf (tokens : List SymbolAt) (tree : Items) : Type 0 where
  pub spelled : IsSpelled tokens tree
  pub low : height_items tree ≤ 200
  pub only : (other : Items) → IsSpelled tokens other → other ≡ tree

-- it breaks no rule and passes no limit
pub record IsAccepted (tree : Items) (model : Model) : Type 0 where
  pub good : Good tree model
  pub free : source_refusal tree model ≡ None

-- the source's tokens, and their tree
pub record HasTree (source : List ℕ) (tree : Items) : Type 0 where
  pub tokens : List Token
  pub has : HasTokens source tokens
  pub tree_of : IsTreeOf (signs_of tokens) tree

-- the answer to a source and a run file, under this data model, with so many turns
pub data IsAnswer (model : Model) (turns : ℕ) (source file : List ℕ) (answer : Outcome) : Type 0 where
  too_long : 1048576 < length source → answer ≡ Over 1 1048577 → IsAnswer model turns source file answer
  no_tokens : (fail : SourceFail) → length source ≤ 1048576 → Fits source (Err fail) → answer ≡ refused source fail → IsAnswer model turns source file answer
  no_tree : (tokens : List Token) → HasTokens source tokens → IsUnread source (signs_of tokens) answer → IsAnswer model turns source file answer
  no_program : (tree : Items) (fail : SourceFail) → HasTree source tree → source_refusal tree model ≡ Some fail → answer ≡ refused source fail → IsAnswer model turns source file answer
  no_values : (tree : Items) (fail : StoredFail) → HasTree source tree → IsAccepted tree model → read_run_of file ≡ Err fail → answer ≡ run_refused fail → IsAnswer model turns source file answer
  run_ends : (tree : Items) (values : List ℤ) → HasTree source tree → IsAccepted tree model → Spells values file → length values ≤ 1000000 → answer ≡ said_of source turns values (run turns tree model values) → IsAnswer model turns source file answer

-- the answer to some words: USAGE where they have no request
pub data Means (words : List (List ℕ)) (file : List ℕ → List ℕ) (answer : Outcome) : Type 0 where
  no_request : request_of words ≡ None → answer ≡ Usage → Means words file answer
  request : (wanted : Wanted) → request_of words ≡ Some wanted → IsAnswer wanted.model wanted.turns (file wanted.source) (file wanted.run) answer → Means words file answer

-- some words over some files have exactly one answer
abbrev pub OneAnswer : Type 0
OneAnswer = (words : List (List ℕ)) (file : List ℕ → List ℕ) (answer : Outcome) → (outcome_of words file ≡ answer) ↔ Means words file answer
