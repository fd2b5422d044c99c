-- What the reading of a source gives: its tree, where nothing refuses it.
use Rattle.std.specs.Prelude.{ℕ, ◌≡◌, ◌≤◌, List, Option, Some, None, ℤ, Result, Ok, Err}
use Rattle.lv_base.specs.declared.kind.Model.{Model}
use Rattle.lv_base.specs.declared.fail.SourceFail.{SourceFail}
use Rattle.lv_base.specs.declared.fail.SourceFail.TheVariants.{Fault, Over}
use Rattle.lv_base.specs.declared.fault.SourceFault.TheVariants.{Syntax, Unsupported}
use Rattle.c_lexer.specs.Lexed.{lexed}
use Rattle.c_lexer.specs.declared.token.Token.{Token}
use Rattle.c_tree.specs.Symbols.{signs_of}
use Rattle.c_tree.specs.Tree.{Items}
use Rattle.c_tree.specs.Height.{height_items}
use Rattle.c_tree.specs.Denotes.{IsSpelled}
use Rattle.c_tokens.specs.Divisions.{Fits}
use Rattle.parse_machine.specs.Machine as ma
use Rattle.c_meaning.specs.Program.{run}
use Rattle.c_typed.specs.Tree.{Program}
use Rattle.c_typed.specs.Run as typed
use Rattle.c_types.specs.Elaborated.{elaborated}
use Rattle.c_types.specs.Laws.{SourceFits}
use Rattle.source_checks.specs.Refusals.{source_refusal}

abbrev pub parsed_of : ma.Result → Result Items SourceFail
parsed_of (ma.Tree tree) = Ok tree
parsed_of (ma.Syntax at) = Err (Fault Syntax at)
parsed_of (ma.Unsupported at) = Err (Fault Unsupported at)
parsed_of ma.TooHigh = Err (Over 3 201)

abbrev pub tokens_read : Result (List Token) SourceFail → Result Items SourceFail
tokens_read (Err fail) = Err fail
tokens_read (Ok tokens) = parsed_of (ma.parse_of (signs_of tokens))

-- the tree of a source of at most 1,048,576 bytes
abbrev pub tree_read : List ℕ → Result Items SourceFail
tree_read source = tokens_read (lexed source)

abbrev pub unless : Option SourceFail → Items → Result Items SourceFail
unless None tree = Ok tree
unless (Some fail) tree = Err fail

abbrev pub checked : Model → Result Items SourceFail → Result Items SourceFail
checked model (Err fail) = Err fail
checked model (Ok tree) = unless (source_refusal tree model) tree

-- the tree, where it breaks no rule and passes no limit
abbrev pub source_read : Model → List ℕ → Result Items SourceFail
source_read model source = checked model (tree_read source)

-- with any number of turns, on any inputs
abbrev pub RunsAs : Program → Items → Model → Type 0
RunsAs program tree model = (turns : ℕ) (inputs : List ℤ) → typed.run turns program inputs ≡ run turns tree model inputs

-- The source's tokens are those of this tree, which is at most 200 high, breaks no rule and passes no limit.
pub record IsSourceTree (model : Model) (source : List ℕ) (tree : Items) : Type 0 where
  pub tokens : List Token
  pub has : Fits source (Ok tokens)
  pub spelled : IsSpelled (signs_of tokens) tree
  pub low : height_items tree ≤ 200
  pub free : source_refusal tree model ≡ None

-- the typed tree that is made of the source, which runs as it does
pub record IsReplay (model : Model) (source : List ℕ) (program : Program) : Type 0 where
  pub tree : Items
  pub read : IsSourceTree model source tree
  pub made : program ≡ elaborated tree model
  pub fits : SourceFits tree model
  pub runs : RunsAs program tree model
