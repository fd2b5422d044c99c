-- What an answer of the parser says of the tokens, in words of the grammar alone.
use Rattle.std.specs.Prelude.{ℕ, ◌≡◌, List, [], ◌∷◌, ◌++◌, Bool, true, false}
use Rattle.lv_base.specs.declared.fail.SourceFail.{SourceFail}
use Rattle.lv_base.specs.declared.fail.SourceFail.TheVariants as source
use Rattle.lv_base.specs.declared.fault.SourceFault.TheVariants as fault
use Rattle.c_tree.specs.declared.symbol.Symbol.TheVariants as sy
use Rattle.c_tree.specs.declared.symbol.SymbolAt.{SymbolAt}
use Rattle.c_tree.specs.Tree.{Items}
use Rattle.c_tree.specs.Symbols.{sign}
use Rattle.c_tree.specs.Denotes.{IsSpelled}
use Rattle.parse_machine.specs.Tokens.{is_unsupported}
use Rattle.parse_machine.specs.Machine as ma
use Rattle.first_token_laws.specs.Laws.{IsFirstRefused, IsTooHighAt}

-- no other shaped tree, of whatever height, has these tokens
abbrev pub IsOnly : List SymbolAt → Items → Type 0
IsOnly tokens tree = (other : Items) → IsSpelled tokens other → other ≡ tree

-- the first token up to which no shaped tree begins has this offset, and is one of those that are left out of the subset, or is none
abbrev pub IsStopped : List SymbolAt → ℕ → Bool → Type 0
IsStopped tokens at unsupported = (token : SymbolAt) × IsFirstRefused tokens token × (at ≡ token.at) × (is_unsupported token.symbol ≡ unsupported)

-- the last token is a source's end
pub record IsEnded (tokens : List SymbolAt) : Type 0 where
  pub before : List SymbolAt
  pub at : ℕ
  pub are : before ++ sign sy.End at ∷ [] ≡ tokens

-- what each answer says of the tokens
abbrev pub IsReading : List SymbolAt → ma.Result → Type 0
IsReading tokens (ma.Tree tree) = IsSpelled tokens tree × IsOnly tokens tree
IsReading tokens (ma.Syntax at) = IsEnded tokens → IsStopped tokens at false
IsReading tokens (ma.Unsupported at) = IsStopped tokens at true
IsReading tokens ma.TooHigh = (token : SymbolAt) × IsTooHighAt tokens token

-- what a refusal says of them
abbrev pub IsRefusal : List SymbolAt → SourceFail → Type 0
IsRefusal tokens (source.Fault fault.Syntax at) = IsEnded tokens → IsStopped tokens at false
IsRefusal tokens (source.Fault fault.Unsupported at) = IsStopped tokens at true
IsRefusal tokens (source.Fault _ at) = ⊥
IsRefusal tokens (source.Over number count) = ((token : SymbolAt) × IsTooHighAt tokens token) × (number ≡ 3) × (count ≡ 201)
IsRefusal tokens source.Memory = Unit {0}
