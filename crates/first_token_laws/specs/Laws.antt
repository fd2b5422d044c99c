-- The token at which a source is refused.
use Rattle.std.specs.Prelude.{◌≡◌, ◌≢◌, ◌<◌, List, [], ◌∷◌, ◌++◌}
use Rattle.c_tree.specs.declared.symbol.SymbolAt.{SymbolAt}
use Rattle.c_tree.specs.Tree.{Items}
use Rattle.c_tree.specs.Height.{height_items}
use Rattle.c_tree.specs.Denotes.{IsSpelled, Begins}
use Rattle.parse_machine.specs.Machine.{Result, TooHigh, State, Going, Over, start, run, refusal}

-- Some shaped tree begins with the tokens before this one, and none, of whatever height, with those up to it.
pub record IsFirstRefused (tokens : List SymbolAt) (token : SymbolAt) : Type 0 where
  pub before : List SymbolAt
  pub behind : List SymbolAt
  pub are : before ++ token ∷ behind ≡ tokens
  pub begins : Begins before
  pub none : Begins (before ++ token ∷ []) → ⊥

-- Of some tokens one at most is the first that is refused.
abbrev pub HasOneFirst : Type 0
HasOneFirst = (tokens : List SymbolAt) (a b : SymbolAt) → (w : IsFirstRefused tokens a) → (v : IsFirstRefused tokens b) → (w.before ≡ v.before) × (a ≡ b)

-- Some shaped tree begins with the tokens that the machine reads without stopping.
abbrev pub IsViable : Type 0
IsViable = (tokens : List SymbolAt) (state : State) → run tokens (Going start) ≡ Going state → Begins tokens

-- A fault is at the first token up to which no shaped tree begins, and says whether that token is left out of the subset.
abbrev pub FaultsFirst : Type 0
FaultsFirst = (tokens : List SymbolAt) (answer : Result) → run tokens (Going start) ≡ Over answer → answer ≢ TooHigh → (token : SymbolAt) × IsFirstRefused tokens token × (refusal token ≡ answer)

-- Some shaped tree begins with the tokens up to this one, and each such tree is higher than 200.
pub record IsTooHighAt (tokens : List SymbolAt) (token : SymbolAt) : Type 0 where
  pub before : List SymbolAt
  pub behind : List SymbolAt
  pub are : before ++ token ∷ behind ≡ tokens
  pub begins : Begins (before ++ token ∷ [])
  pub high : (w : Begins (before ++ token ∷ [])) → 200 < height_items w.tree

-- The limit on the height is passed only at such a token.
abbrev pub LimitsRightly : Type 0
LimitsRightly = (tokens : List SymbolAt) → run tokens (Going start) ≡ Over TooHigh → (token : SymbolAt) × IsTooHighAt tokens token

-- Two shaped trees with the same tokens are equal, whatever their heights.
abbrev pub HasOneTree : Type 0
HasOneTree = (tokens : List SymbolAt) (a b : Items) → IsSpelled tokens a → IsSpelled tokens b → a ≡ b
