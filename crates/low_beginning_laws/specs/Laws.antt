-- Which tokens some shaped tree of height at most 200 begins with.
use Rattle.std.specs.Prelude.{◌≡◌, List, [], ◌∷◌, ◌++◌}
use Rattle.c_tree.specs.declared.symbol.SymbolAt.{SymbolAt}
use Rattle.c_tree.specs.Denotes.{Begins, BeginsWithin}
use Rattle.parse_machine.specs.Machine.{Result, TooHigh, State, Going, Over, start, run, refusal}

-- Some shaped tree of height at most 200 begins with the tokens that the machine reads without stopping.
abbrev pub HasLowTree : Type 0
HasLowTree = (tokens : List SymbolAt) (state : State) → run tokens (Going start) ≡ Going state → BeginsWithin 200 tokens

-- Some shaped tree of height at most 200 begins with the tokens before this one, and none of such a height with those up to it.
pub record IsFirstStop (tokens : List SymbolAt) (token : SymbolAt) : Type 0 where
  pub before : List SymbolAt
  pub behind : List SymbolAt
  pub are : before ++ token ∷ behind ≡ tokens
  pub begins : BeginsWithin 200 before
  pub none : BeginsWithin 200 (before ++ token ∷ []) → ⊥

-- The limit on the height is answered where some shaped tree, which is higher, begins with the tokens up to this one, and where none of whatever height
-- does, the fault of this one.
abbrev pub IsReason : Result → SymbolAt → List SymbolAt → Type 0
IsReason TooHigh token up_to = Begins up_to
IsReason answer token up_to = (refusal token ≡ answer) × (Begins up_to → ⊥)

-- The machine stops at such a token, and says why.
abbrev pub StopsFirst : Type 0
StopsFirst = (tokens : List SymbolAt) (answer : Result) → run tokens (Going start) ≡ Over answer → (token : SymbolAt) × (stop : IsFirstStop tokens token) × IsReason answer token (stop.before ++ token ∷ [])

-- Of some tokens one at most is such a token.
abbrev pub HasOneStop : Type 0
HasOneStop = (tokens : List SymbolAt) (a b : SymbolAt) → (w : IsFirstStop tokens a) → (v : IsFirstStop tokens b) → (w.before ≡ v.before) × (a ≡ b)
