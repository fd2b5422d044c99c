-- The whole machine: files, items that are skipped, and the limit on the height.
use Rattle.std.specs.Prelude.{ℕ, leb, List, [], ◌∷◌, Option, None, Some, if◌then◌else◌, Bool, false, ◌||◌, not}
use Rattle.c_tree.specs.declared.symbol.StorageWord.TheVariants as storage
use Rattle.c_tree.specs.declared.symbol.Symbol.{Symbol}
use Rattle.c_tree.specs.declared.symbol.Symbol.TheVariants as sy
use Rattle.c_tree.specs.declared.symbol.SymbolAt.{SymbolAt}
use Rattle.c_tree.specs.Shape.{is_listed, is_stop}
use Rattle.c_tree.specs.Tree.{Raw, no_raw, raw_and, Words, no_words, words_and, wExtension, tSkipped, Items, no_items, items_and}
use Rattle.parse_machine.specs.Tokens.{is_unsupported}
use Rattle.parse_machine.specs.Contexts.{placeFile, Around, aroundPlace, Mode, File, Ended, Specifiers, Finished}
use Rattle.parse_machine.specs.Heights.{low}
use Rattle.parse_machine.specs.Declarations.{Turn}
use Rattle.parse_machine.specs.Steps.{next}

-- the offsets of `__extension__` and of `extern`, and the tokens behind
pub record Extern : Type 0 where
  pub extension : Option ℕ
  pub at : ℕ
  pub raw : Raw

-- An item that begins with `extern` is read and kept as tokens, until it is known which it is. As tokens alone it is kept
-- once a token has come that lets it be skipped. While both are open the limit on the height is not tested, and it is
-- kept whether it was passed; where it was, and the item can't be skipped any more, all its trees are above the limit.
pub data Phase : Type 0 where
  Plain : Mode → Phase
  Both : Extern → Option Mode → Bool → Phase
  Skipping : Extern → Phase
  Above : Phase

pub record State : Type 0 where
  pub items : Items
  pub names : List (List ℕ)
  pub phase : Phase

abbrev pub state : Items → List (List ℕ) → Phase → State
state is names p = record { items = is; names = names; phase = p }

abbrev pub start : State
start = state no_items [] (Plain File)

-- an item that is whole stands behind the others
abbrev pub filed : Items → List (List ℕ) → Phase → State
filed is names (Plain (Ended i h)) = state (items_and is i) names (Plain File)
filed is names p = state is names p

abbrev pub extern : Option ℕ → ℕ → Raw → Extern
extern x at r = record { extension = x; at = at; raw = r }

-- where `extern` begins an item
abbrev pub opens_words : Words → ℕ → Option Extern
opens_words (words_and no_words (wExtension x)) at = Some (extern (Some x) at no_raw)
opens_words _ at = None

abbrev pub opens_around : Around → Words → ℕ → Option Extern
opens_around (aroundPlace placeFile) ws at = opens_words ws at
opens_around _ ws at = None

abbrev pub opens_mode : Mode → ℕ → Option Extern
opens_mode File at = Some (extern None at no_raw)
opens_mode (Specifiers s w) at = opens_around w s.words at
opens_mode _ at = None

abbrev pub opens : Symbol → ℕ → Mode → Option Extern
opens (sy.Storage storage.Extern) at m = opens_mode m at
opens _ at m = None

-- what a token is to an item that may be skipped
pub data Role : Type 0 where
  listedRole : Role
  semicolonRole : Role
  stopRole : Role
  otherRole : Role

abbrev pub role : Symbol → Role
role sy.Semicolon = semicolonRole
role s = if is_stop s then stopRole else (if is_listed s then listedRole else otherRole)

abbrev pub more : Extern → SymbolAt → Extern
more x t = extern x.extension x.at (raw_and x.raw t)

abbrev pub plain : Items → Option Turn → Option State
plain is None = None
plain is (Some u) = Some (state is u.names (Plain u.mode))

abbrev pub go : List (List ℕ) → SymbolAt → Option Mode → Option Turn
go names t None = None
go names t (Some m) = next names t m

-- the item as it is read so far, or what can only be skipped
abbrev pub both : Items → List (List ℕ) → Extern → Bool → Option Turn → State
both is names x high None = state is names (Both x None high)
both is names x high (Some u) = state is u.names (Both x (Some u.mode) (high || not (leb (low u.mode) 200)))

-- the item can't be skipped any more
abbrev pub settled : Bool → Items → Option Turn → Option State
settled high is None = None
settled high is (Some u) = Some (state is u.names (if high then Above else Plain u.mode))

abbrev pub step_both : Role → Items → List (List ℕ) → SymbolAt → Extern → Option Mode → Bool → Option State
step_both listedRole is names t x m high = Some (state is names (Skipping (more x t)))
step_both otherRole is names t x m high = Some (both is names (more x t) high (go names t m))
step_both semicolonRole is names t x m high = settled high is (go names t m)
step_both stopRole is names t x m high = settled high is (go names t m)

abbrev pub step_skipping : Role → Items → List (List ℕ) → SymbolAt → Extern → Option State
step_skipping semicolonRole is names t x = Some (state is names (Plain (Ended (tSkipped x.extension x.at x.raw t.at) 0)))
step_skipping stopRole is names t x = None
step_skipping _ is names t x = Some (state is names (Skipping (more x t)))

abbrev pub step_plain : Option Extern → Items → List (List ℕ) → SymbolAt → Mode → Option State
step_plain None is names t m = plain is (next names t m)
step_plain (Some x) is names t m = Some (both is names x false (next names t m))

abbrev pub step_phase : Items → List (List ℕ) → SymbolAt → Phase → Option State
step_phase is names t (Plain m) = step_plain (opens t.symbol t.at m) is names t m
step_phase is names t (Both x m high) = step_both (role t.symbol) is names t x m high
step_phase is names t (Skipping x) = step_skipping (role t.symbol) is names t x
step_phase is names t Above = None

abbrev pub step_state : SymbolAt → State → Option State
step_state t s = step_phase s.items s.names t s.phase

abbrev pub step : SymbolAt → State → Option State
step t s = step_state t (filed s.items s.names s.phase)

-- the height that every tree has; an item that may be skipped has none
abbrev pub phase_low : Phase → ℕ
phase_low (Plain m) = low m
phase_low Above = 201
phase_low _ = 0

-- what comes behind a token: a state, no tree, or only trees that are higher than 200
pub data Answer : Type 0 where
  Goes : State → Answer
  Refused : Answer
  High : Answer

abbrev pub limited : Option State → Answer
limited None = Refused
limited (Some s) = if leb (phase_low s.phase) 200 then Goes s else High

abbrev pub limited_step : SymbolAt → State → Answer
limited_step t s = limited (step t s)

-- a whole file's tree, or the token behind which there is none
pub data Result : Type 0 where
  Tree : Items → Result
  Syntax : ℕ → Result
  Unsupported : ℕ → Result
  TooHigh : Result

abbrev pub refusal : SymbolAt → Result
refusal t = if is_unsupported t.symbol then Unsupported t.at else Syntax t.at

abbrev pub finish_phase : Items → Phase → Result
finish_phase is (Plain Finished) = Tree is
finish_phase is _ = Syntax 0

-- where the tokens end without the source's end, which no list of tokens of a source does, the fault is at 0
abbrev pub finish : State → Result
finish s = finish_phase s.items s.phase

-- how far the machine has come: it goes on, or it has its answer
pub data Course : Type 0 where
  Going : State → Course
  Over : Result → Course

abbrev pub course : SymbolAt → Answer → Course
course t (Goes s) = Going s
course t Refused = Over (refusal t)
course t High = Over TooHigh

abbrev pub advance : SymbolAt → Course → Course
advance t (Going s) = course t (limited_step t s)
advance t (Over r) = Over r

abbrev pub outcome : Course → Result
outcome (Going s) = finish s
outcome (Over r) = r

abbrev pub run : List SymbolAt → Course → Course
run [] c = c
run (t ∷ ts) c = run ts (advance t c)

-- the tree of a file's tokens
abbrev pub parse_of : List SymbolAt → Result
parse_of ts = outcome (run ts (Going start))
