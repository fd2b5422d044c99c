-- The whole machine: each state that it comes to leaves room.
use Rattle.std.proofs.Common.{◌≡◌, ℕ, ◌≤◌, List, [], ◌∷◌, Option, None, Some, Bool, true, false, ◌||◌, not, if◌then◌else◌, leb, refl, subst, arith, leb-true}
use Rattle.c_tree.specs.declared.symbol.Symbol.{Symbol}
use Rattle.c_tree.specs.declared.symbol.Symbol.TheVariants as sy
use Rattle.c_tree.specs.declared.symbol.SymbolAt.{SymbolAt}
use Rattle.c_tree.specs.Shape as sh
use Rattle.c_tree.specs.Symbols.{sign}
use Rattle.c_tree.specs.Tree.{Items}
use Rattle.parse_machine.specs.Contexts.{Mode, Ended}
use Rattle.parse_machine.specs.Heights.{low}
use Rattle.parse_machine.specs.Declarations.{Turn}
use Rattle.parse_machine.specs.Steps as steps
use Rattle.parse_machine.specs.Machine as ma
use Rattle.parse_machine.specs.Machine.{Phase, Plain, Both, Skipping, Above, State, Extern, Goes, High, Course, Going, Over, listedRole, stopRole, otherRole}
use Rattle.low_beginning_laws.proofs.Room.{Room}
use Rattle.low_beginning_laws.proofs.RoomSteps.{RoomTurn, turn_room}

-- an item that may be skipped leaves room unless its trees are too high
abbrev pub RoomPhase : Phase → Type 0
RoomPhase (Plain m) = (low m ≤ 200) × Room m
RoomPhase (Both x None high) = Unit {0}
RoomPhase (Both x (Some m) high) = high ≡ false → (low m ≤ 200) × Room m
RoomPhase (Skipping x) = Unit {0}
RoomPhase Above = Unit {0}

abbrev RoomNext : Option State → Type 0
RoomNext None = Unit {0}
RoomNext (Some s) = ma.phase_low s.phase ≤ 200 → RoomPhase s.phase

either_false : (c d : Bool) → (c || d) ≡ false → (c ≡ false) × (d ≡ false)
either_false true d h = cc
either_false false true h = cc
either_false false false h = (refl, refl)

low_not_high : (n : ℕ) → not (leb n 200) ≡ false → n ≤ 200
low_not_high n h = leb-true n 200 (not_not (leb n 200) h)
  where
    not_not : (c : Bool) → not c ≡ false → c ≡ true
    not_not true h = refl
    not_not false h = cc

filed_room : (is : Items) (names : List (List ℕ)) (x : Phase) → RoomPhase x → RoomPhase (ma.filed is names x).phase
filed_room is names (Plain (Ended i h)) g = (omega arith, tt)
filed_room is names x g = g

plain_room : (is : Items) (o : Option Turn) → RoomTurn o → RoomNext (ma.plain is o)
plain_room is None g = tt
plain_room is (Some u) g = λ l. (l, g l)

-- the item is read beside
both_room : (is : Items) (names : List (List ℕ)) (x : Extern) (high : Bool) (o : Option Turn) → (high ≡ false → RoomTurn o) → RoomNext (Some (ma.both is names x high o))
both_room is names x high None g = λ l. tt
both_room is names x high (Some u) g = λ l k. let z = either_false high (not (leb (low u.mode) 200)) k in let q = low_not_high (low u.mode) z.1 in (q, g z.0 q)

settled_room : (is : Items) (high : Bool) (o : Option Turn) → (high ≡ false → RoomTurn o) → RoomNext (ma.settled high is o)
settled_room is high None g = tt
settled_room is true (Some u) g = λ l. tt
settled_room is false (Some u) g = λ l. (l, g refl l)

go_room : (names : List (List ℕ)) (t : SymbolAt) (x : Extern) (m : Option Mode) (high : Bool) → RoomPhase (Both x m high) → high ≡ false → RoomTurn (ma.go names t m)
go_room names t x None high g e = tt
go_room names t x (Some m) high g e = let z = g e in turn_room names t m z.0 z.1

both_pick : (is : Items) (names : List (List ℕ)) (x : Extern) (m : Option Mode) (high : Bool) (t : SymbolAt) (c d : Bool) → RoomPhase (Both x m high) → RoomNext (ma.step_both (if c then stopRole else (if d then listedRole else otherRole)) is names t x m high)
both_pick is names x m high t true d g = settled_room is high (ma.go names t m) (go_room names t x m high g)
both_pick is names x m high t false true g = λ l. tt
both_pick is names x m high t false false g = both_room is names (ma.more x t) high (ma.go names t m) (go_room names t x m high g)

both_step_room : (is : Items) (names : List (List ℕ)) (x : Extern) (m : Option Mode) (high : Bool) (t : Symbol) (at : ℕ) → RoomPhase (Both x m high) → RoomNext (ma.step_both (ma.role t) is names (sign t at) x m high)
both_step_room is names x m high sy.Semicolon at g = settled_room is high (ma.go names (sign sy.Semicolon at) m) (go_room names (sign sy.Semicolon at) x m high g)
both_step_room is names x m high t at g = both_pick is names x m high (sign t at) (sh.is_stop t) (sh.is_listed t) g

skip_pick : (is : Items) (names : List (List ℕ)) (x : Extern) (t : SymbolAt) (c d : Bool) → RoomNext (ma.step_skipping (if c then stopRole else (if d then listedRole else otherRole)) is names t x)
skip_pick is names x t true d = tt
skip_pick is names x t false true = λ l. tt
skip_pick is names x t false false = λ l. tt

skip_room : (is : Items) (names : List (List ℕ)) (x : Extern) (t : Symbol) (at : ℕ) → RoomNext (ma.step_skipping (ma.role t) is names (sign t at) x)
skip_room is names x sy.Semicolon at = λ l. (l, tt)
skip_room is names x t at = skip_pick is names x (sign t at) (sh.is_stop t) (sh.is_listed t)

plain_step_room : (is : Items) (names : List (List ℕ)) (t : SymbolAt) (m : Mode) (o : Option Extern) → RoomPhase (Plain m) → RoomNext (ma.step_plain o is names t m)
plain_step_room is names t m None g = plain_room is (steps.next names t m) (turn_room names t m g.0 g.1)
plain_step_room is names t m (Some x) g = both_room is names x false (steps.next names t m) (λ e. turn_room names t m g.0 g.1)

phase_room : (is : Items) (names : List (List ℕ)) (t : SymbolAt) (x : Phase) → RoomPhase x → RoomNext (ma.step_phase is names t x)
phase_room is names t (Plain m) g = plain_step_room is names t m (ma.opens t.symbol t.at m) g
phase_room is names t (Both x m high) g = both_step_room is names x m high t.symbol t.at g
phase_room is names t (Skipping x) g = skip_room is names x t.symbol t.at
phase_room is names t Above g = tt

step_room : (t : SymbolAt) (s : State) → RoomPhase s.phase → RoomNext (ma.step t s)
step_room t s g = let z = ma.filed s.items s.names s.phase in phase_room z.items z.names t z.phase (filed_room s.items s.names s.phase g)

-- Runs.

abbrev RoomCourse : Course → Type 0
RoomCourse (Going s) = RoomPhase s.phase
RoomCourse (Over r) = Unit {0}

limited_room : (t : SymbolAt) (o : Option State) → RoomNext o → RoomCourse (ma.course t (ma.limited o))
limited_room t None g = tt
limited_room t (Some s) g = pick (leb (ma.phase_low s.phase) 200) (λ h. g (leb-true _ _ h))
  where
    pick : (c : Bool) → (c ≡ true → RoomPhase s.phase) → RoomCourse (ma.course t (if c then Goes s else High))
    pick true h = h refl
    pick false h = tt

advance_room : (t : SymbolAt) (c : Course) → RoomCourse c → RoomCourse (ma.advance t c)
advance_room t (Going s) g = limited_room t (ma.step t s) (step_room t s g)
advance_room t (Over r) g = tt

run_room : (ts : List SymbolAt) (c : Course) → RoomCourse c → RoomCourse (ma.run ts c)
run_room [] c g = g
run_room (t ∷ ts) c g = run_room ts (ma.advance t c) (advance_room t c g)

pub going_room : (ts : List SymbolAt) (s : State) → ma.run ts (Going ma.start) ≡ Going s → RoomPhase s.phase
going_room ts s h = subst RoomCourse h (run_room ts (Going ma.start) (omega arith, tt))
