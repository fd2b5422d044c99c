-- Some shaped tree of height at most 200 begins with the tokens that the machine reads without stopping, so it stops at the first up to which none begins.
use Rattle.std.proofs.Common.{◌≡◌, ◌≢◌, ℕ, List, [], ◌∷◌, ◌++◌, Option, Bool, refl, subst, sym, ap, ◌∙◌, arith, inl, inr}
use Rattle.std.proofs.lemmas.List.{append_assoc, append-nil}
use Rattle.c_tree.specs.declared.symbol.BinaryOp.TheVariants as op
use Rattle.c_tree.specs.declared.symbol.Symbol.TheVariants as sy
use Rattle.c_tree.specs.declared.symbol.SymbolAt.{SymbolAt}
use Rattle.c_tree.specs.Symbols.{sign}
use Rattle.c_tree.specs.Shape as sh
use Rattle.c_tree.specs.Tree.{tSkipped, Items}
use Rattle.c_tree.specs.Denotes.{Begins, BeginsWithin}
use Rattle.parse_machine.specs.Contexts.{Mode, Ended}
use Rattle.parse_machine.specs.Machine as ma
use Rattle.parse_machine.specs.Machine.{Phase, Plain, Both, Skipping, Above, State, Extern, Result, Tree, TooHigh, Course, Going, Over}
use Rattle.parse_laws.proofs.CompleteFile.{refused}
use Rattle.parse_laws.proofs.CompleteRun.{run_append}
use Rattle.parse_laws.proofs.SoundRun.{sound}
use Rattle.high_tree_laws.proofs.HighFile.{faults, the_only}
use Rattle.first_token_laws.specs.Laws.{IsFirstRefused, IsTooHighAt}
use Rattle.first_token_laws.proofs.FirstRefused.{Stop, reason, run_to_stop, stop_of}
use Rattle.first_token_laws.proofs.HighFirst.{halted}
use Rattle.first_token_laws.proofs.Fillers.{Reader}
use Rattle.first_token_laws.proofs.SureRun.{GoodPhase, going_good}
use Rattle.first_token_laws.proofs.UniqueItem.{OneIsFirst, head_same, one_is_first}
use Rattle.low_beginning_laws.specs.Laws.{IsFirstStop, IsReason}
use Rattle.low_beginning_laws.proofs.RoomRun.{RoomPhase, going_room}
use Rattle.low_beginning_laws.proofs.Close.{ClosesFrom, on_state, ended_closes}
use Rattle.low_beginning_laws.proofs.CloseSt.{semicolon}
use Rattle.low_beginning_laws.proofs.CloseMode.{mode_closes}

-- an item that is skipped ends with `;`
skipping_closes : (is : Items) (names : List (List ℕ)) (x : Extern) → ClosesFrom (ma.state is names (Skipping x))
skipping_closes is names x =
    let i = tSkipped x.extension x.at x.raw 0 in
    on_state (ma.state is names (Skipping x)) (ma.state is names (Plain (Ended i 0))) semicolon refl (omega arith) (ended_closes is names i 0)

-- an item that may be skipped is skipped behind `*`
both_closes : (is : Items) (names : List (List ℕ)) (x : Extern) (m : Option Mode) (high : Bool) → ClosesFrom (ma.state is names (Both x m high))
both_closes is names x m high =
    let t = sign (sy.Binary op.Multiply) 0 in
    on_state (ma.state is names (Both x m high)) (ma.state is names (Skipping (ma.more x t))) t refl (omega arith) (skipping_closes is names (ma.more x t))

phase_closes : (is : Items) (names : List (List ℕ)) (here : Reader) (x : Phase) → GoodPhase (sh.file_names is) names here x → RoomPhase x → ClosesFrom (ma.state is names x)
phase_closes is names here (Plain m) g r = mode_closes (sh.file_names is) is names m g.2 g.5 r.0 r.1
phase_closes is names here (Both x m high) g r = both_closes is names x m high
phase_closes is names here (Skipping x) g r = skipping_closes is names x
phase_closes is names here Above g r = absurd g

-- the machine's tree begins with the tokens
closed_begins : (tokens : List SymbolAt) (s : State) → ma.run tokens (Going ma.start) ≡ Going s → ClosesFrom s → BeginsWithin 200 tokens
closed_begins tokens s h c =
    let all = tokens ++ c.more in
    let read : ma.parse_of all ≡ Tree c.tree = ap ma.outcome (run_append tokens c.more (Going ma.start) ∙ ap (ma.run c.more) h) ∙ c.ends in
    let w = sound all c.tree read in
    record { begins = record { tree = c.tree; shaped = w.shaped; end = w.end; more = c.more; spelled = w.spelled }; low = (the_only all c.tree read).0 }

pub low_beginning : (tokens : List SymbolAt) (s : State) → ma.run tokens (Going ma.start) ≡ Going s → BeginsWithin 200 tokens
low_beginning tokens s h =
    let g = going_good tokens s h in
    closed_begins tokens s h (phase_closes s.items s.names g.here s.phase g.phase (going_room tokens s h))

-- Where it stops.

-- with fewer tokens such a tree begins too
low_before : (p q : List SymbolAt) → BeginsWithin 200 (p ++ q) → BeginsWithin 200 p
low_before p q w = let v = w.begins in record { begins = record { tree = v.tree; shaped = v.shaped; end = v.end; more = q ++ v.more; spelled = v.spelled ∙ append_assoc p q v.more }; low = w.low }

pub low_up_to : (tokens before behind : List SymbolAt) (token : SymbolAt) → before ++ token ∷ behind ≡ tokens → BeginsWithin 200 tokens → BeginsWithin 200 (before ++ token ∷ [])
low_up_to tokens before behind token are low = low_before (before ++ token ∷ []) behind (subst (BeginsWithin 200) (sym are ∙ sym (append_assoc before (token ∷ []) behind)) low)

fault_reason : (tokens : List SymbolAt) (answer : Result) → answer ≢ TooHigh → (w : Stop ma.start tokens answer) → (ma.refusal w.token ≡ answer) × (Begins (w.before ++ w.token ∷ []) → ⊥)
fault_reason tokens answer n w = (reason w.token (ma.limited_step w.token w.state) answer w.stops n, faults (w.before ++ w.token ∷ []) answer (run_to_stop tokens answer w) n)

stop_reason : (tokens : List SymbolAt) (answer : Result) → ma.run tokens (Going ma.start) ≡ Over answer → (w : Stop ma.start tokens answer) → IsReason answer w.token (w.before ++ w.token ∷ [])
stop_reason tokens TooHigh h w = halted w.before w.token w.state (ma.step w.token w.state) (going_good w.before w.state w.goes) refl w.stops
stop_reason tokens (ma.Tree tree) h w = fault_reason tokens (ma.Tree tree) (λ e. cc) w
stop_reason tokens (ma.Syntax at) h w = fault_reason tokens (ma.Syntax at) (λ e. cc) w
stop_reason tokens (ma.Unsupported at) h w = fault_reason tokens (ma.Unsupported at) (λ e. cc) w

pub first_stop : (tokens : List SymbolAt) (answer : Result) → ma.run tokens (Going ma.start) ≡ Over answer → (token : SymbolAt) × (stop : IsFirstStop tokens token) × IsReason answer token (stop.before ++ token ∷ [])
first_stop tokens answer h =
    let w = stop_of tokens ma.start answer h in
    (w.token, record { before = w.before; behind = w.behind; are = w.are; begins = low_beginning w.before w.state w.goes; none = refused (w.before ++ w.token ∷ []) answer (run_to_stop tokens answer w) }, stop_reason tokens answer h w)

-- tokens with one that is refused begin no tree of such a height, and so do those that are too high
pub refused_not_low : (tokens : List SymbolAt) (token : SymbolAt) → IsFirstRefused tokens token → BeginsWithin 200 tokens → ⊥
refused_not_low tokens token w low = w.none (low_up_to tokens w.before w.behind token w.are low).begins

pub high_not_low : (tokens : List SymbolAt) (token : SymbolAt) → IsTooHighAt tokens token → BeginsWithin 200 tokens → ⊥
high_not_low tokens token w low = let z = low_up_to tokens w.before w.behind token w.are low in absurd (omega (arith, w.high z.begins, z.low))

-- where the tokens begin no tree of such a height, it stops
pub unread : (tokens : List SymbolAt) (answer : Result) → ma.parse_of tokens ≡ answer → (BeginsWithin 200 tokens → ⊥) → (token : SymbolAt) × (stop : IsFirstStop tokens token) × IsReason answer token (stop.before ++ token ∷ [])
unread tokens answer read none = by_course (ma.run tokens (Going ma.start)) refl
  where
    by_course : (c : Course) → ma.run tokens (Going ma.start) ≡ c → (token : SymbolAt) × (stop : IsFirstStop tokens token) × IsReason answer token (stop.before ++ token ∷ [])
    by_course (Going s) e = absurd (none (low_beginning tokens s e))
    by_course (Over r) e = first_stop tokens answer (e ∙ ap Over (sym (ap ma.outcome e) ∙ read))

-- One token at most is such a token.

abbrev SamePlace : List SymbolAt → List SymbolAt → SymbolAt → SymbolAt → Type 0
SamePlace p q a c = (p ≡ q) × (a ≡ c)

first_part : (p q x r s : List SymbolAt) (a c : SymbolAt) → BeginsWithin 200 q → (BeginsWithin 200 (p ++ a ∷ []) → ⊥) → q ≡ p ++ x → a ∷ r ≡ x ++ c ∷ s → SamePlace p q a c
first_part p q [] r s a c w n e h = (sym (e ∙ append-nil p), head_same a c r s h)
first_part p q (t ∷ x) r s a c w n e h =
    absurd (n (low_before (p ++ a ∷ []) x (subst (BeginsWithin 200) (e ∙ ap (λ z. p ++ z ∷ x) (sym (head_same a t r (x ++ c ∷ s) h)) ∙ sym (append_assoc p (a ∷ []) x)) w)))

one_place : (p q r s : List SymbolAt) (a c : SymbolAt) → BeginsWithin 200 p → BeginsWithin 200 q → (BeginsWithin 200 (p ++ a ∷ []) → ⊥) → (BeginsWithin 200 (q ++ c ∷ []) → ⊥) → OneIsFirst p q (a ∷ r) (c ∷ s) → SamePlace p q a c
one_place p q r s a c w v n m (inl z) = let y = first_part q p z.0 s r c a w m z.1 z.2 in (sym y.0, sym y.1)
one_place p q r s a c w v n m (inr z) = first_part p q z.0 r s a c v n z.1 z.2

pub one_stop : (tokens : List SymbolAt) (a c : SymbolAt) → (w : IsFirstStop tokens a) → (v : IsFirstStop tokens c) → (w.before ≡ v.before) × (a ≡ c)
one_stop tokens a c w v = one_place w.before v.before w.behind v.behind a c w.begins v.begins w.none v.none (one_is_first w.before v.before (a ∷ w.behind) (c ∷ v.behind) (w.are ∙ sym v.are))
