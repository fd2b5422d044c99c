-- A fault is at the first token up to which no shaped tree begins.
use Rattle.std.proofs.Common.{◌≡◌, ◌≢◌, List, [], ◌∷◌, ◌++◌, refl, sym, ap, ◌∙◌}
use Rattle.c_tree.specs.declared.symbol.SymbolAt.{SymbolAt}
use Rattle.parse_machine.specs.Machine as ma
use Rattle.parse_machine.specs.Machine.{State, Answer, Goes, Refused, High, Result, TooHigh, Course, Going, Over}
use Rattle.parse_laws.proofs.CompleteRun.{run_append}
use Rattle.high_tree_laws.proofs.HighFile.{faults}
use Rattle.std.proofs.Common.{subst, inl, inr}
use Rattle.std.proofs.lemmas.List.{append_assoc, append-nil}
use Rattle.c_tree.specs.Denotes.{Begins}
use Rattle.first_token_laws.specs.Laws.{IsFirstRefused}
use Rattle.first_token_laws.proofs.UniqueItem.{OneIsFirst, head_same, one_is_first}
use Rattle.first_token_laws.proofs.Viable.{viable}

-- the token at which the machine stops
pub record Stop (s : State) (tokens : List SymbolAt) (r : Result) : Type 0 where
  pub before : List SymbolAt
  pub token : SymbolAt
  pub behind : List SymbolAt
  pub are : before ++ token ∷ behind ≡ tokens
  pub state : State
  pub goes : ma.run before (Going s) ≡ Going state
  pub stops : ma.advance token (Going state) ≡ Over r

over_same : (r q : Result) → Over r ≡ Over q → r ≡ q
over_same r q h = cc

over_stays : (ts : List SymbolAt) (r : Result) → ma.run ts (Over r) ≡ Over r
over_stays [] r = refl
over_stays (t ∷ ts) r = over_stays ts r

pub stop_of : (tokens : List SymbolAt) (s : State) (r : Result) → ma.run tokens (Going s) ≡ Over r → Stop s tokens r
stop_of [] s r h = cc
stop_of (t ∷ ts) s r h = behind (λ z e. stop_of ts z r e) (ma.advance t (Going s)) refl h
  where
    behind : ((z : State) → ma.run ts (Going z) ≡ Over r → Stop z ts r) → (c : Course) → ma.advance t (Going s) ≡ c → ma.run ts c ≡ Over r → Stop s (t ∷ ts) r
    behind ih (Over q) e g = record { before = []; token = t; behind = ts; are = refl; state = s; goes = refl; stops = e ∙ ap Over (over_same q r (sym (over_stays ts q) ∙ g)) }
    behind ih (Going z) e g =
        let w = ih z g in
        record { before = t ∷ w.before; token = w.token; behind = w.behind; are = ap (λ q. t ∷ q) w.are; state = w.state; goes = ap (ma.run w.before) e ∙ w.goes; stops = w.stops }

-- up to the token at which it stops
pub run_to_stop : (tokens : List SymbolAt) (r : Result) (w : Stop ma.start tokens r) → ma.run (w.before ++ w.token ∷ []) (Going ma.start) ≡ Over r
run_to_stop tokens r w = run_append w.before (w.token ∷ []) (Going ma.start) ∙ ap (ma.run (w.token ∷ [])) w.goes ∙ w.stops

pub reason : (t : SymbolAt) (a : Answer) (r : Result) → ma.course t a ≡ Over r → r ≢ TooHigh → ma.refusal t ≡ r
reason t (Goes s) r h n = cc
reason t Refused r h n = over_same (ma.refusal t) r h
reason t High r h n = absurd (n (sym (over_same TooHigh r h)))

pub first_refused : (tokens : List SymbolAt) (r : Result) → ma.run tokens (Going ma.start) ≡ Over r → r ≢ TooHigh → (token : SymbolAt) × IsFirstRefused tokens token × (ma.refusal token ≡ r)
first_refused tokens r h n =
    let w = stop_of tokens ma.start r h in
    (w.token, record { before = w.before; behind = w.behind; are = w.are; begins = viable w.before w.state w.goes; none = faults (w.before ++ w.token ∷ []) r (run_to_stop tokens r w) n }, reason w.token (ma.limited_step w.token w.state) r w.stops n)

-- with fewer tokens a tree begins too
begins_before : (p q : List SymbolAt) → Begins (p ++ q) → Begins p
begins_before p q w = record { tree = w.tree; shaped = w.shaped; end = w.end; more = q ++ w.more; spelled = w.spelled ∙ append_assoc p q w.more }

abbrev SamePlace : List SymbolAt → List SymbolAt → SymbolAt → SymbolAt → Type 0
SamePlace p q a c = (p ≡ q) × (a ≡ c)

-- what begins no tree does not stand before what begins one
first_part : (p q x r s : List SymbolAt) (a c : SymbolAt) → Begins q → (Begins (p ++ a ∷ []) → ⊥) → q ≡ p ++ x → a ∷ r ≡ x ++ c ∷ s → SamePlace p q a c
first_part p q [] r s a c w n e h = (sym (e ∙ append-nil p), head_same a c r s h)
first_part p q (t ∷ x) r s a c w n e h =
    absurd (n (begins_before (p ++ a ∷ []) x (subst Begins (e ∙ ap (λ z. p ++ z ∷ x) (sym (head_same a t r (x ++ c ∷ s) h)) ∙ sym (append_assoc p (a ∷ []) x)) w)))

one_place : (p q r s : List SymbolAt) (a c : SymbolAt) → Begins p → Begins q → (Begins (p ++ a ∷ []) → ⊥) → (Begins (q ++ c ∷ []) → ⊥) → OneIsFirst p q (a ∷ r) (c ∷ s) → SamePlace p q a c
one_place p q r s a c w v n m (inl z) = let y = first_part q p z.0 s r c a w m z.1 z.2 in (sym y.0, sym y.1)
one_place p q r s a c w v n m (inr z) = first_part p q z.0 r s a c v n z.1 z.2

-- Only one token of some tokens is the first that is refused.
pub one_first : (tokens : List SymbolAt) (a c : SymbolAt) → (w : IsFirstRefused tokens a) → (v : IsFirstRefused tokens c) → (w.before ≡ v.before) × (a ≡ c)
one_first tokens a c w v = one_place w.before v.before w.behind v.behind a c w.begins v.begins w.none v.none (one_is_first w.before v.before (a ∷ w.behind) (c ∷ v.behind) (w.are ∙ sym v.are))
