-- What follows behind a count, a term, a formula, a chain and a log.
use Rattle.std.proofs.Common.{◌≡◌, ℕ, ◌+◌, ◌-◌, ◌<◌, ◌≤◌, Bool, true, false, List, [], ◌∷◌, ◌++◌, length, refl, sym, ap, ◌∙◌, subst, arith, ◌==◌, if◌then◌else◌, append_assoc, length-append, nat_le}
use Rattle.std.specs.Prelude.{codes}
use Rattle.std.proofs.lemmas.Bool.Decides.{nat_tests}
use Rattle.bv_term.specs.declared.term.Term.{Term}
use Rattle.stored_text.specs.RunText.{number_text}
use Rattle.cert_text.specs.declared.place.Fixed.TheVariants.{BeforeNodes, BeforeLogs, BeforeChains, Close}
use Rattle.cert_text.specs.declared.place.Slot.{Slot}
use Rattle.cert_text.specs.declared.place.Slot.TheVariants.{Text, Letter, Formula, Start, Pivot}
use Rattle.cert_text.specs.declared.steps.Act.{Act}
use Rattle.cert_text.specs.declared.steps.Act.TheVariants.{Adds, Maps}
use Rattle.cert_text.specs.CertText.{number_line, term_text, terms_text, formulas_text, chain_text, chains_text, log_text, logs_text}
use Rattle.cert_text.specs.Steps.{go, moves, add, less, log_end, chain_end, clause_read, line}
use Rattle.cert_text.specs.Drafts.{Said, acted, chain_closed, log_closed}
use Rattle.cert_text.specs.Ranges.{IsShort, TermFits}
use Rattle.certificate_laws.specs.Fits.{AllFit, ChainFits, LogFits}
use Rattle.certificate_laws.proofs.Fronts.{AtTerm, InLog, LogsFit, NoLogs, NodesFit, chain_front, chains_front, log_front, logs_front, node_front, nodes_front, pair_front, pairs_open, term_front, terms_front}
use Rattle.certificate_laws.proofs.Growing.{fit_more, list_grows, pairs_end}
use Rattle.certificate_laws.proofs.FrontSteps.{Follows, by_line, enter}

one_more : {X : Type 0} (xs : List X) (x : X) (n k : ℕ) → length xs + n ≡ length xs + 1 + k → length (xs ++ x ∷ []) + k ≡ length xs + n
one_more xs x n k e =
    let one : length (xs ++ x ∷ []) ≡ length xs + 1 = length-append xs (x ∷ []) in
    omega (arith, one, e)

-- ---- Terms and formulas

term_grows : (s : Said) (t : Term) (n k : ℕ) → length s.terms + n ≡ length s.terms + 1 + k → term_front (acted (Adds t) s) k ≡ term_front s n ++ term_text t
term_grows s t n k e =
    ap (λ (l : List ℕ). terms_front s ++ l) (list_grows term_text s.terms t n k e)
    ∙ sym (append_assoc (terms_front s) (number_line (length s.terms + n) ++ terms_text s.terms) (term_text t))

pub added : (s : Said) (slot : Slot) (here chains left : ℕ) (g : List ℕ) (t : Term) → AtTerm s left → TermFits t → g ≡ term_front s left ++ term_text t
    → Follows s slot here chains g (add left t)
added s slot here chains left g t known fits e = by_last (nat_le left 1) refl
  where
    more : (k : ℕ) → length s.terms + left ≡ length s.terms + 1 + k → IsShort (length (s.terms ++ t ∷ []) + k)
    more k same = let is = one_more s.terms t left k same in omega (arith, is, known.1.2)

    by_last : (x : Bool) → nat_le left 1 ≡ x → Follows s slot here chains g (if x then go (Text BeforeNodes) 0 (Adds t) else go Letter (left - 1) (Adds t))
    by_last true q =
        let few : left ≤ 1 = grind (arith, nat_tests) in
        let same : length s.terms + left ≡ length s.terms + 1 + 0 = omega (arith, few, known.2) in
        enter (acted (Adds t) s) (Text BeforeNodes) 0 0 g (e ∙ sym (term_grows s t left 0 same))
        (known.0, (known.1.0, fit_more TermFits s.terms t known.1.1 fits, more 0 same))
    by_last false q =
        let many : 1 < left = grind (arith, nat_tests) in
        let same : length s.terms + left ≡ length s.terms + 1 + (left - 1) = omega (arith, many) in
        enter (acted (Adds t) s) Letter (left - 1) 0 g (e ∙ sym (term_grows s t left (left - 1) same))
        (known.0, (known.1.0, fit_more TermFits s.terms t known.1.1 fits, more (left - 1) same), omega (arith, many))

formula_grows : (s : Said) (v n k : ℕ) → length s.formulas + n ≡ length s.formulas + 1 + k → node_front (acted (Maps v) s) k ≡ node_front s n ++ number_line v
formula_grows s v n k e =
    ap (λ (l : List ℕ). nodes_front s ++ l) (list_grows number_line s.formulas v n k e)
    ∙ sym (append_assoc (nodes_front s) (number_line (length s.formulas + n) ++ formulas_text s.formulas) (number_line v))

pub mapped : (s : Said) (slot : Slot) (here chains left : ℕ) (g : List ℕ) (v : ℕ) → NoLogs s × NodesFit s left × (1 ≤ left) → IsShort v → g ≡ node_front s left ++ number_line v
    → Follows s slot here chains g (less left (Text BeforeLogs) Formula (Maps v))
mapped s slot here chains left g v known fits e = by_last (nat_le left 1) refl
  where
    more : (k : ℕ) → length s.formulas + left ≡ length s.formulas + 1 + k → IsShort (length (s.formulas ++ v ∷ []) + k)
    more k same = let is = one_more s.formulas v left k same in omega (arith, is, known.1.2)

    by_last : (x : Bool) → nat_le left 1 ≡ x → Follows s slot here chains g (if x then go (Text BeforeLogs) 0 (Maps v) else go Formula (left - 1) (Maps v))
    by_last true q =
        let few : left ≤ 1 = grind (arith, nat_tests) in
        let same : length s.formulas + left ≡ length s.formulas + 1 + 0 = omega (arith, few, known.2) in
        enter (acted (Maps v) s) (Text BeforeLogs) 0 0 g (e ∙ sym (formula_grows s v left 0 same))
        (known.0, (known.1.0, fit_more IsShort s.formulas v known.1.1 fits, more 0 same))
    by_last false q =
        let many : 1 < left = grind (arith, nat_tests) in
        let same : length s.formulas + left ≡ length s.formulas + 1 + (left - 1) = omega (arith, many) in
        enter (acted (Maps v) s) Formula (left - 1) 0 g (e ∙ sym (formula_grows s v left (left - 1) same))
        (known.0, (known.1.0, fit_more IsShort s.formulas v known.1.1 fits, more (left - 1) same), omega (arith, many))

-- ---- Logs

log_grows : (t : Said) (n k : ℕ) → length t.logs + n ≡ length t.logs + 1 + k → log_front (log_closed true t) k ≡ log_front t n ++ log_text t.log
log_grows t n k e =
    ap (λ (l : List ℕ). logs_front t ++ l) (list_grows log_text t.logs t.log n k e)
    ∙ sym (append_assoc (logs_front t) (number_line (length t.logs + n) ++ logs_text t.logs) (log_text t.log))

-- a log is whole
pub logged : (s : Said) (slot : Slot) (here chains left : ℕ) (g : List ℕ) (act : Act) (ends : Bool) (t : Said) → t ≡ chain_closed ends (acted act s)
    → LogsFit t left → 1 ≤ left → LogFits t.log → g ≡ log_front t left ++ log_text t.log → Follows s slot here chains g (log_end left act ends)
logged s slot here chains left g act ends t is known some fits e = by_last (nat_le left 1) refl
  where
    u : Said
    u = log_closed true (chain_closed ends (acted act s))

    same_said : log_closed true t ≡ u
    same_said = ap (log_closed true) is

    more : (k : ℕ) → length t.logs + left ≡ length t.logs + 1 + k → LogsFit u k
    more k same =
        let sum = one_more t.logs t.log left k same in
        subst (λ (x : Said). LogsFit x k) same_said (known.0, fit_more LogFits t.logs t.log known.1 fits, omega (arith, sum, known.2))

    grows : (k : ℕ) → length t.logs + left ≡ length t.logs + 1 + k → g ≡ log_front u k
    grows k same = e ∙ (sym (log_grows t left k same) ∙ ap (λ (x : Said). log_front x k) same_said)

    by_last : (x : Bool) → nat_le left 1 ≡ x
        → Follows s slot here chains g (if x then moves (Text Close) 0 0 act ends true else moves (Text BeforeChains) (left - 1) 0 act ends true)
    by_last true q =
        let few : left ≤ 1 = grind (arith, nat_tests) in
        let same : length t.logs + left ≡ length t.logs + 1 + 0 = omega (arith, few, some) in
        enter u (Text Close) 0 0 g (grows 0 same) (more 0 same)
    by_last false q =
        let many : 1 < left = grind (arith, nat_tests) in
        let same : length t.logs + left ≡ length t.logs + 1 + (left - 1) = omega (arith, many) in
        enter u (Text BeforeChains) (left - 1) 0 g (grows (left - 1) same) (refl, more (left - 1) same, omega (arith, many))

-- ---- Chains

chain_grows : (t : Said) (left n k : ℕ) → length t.log + n ≡ length t.log + 1 + k → chain_front (chain_closed true t) left k ≡ chain_front t left n ++ chain_text t.chain
chain_grows t left n k e =
    ap (λ (l : List ℕ). chains_front t left ++ l) (list_grows chain_text t.log t.chain n k e)
    ∙ sym (append_assoc (chains_front t left) (number_line (length t.log + n) ++ chains_text t.log) (chain_text t.chain))

-- the line of a chain ends
chain_whole : (t : Said) (left chains : ℕ) → pair_front t left chains ++ 10 ∷ [] ≡ chain_front t left chains ++ chain_text t.chain
chain_whole t left chains =
    append_assoc (chain_front t left chains) (number_text t.chain.first ++ pairs_open t.chain.pairs) (10 ∷ [])
    ∙ ap (λ (l : List ℕ). chain_front t left chains ++ l)
    (append_assoc (number_text t.chain.first) (pairs_open t.chain.pairs) (10 ∷ [])
    ∙ ap (λ (l : List ℕ). number_text t.chain.first ++ l) (pairs_end t.chain.pairs))

-- all chains of a log stand
pub chains_whole : (t : Said) (left : ℕ) → chain_front t left 0 ≡ log_front t left ++ log_text t.log
chains_whole t left =
    let none : length t.log + 0 ≡ length t.log = omega arith in
    ap (λ (n : ℕ). chains_front t left ++ (number_line n ++ chains_text t.log)) none
    ∙ append_assoc (log_front t left) (codes "log ") (number_line (length t.log) ++ chains_text t.log)

chain_follows : (s : Said) (slot : Slot) (here there left chains : ℕ) (g : List ℕ) (act : Act) → InLog (acted act s) left chains → ChainFits (acted act s).chain
    → g ≡ pair_front (acted act s) left chains ++ 10 ∷ [] → Follows s slot here there g (chain_end left chains act)
chain_follows s slot here there left chains g act known fits e = by_last (nat_le chains 1) refl
  where
    t : Said
    t = acted act s

    whole : g ≡ chain_front t left chains ++ chain_text t.chain
    whole = e ∙ chain_whole t left chains

    chains_fit : AllFit ChainFits (t.log ++ t.chain ∷ [])
    chains_fit = fit_more ChainFits t.log t.chain known.2 fits

    short : (k : ℕ) → length t.log + chains ≡ length t.log + 1 + k → IsShort (length (t.log ++ t.chain ∷ []) + k)
    short k same = let sum = one_more t.log t.chain chains k same in omega (arith, sum, known.3)

    by_last : (x : Bool) → nat_le chains 1 ≡ x
        → Follows s slot here there g (if x then log_end left act true else moves Start left (chains - 1) act true false)
    by_last true q =
        let few : chains ≤ 1 = grind (arith, nat_tests) in
        let same : length t.log + chains ≡ length t.log + 1 + 0 = omega (arith, few, known.4) in
        let all = short 0 same in
        logged s slot here there left g act true (chain_closed true t) refl known.0 known.1 (omega (arith, all), chains_fit)
        (whole ∙ (sym (chain_grows t left chains 0 same) ∙ chains_whole (chain_closed true t) left))
    by_last false q =
        let many : 1 < chains = grind (arith, nat_tests) in
        let same : length t.log + chains ≡ length t.log + 1 + (chains - 1) = omega (arith, many) in
        enter (chain_closed true t) Start left (chains - 1) g (whole ∙ sym (chain_grows t left chains (chains - 1) same))
        (known.0, known.1, chains_fit, short (chains - 1) same, omega (arith, many))

-- behind a clause of a chain
pub clause_follows : (s : Said) (slot : Slot) (here there left chains : ℕ) (g : List ℕ) (b : ℕ) (act : Act) → InLog (acted act s) left chains → ChainFits (acted act s).chain
    → g ≡ pair_front (acted act s) left chains ++ b ∷ [] → Follows s slot here there g (clause_read left chains act b)
clause_follows s slot here there left chains g b act known fits e = by_test (b == 32) refl
  where
    by_test : (x : Bool) → (b == 32) ≡ x → Follows s slot here there g (if x then moves Pivot left chains act false false else line b (chain_end left chains act))
    by_test true q =
        let is : b ≡ 32 = grind (arith, nat_tests) in
        enter (acted act s) Pivot left chains g (e ∙ ap (λ (k : ℕ). pair_front (acted act s) left chains ++ k ∷ []) is) (known, fits)
    by_test false q =
        by_line s slot here there g b (chain_end left chains act)
        (λ ten. chain_follows s slot here there left chains g act known fits (e ∙ ap (λ (k : ℕ). pair_front (acted act s) left chains ++ k ∷ []) ten))
