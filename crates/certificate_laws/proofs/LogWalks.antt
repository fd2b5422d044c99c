-- The logs of a certificate are read to what they are.
use Rattle.std.proofs.Common.{◌≡◌, ℕ, ◌-◌, Bool, true, false, List, [], ◌∷◌, ◌++◌, length, Option, Some, refl, sym, ap, ◌∙◌, arith, ◌==◌, if◌then◌else◌, append_assoc, append-nil, nat_le}
use Rattle.std.specs.Prelude.{option_and_then}
use Rattle.std.proofs.lemmas.Bool.Decides.{nat_tests}
use Rattle.stored_text.specs.RunText.{number_text}
use Rattle.resolution_log.specs.declared.Chain.{Chain}
use Rattle.cert_text.specs.declared.place.Fixed.TheVariants.{BeforeChains, Close}
use Rattle.cert_text.specs.declared.place.Slot.TheVariants.{Text, Chains, Start, Pivot, Clause}
use Rattle.cert_text.specs.declared.place.Place.{Place}
use Rattle.cert_text.specs.declared.place.Part.TheVariants.{Fresh, Digits}
use Rattle.cert_text.specs.declared.steps.Act.{Act}
use Rattle.cert_text.specs.declared.steps.Act.TheVariants.{Nothing, Begins, Pairs}
use Rattle.cert_text.specs.CertText.{number_line, pairs_text, chain_text, chains_text, log_text}
use Rattle.cert_text.specs.Steps.{place_of, moves, log_end, chain_end}
use Rattle.cert_text.specs.Drafts.{Said, acted, chain_of, chain_closed, log_closed}
use Rattle.cert_text.specs.Ranges.{PairFits}
use Rattle.certificate_laws.specs.Fits.{AllFit, ChainFits, LogFits}
use Rattle.certificate_laws.proofs.Walks.{State, at, moved, walk, number_walks}
use Rattle.certificate_laws.proofs.ListWalks.{next_said, next_place, each_walks}

-- what is said with these logs, these chains of the next, and this chain
abbrev pub with_logs : Said → List (List Chain) → List Chain → Chain → Said
with_logs s logs log chain = record { hash = s.hash; model = s.model; layout = s.layout; terms = s.terms; formulas = s.formulas; logs = logs; log = log; chain = chain }

abbrev pub none : Chain
none = chain_of 0 []

-- a log that has these chains so far, and one that has them all
abbrev pub open_log : Said → List (List Chain) → List Chain → Said
open_log s logs log = with_logs s logs log none

abbrev pub whole_log : Said → List (List Chain) → List Chain → Said
whole_log s logs log = with_logs s (logs ++ log ∷ []) [] none

abbrev pub begin : ℕ → ℕ → Place
begin left chains = place_of Start left chains

-- where reading stands behind a log, with so many left before it
abbrev pub behind_log : ℕ → Place
behind_log left = if nat_le left 1 then place_of (Text Close) 0 0 else place_of (Text BeforeChains) (left - 1) 0

-- what the end of a chain does
abbrev pub ended : Said → List (List Chain) → List Chain → Chain → ℕ → Said
ended s logs log chain chains = next_said (open_log s logs) (whole_log s logs) chains (log ++ chain ∷ [])

abbrev pub ended_place : ℕ → ℕ → Place
ended_place left chains = next_place (begin left) (behind_log left) chains

log_ends : (s : State) (left : ℕ) (act : Act) (closes : Bool) → moved s (log_end left act closes) ≡ Some (at (log_closed true (chain_closed closes (acted act s.said))) (behind_log left) Fresh)
log_ends s left act closes = by_last (nat_le left 1)
  where
    by_last : (b : Bool) → moved s (if b then moves (Text Close) 0 0 act closes true else moves (Text BeforeChains) (left - 1) 0 act closes true)
        ≡ Some (at (log_closed true (chain_closed closes (acted act s.said))) (if b then place_of (Text Close) 0 0 else place_of (Text BeforeChains) (left - 1) 0) Fresh)
    by_last true = refl
    by_last false = refl

-- behind a chain's last number, if the chain with it is this one
chain_ends : (base : Said) (logs : List (List Chain)) (log : List Chain) (chain : Chain) (s : State) (left chains : ℕ) (act : Act) → acted act s.said ≡ with_logs base logs log chain
    → moved s (chain_end left chains act) ≡ Some (at (ended base logs log chain chains) (ended_place left chains) Fresh)
chain_ends base logs log chain s left chains act e = by_last (nat_le chains 1)
  where
    by_last : (b : Bool) → moved s (if b then log_end left act true else moves Start left (chains - 1) act true false)
        ≡ Some (at (if b then whole_log base logs (log ++ chain ∷ []) else open_log base logs (log ++ chain ∷ [])) (if b then behind_log left else begin left (chains - 1)) Fresh)
    by_last true = log_ends s left act true ∙ ap (λ (x : Said). Some (at (log_closed true (chain_closed true x)) (behind_log left) Fresh)) e
    by_last false = ap (λ (x : Said). Some (at (chain_closed true x) (begin left (chains - 1)) Fresh)) e

pair_text : (p : ℕ × ℕ) (ps : List (ℕ × ℕ)) (rest : List ℕ) → pairs_text (p ∷ ps) ++ rest ≡ 32 ∷ (number_text p.0 ++ 32 ∷ (number_text p.1 ++ (pairs_text ps ++ rest)))
pair_text p ps rest =
    ap (λ (l : List ℕ). 32 ∷ l) (append_assoc (number_text p.0) (32 ∷ number_text p.1 ++ pairs_text ps) rest)
    ∙ ap (λ (l : List ℕ). 32 ∷ number_text p.0 ++ 32 ∷ l) (append_assoc (number_text p.1) (pairs_text ps) rest)

-- the pairs of a chain, behind one of its clauses
pairs_walk : (ps : List (ℕ × ℕ)) (base : Said) (logs : List (List Chain)) (log : List Chain) (first : ℕ) (before : List (ℕ × ℕ)) (said : Said) (pivot number left chains : ℕ) (rest : List ℕ)
    → acted (Pairs pivot number) said ≡ with_logs base logs log (chain_of first before) → AllFit PairFits ps
    → walk (at said (place_of (Clause pivot) left chains) (Digits number)) (pairs_text ps ++ rest) ≡ walk (at (ended base logs log (chain_of first (before ++ ps)) chains) (ended_place left chains) Fresh) rest
pairs_walk [] base logs log first before said pivot number left chains rest e fits =
    ap (λ (o : Option State). option_and_then (λ q. walk q rest) o) (chain_ends base logs log (chain_of first before) (at said (place_of (Clause pivot) left chains) (Digits number)) left chains (Pairs pivot number) e)
    ∙ ap (λ (l : List (ℕ × ℕ)). walk (at (ended base logs log (chain_of first l) chains) (ended_place left chains) Fresh) rest) (sym (append-nil before))
pairs_walk (p ∷ ps) base logs log first before said pivot number left chains rest e fits =
    ap (walk (at said (place_of (Clause pivot) left chains) (Digits number))) (pair_text p ps rest)
    ∙ ap (λ (x : Said). walk (at x (place_of Pivot left chains) Fresh) (number_text p.0 ++ 32 ∷ (number_text p.1 ++ (pairs_text ps ++ rest)))) e
    ∙ number_walks p.0 (with_logs base logs log (chain_of first before)) (place_of Pivot left chains) (32 ∷ number_text p.1 ++ (pairs_text ps ++ rest)) refl fits.0.0
    ∙ number_walks p.1 (with_logs base logs log (chain_of first before)) (place_of (Clause p.0) left chains) (pairs_text ps ++ rest) refl fits.0.1
    ∙ pairs_walk ps base logs log first (before ++ p ∷ []) (with_logs base logs log (chain_of first before)) p.0 p.1 left chains rest refl fits.1
    ∙ ap (λ (l : List (ℕ × ℕ)). walk (at (ended base logs log (chain_of first l) chains) (ended_place left chains) Fresh) rest) (append_assoc before (p ∷ []) ps)

chain_walks : (c : Chain) (base : Said) (logs : List (List Chain)) (log : List Chain) (left chains : ℕ) (rest : List ℕ) → ChainFits c
    → walk (at (open_log base logs log) (begin left chains) Fresh) (chain_text c ++ rest) ≡ walk (at (ended base logs log c chains) (ended_place left chains) Fresh) rest
chain_walks c base logs log left chains rest fits =
    ap (walk (at (open_log base logs log) (begin left chains) Fresh)) (append_assoc (number_text c.first) (pairs_text c.pairs) rest)
    ∙ number_walks c.first (open_log base logs log) (begin left chains) (pairs_text c.pairs ++ rest) refl fits.0
    ∙ by_pairs c.pairs fits.1
  where
    by_pairs : (ps : List (ℕ × ℕ)) → AllFit PairFits ps
        → walk (at (open_log base logs log) (begin left chains) (Digits c.first)) (pairs_text ps ++ rest) ≡ walk (at (ended base logs log (chain_of c.first ps) chains) (ended_place left chains) Fresh) rest
    by_pairs [] f = ap (λ (o : Option State). option_and_then (λ q. walk q rest) o) (chain_ends base logs log (chain_of c.first []) (at (open_log base logs log) (begin left chains) (Digits c.first)) left chains (Begins c.first) refl)
    by_pairs (p ∷ ps) f =
        ap (walk (at (open_log base logs log) (begin left chains) (Digits c.first))) (pair_text p ps rest)
        ∙ number_walks p.0 (with_logs base logs log (chain_of c.first [])) (place_of Pivot left chains) (32 ∷ number_text p.1 ++ (pairs_text ps ++ rest)) refl f.0.0
        ∙ number_walks p.1 (with_logs base logs log (chain_of c.first [])) (place_of (Clause p.0) left chains) (pairs_text ps ++ rest) refl f.0.1
        ∙ pairs_walk ps base logs log c.first (p ∷ []) (with_logs base logs log (chain_of c.first [])) p.0 p.1 left chains rest refl f.1

-- the line of a log, and its chains
pub log_walks : (cs : List Chain) (base : Said) (logs : List (List Chain)) (left : ℕ) (rest : List ℕ) → LogFits cs
    → walk (at (open_log base logs []) (place_of (Text BeforeChains) left 0) Fresh) (log_text cs ++ rest) ≡ walk (at (open_log base (logs ++ cs ∷ []) []) (behind_log left) Fresh) rest
log_walks cs base logs left rest fits =
    ap (λ (l : List ℕ). walk (at (open_log base logs []) (place_of Chains left 0) Fresh) l)
    (append_assoc (number_line (length cs)) (chains_text cs) rest ∙ append_assoc (number_text (length cs)) (10 ∷ []) (chains_text cs ++ rest))
    ∙ number_walks (length cs) (open_log base logs []) (place_of Chains left 0) (10 ∷ (chains_text cs ++ rest)) refl fits.0
    ∙ by_chains cs fits.1
  where
    by_chains : (cs : List Chain) → AllFit ChainFits cs
        → walk (at (open_log base logs []) (place_of Chains left 0) (Digits (length cs))) (10 ∷ (chains_text cs ++ rest)) ≡ walk (at (open_log base (logs ++ cs ∷ []) []) (behind_log left) Fresh) rest
    by_chains [] f = ap (λ (o : Option State). option_and_then (λ q. walk q rest) o) (log_ends (at (open_log base logs []) (place_of Chains left 0) (Digits 0)) left Nothing false)
    by_chains (c ∷ cs) f =
        let some : (length (c ∷ cs) == 0) ≡ false = grind (arith, nat_tests) in
        ap (λ (b : Bool). option_and_then (λ q. walk q (chains_text (c ∷ cs) ++ rest)) (moved (at (open_log base logs []) (place_of Chains left 0) (Digits (length (c ∷ cs)))) (if b then log_end left Nothing false else moves Start left (length (c ∷ cs)) Nothing false false))) some
        ∙ each_walks chain_text ChainFits (open_log base logs) (whole_log base logs) (begin left) (behind_log left) (λ x before k r g. chain_walks x base logs before left k r g) cs c [] rest f
