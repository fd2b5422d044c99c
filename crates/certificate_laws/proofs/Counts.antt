-- Where a certificate's text is not too long, neither are its lists: each element has a byte of its own.
use Rattle.std.proofs.Common.{◌≡◌, ℕ, ◌+◌, ◌≤◌, List, [], ◌∷◌, ◌++◌, length, All, arith, length-append}
use Rattle.std.specs.Prelude.{codes}
use Rattle.std.proofs.lemmas.List.Elements.{All-head, All-tail}
use Rattle.bv_term.specs.declared.term.Term.{Term}
use Rattle.bv_term.specs.declared.term.Term.TheVariants.{Constant, Cell, Element, Add, Subtract, Multiply, Divide, Remainder, And, Or, Xor, Not, ShiftLeft, ShiftRight, ShiftSigned, Equal, Less, LessSigned, Select, ZeroExtend, SignExtend, Truncate, Bit}
use Rattle.resolution_log.specs.declared.Chain.{Chain}
use Rattle.stored_text.specs.RunText.{number_text}
use Rattle.cert_text.specs.Content.{Content}
use Rattle.cert_text.specs.CertText.{each, number_line, term_text, terms_text, formulas_text, pairs_text, chain_text, chains_text, log_text, logs_text, head_text, terms_part, nodes_part, logs_part, cert_text}
use Rattle.cert_text.specs.Ranges.{ChainInRange, InRange, IsByte, IsShort, PairFits, TermFits}
use Rattle.certificate_laws.specs.Fits.{AllFit, ChainFits, Fits, LogFits}

all_fit : {X : Type 0} (P : X → Type 0) (xs : List X) → All P xs → AllFit P xs
all_fit P [] h = tt
all_fit P (x ∷ xs) h = (All-head P x xs h, all_fit P xs (All-tail P x xs h))

-- ---- Each element has a byte

each_long : {X : Type 0} (text : X → List ℕ) → ((x : X) → 1 ≤ length (text x)) → (xs : List X) → length xs ≤ length (each text xs)
each_long text some [] = omega arith
each_long text some (x ∷ xs) =
    let one = some x in
    let rest = each_long text some xs in
    let both : length (text x ++ each text xs) ≡ length (text x) + length (each text xs) = length-append (text x) (each text xs) in
    omega arith

line_long : (n : ℕ) → 1 ≤ length (number_line n)
line_long n = let both : length (number_text n ++ 10 ∷ []) ≡ length (number_text n) + 1 = length-append (number_text n) (10 ∷ []) in omega arith

term_long : (t : Term) → 1 ≤ length (term_text t)
term_long (Constant w v) = omega arith
term_long (Cell i) = omega arith
term_long (Element b n i) = omega arith
term_long (Add i j) = omega arith
term_long (Subtract i j) = omega arith
term_long (Multiply i j) = omega arith
term_long (Divide i j) = omega arith
term_long (Remainder i j) = omega arith
term_long (And i j) = omega arith
term_long (Or i j) = omega arith
term_long (Xor i j) = omega arith
term_long (Not i) = omega arith
term_long (ShiftLeft i j) = omega arith
term_long (ShiftRight i j) = omega arith
term_long (ShiftSigned i j) = omega arith
term_long (Equal i j) = omega arith
term_long (Less i j) = omega arith
term_long (LessSigned i j) = omega arith
term_long (Select i j k) = omega arith
term_long (ZeroExtend w i) = omega arith
term_long (SignExtend w i) = omega arith
term_long (Truncate w i) = omega arith
term_long (Bit w i) = omega arith

pairs_long : (ps : List (ℕ × ℕ)) → 1 ≤ length (pairs_text ps)
pairs_long [] = omega arith
pairs_long (p ∷ ps) = omega arith

chain_long : (c : Chain) → 1 ≤ length (chain_text c)
chain_long c =
    let some = pairs_long c.pairs in
    let both : length (number_text c.first ++ pairs_text c.pairs) ≡ length (number_text c.first) + length (pairs_text c.pairs) = length-append (number_text c.first) (pairs_text c.pairs) in
    omega arith

-- a text has the length of what stands behind a word and a count, at least
behind_long : (word : List ℕ) (n : ℕ) (more : List ℕ) → 1 + length more ≤ length (word ++ (number_line n ++ more))
behind_long word n more =
    let line = line_long n in
    let all : length (word ++ (number_line n ++ more)) ≡ length word + length (number_line n ++ more) = length-append word (number_line n ++ more) in
    let both : length (number_line n ++ more) ≡ length (number_line n) + length more = length-append (number_line n) more in
    omega arith

log_long : (cs : List Chain) → 1 + length cs ≤ length (log_text cs)
log_long cs =
    let chains = each_long chain_text chain_long cs in
    let behind = behind_long (codes "log ") (length cs) (chains_text cs) in
    omega arith

-- ---- So counts are in range

logs_fit : (n : ℕ) (logs : List (List Chain)) → n ≤ 4294967295 → length (logs_text logs) ≤ n → All (All ChainInRange) logs → AllFit LogFits logs
logs_fit n [] few size h = tt
logs_fit n (l ∷ ls) few size h =
    let long = log_long l in
    let both : length (log_text l ++ logs_text ls) ≡ length (log_text l) + length (logs_text ls) = length-append (log_text l) (logs_text ls) in
    ((omega arith, chains_fit l (All-head (All ChainInRange) l ls h)), logs_fit n ls few (omega arith) (All-tail (All ChainInRange) l ls h))
  where
    chains_fit : (cs : List Chain) → All ChainInRange cs → AllFit ChainFits cs
    chains_fit [] h = tt
    chains_fit (c ∷ cs) h =
        let one = All-head ChainInRange c cs h in
        ((one.0, all_fit PairFits c.pairs one.1), chains_fit cs (All-tail ChainInRange c cs h))

-- the parts of a text are no longer than the whole
parts_long : (a b c d e : List ℕ) → length b + length c + length d ≤ length (a ++ (b ++ (c ++ (d ++ e))))
parts_long a b c d e =
    let one : length (a ++ (b ++ (c ++ (d ++ e)))) ≡ length a + length (b ++ (c ++ (d ++ e))) = length-append a (b ++ (c ++ (d ++ e))) in
    let two : length (b ++ (c ++ (d ++ e))) ≡ length b + length (c ++ (d ++ e)) = length-append b (c ++ (d ++ e)) in
    let three : length (c ++ (d ++ e)) ≡ length c + length (d ++ e) = length-append c (d ++ e) in
    let four : length (d ++ e) ≡ length d + length e = length-append d e in
    omega arith

pub fits_of : (c : Content) → InRange c → length (cert_text c) ≤ 67108864 → Fits c
fits_of c range short =
    let parts = parts_long (head_text c) (terms_part c.terms) (nodes_part c.formulas) (logs_part c.logs) (codes "end" ++ 10 ∷ []) in
    let terms = behind_long (codes "terms ") (length c.terms) (terms_text c.terms) in
    let nodes = behind_long (codes "map ") (length c.formulas) (formulas_text c.formulas) in
    let logs = behind_long (codes "logs ") (length c.logs) (logs_text c.logs) in
    let term_count = each_long term_text term_long c.terms in
    let node_count = each_long number_line line_long c.formulas in
    let log_count = each_long log_text (λ l. let long = log_long l in omega arith) c.logs in
    record {
      size = range.size;
      bytes = all_fit IsByte c.hash range.bytes;
      layout = range.layout;
      term_count = omega arith;
      terms = all_fit TermFits c.terms range.terms;
      node_count = omega arith;
      formulas = all_fit IsShort c.formulas range.formulas;
      log_count = omega arith;
      logs = logs_fit 67108864 c.logs (omega arith) (omega arith) range.logs;
    }
