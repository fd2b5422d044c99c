-- The text of a certificate is read to what it says.
use Rattle.std.proofs.Common.{◌≡◌, ℕ, ◌-◌, ◌<◌, ◌≤◌, Bool, true, false, List, [], ◌∷◌, ◌++◌, length, Option, Some, Result, Ok, Err, refl, sym, ap, ◌∙◌, arith, ◌==◌, if◌then◌else◌, append_assoc, nat_le, nat_lt}
use Rattle.std.specs.Prelude.{option_and_then, codes}
use Rattle.std.proofs.lemmas.Bool.Decides.{nat_tests}
use Rattle.lv_base.specs.declared.kind.Model.{Model}
use Rattle.lv_base.specs.declared.kind.Model.TheVariants.{Ilp32, Lp64}
use Rattle.bv_term.specs.declared.term.Term.{Term}
use Rattle.resolution_log.specs.declared.Chain.{Chain}
use Rattle.stored_text.specs.declared.StoredFail.{StoredFail}
use Rattle.stored_text.specs.declared.StoredFail.TheVariants.{Over}
use Rattle.stored_text.specs.RunText.{number_text}
use Rattle.cert_text.specs.declared.place.Fixed.TheVariants.{BeforeModel, BeforeTerms, BeforeNodes, BeforeLogs, BeforeChains, Close}
use Rattle.cert_text.specs.declared.place.Slot.{Slot}
use Rattle.cert_text.specs.declared.place.Slot.TheVariants.{Text, Kind, Layout, Terms, Letter, Nodes, Formula, Logs, Done}
use Rattle.cert_text.specs.declared.place.Part.TheVariants.{Fresh, Digits}
use Rattle.cert_text.specs.declared.steps.Act.TheVariants.{Nothing, Maps}
use Rattle.cert_text.specs.Content.{Content}
use Rattle.cert_text.specs.CertText.{hex_text, model_text, number_line, term_text, terms_text, formulas_text, log_text, logs_text, head_text, terms_part, nodes_part, logs_part, cert_text}
use Rattle.cert_text.specs.Steps.{place_of, go, count, less}
use Rattle.cert_text.specs.Drafts.{Said, nothing, chain_of}
use Rattle.cert_text.specs.Reading.{start, read_from, read_cert_of}
use Rattle.cert_text.specs.Ranges.{IsShort, IsByte, TermFits}
use Rattle.certificate_laws.specs.Fits.{Fits, AllFit, LogFits}
use Rattle.certificate_laws.specs.Laws.{CertTextIsRead, WrittenIsRead}
use Rattle.certificate_laws.proofs.Walks.{State, at, moved, walk, walk_reads, number_walks}
use Rattle.certificate_laws.proofs.ListWalks.{each_walks, next_said, next_place}
use Rattle.certificate_laws.proofs.Counts.{fits_of}
use Rattle.certificate_laws.proofs.HashWalks.{high_at, hash_walks}
use Rattle.certificate_laws.proofs.TermWalks.{behind, letter, term_walks}
use Rattle.certificate_laws.proofs.LogWalks.{open_log, behind_log, log_walks}

-- what is said before the logs
abbrev said_at : List ℕ → Model → ℕ → List Term → List ℕ → Said
said_at hash model layout terms formulas = record { hash = hash; model = model; layout = layout; terms = terms; formulas = formulas; logs = []; log = []; chain = chain_of 0 [] }

line_text : (n : ℕ) (more rest : List ℕ) → (number_line n ++ more) ++ rest ≡ number_text n ++ 10 ∷ (more ++ rest)
line_text n more rest = append_assoc (number_line n) more rest ∙ append_assoc (number_text n) (10 ∷ []) (more ++ rest)

abbrev zeros_left : List ℕ
zeros_left = 0 ∷ 0 ∷ 0 ∷ 0 ∷ 0 ∷ 0 ∷ 0 ∷ 0 ∷ 0 ∷ 0 ∷ 0 ∷ 0 ∷ 0 ∷ 0 ∷ 0 ∷ 0 ∷ 0 ∷ 0 ∷ 0 ∷ 0 ∷ 0 ∷ 0 ∷ 0 ∷ 0 ∷ 0 ∷ 0 ∷ 0 ∷ 0 ∷ 0 ∷ 0 ∷ 0 ∷ []

hash_part : (hash : List ℕ) (rest : List ℕ) → length hash ≡ 32 → AllFit IsByte hash → walk (at nothing (high_at 0) Fresh) (hex_text hash ++ rest) ≡ walk (at (said_at hash Ilp32 0 [] []) (place_of (Text BeforeModel) 0 0) Fresh) rest
hash_part [] rest size fits = absurd (omega (arith, size))
hash_part (b ∷ bs) rest size fits =
    let rest_size : length zeros_left ≡ 31 = refl in
    hash_walks bs [] zeros_left b 0 nothing rest (omega (arith, size)) (omega (arith, size, rest_size)) fits

model_part : (hash : List ℕ) (model : Model) (rest : List ℕ) → walk (at (said_at hash Ilp32 0 [] []) (place_of Kind 0 0) Fresh) (model_text model ++ 10 ∷ (codes "layout " ++ rest)) ≡ walk (at (said_at hash model 0 [] []) (place_of Layout 0 0) Fresh) rest
model_part hash Ilp32 rest = refl
model_part hash Lp64 rest = refl

head_walks : (c : Content) (rest : List ℕ) → Fits c → walk (at nothing start Fresh) (head_text c ++ rest) ≡ walk (at (said_at c.hash c.model c.layout [] []) (place_of (Text BeforeTerms) 0 0) Fresh) rest
head_walks c rest fits =
    let behind_model : List ℕ = 10 ∷ codes "layout " ++ number_line c.layout in
    ap (walk (at nothing (high_at 0) Fresh)) (append_assoc (hex_text c.hash) (10 ∷ (codes "model " ++ (model_text c.model ++ behind_model))) rest)
    ∙ hash_part c.hash ((10 ∷ (codes "model " ++ (model_text c.model ++ behind_model))) ++ rest) fits.size fits.bytes
    ∙ ap (walk (at (said_at c.hash Ilp32 0 [] []) (place_of Kind 0 0) Fresh)) (append_assoc (model_text c.model) behind_model rest)
    ∙ model_part c.hash c.model (number_line c.layout ++ rest)
    ∙ ap (walk (at (said_at c.hash c.model 0 [] []) (place_of Layout 0 0) Fresh)) (append_assoc (number_text c.layout) (10 ∷ []) rest)
    ∙ number_walks c.layout (said_at c.hash c.model 0 [] []) (place_of Layout 0 0) (10 ∷ rest) refl fits.layout

-- a count and its line's end
count_of : (s : State) (n : ℕ) (none some : Slot) (rest : List ℕ) → 0 < n → option_and_then (λ q. walk q rest) (moved s (count n none some)) ≡ walk (at s.said (place_of some n 0) Fresh) rest
count_of s n none some rest more =
    let test : (n == 0) ≡ false = grind (arith, nat_tests) in
    ap (λ (b : Bool). option_and_then (λ q. walk q rest) (moved s (if b then go none 0 Nothing else go some n Nothing))) test

either : {X : Type 0} (b : Bool) (x : X) → (if b then x else x) ≡ x
either true x = refl
either false x = refl

terms_walk : (hash : List ℕ) (model : Model) (layout : ℕ) (ts : List Term) (rest : List ℕ) → IsShort (length ts) → AllFit TermFits ts
    → walk (at (said_at hash model layout [] []) (place_of (Text BeforeTerms) 0 0) Fresh) (terms_part ts ++ rest) ≡ walk (at (said_at hash model layout ts []) (place_of (Text BeforeNodes) 0 0) Fresh) rest
terms_walk hash model layout ts rest short fits =
    ap (walk (at (said_at hash model layout [] []) (place_of Terms 0 0) Fresh)) (line_text (length ts) (terms_text ts) rest)
    ∙ number_walks (length ts) (said_at hash model layout [] []) (place_of Terms 0 0) (10 ∷ (terms_text ts ++ rest)) refl short
    ∙ by_terms ts fits
  where
    one : (t : Term) (before : List Term) (left : ℕ) (rest : List ℕ) → TermFits t
        → walk (at (said_at hash model layout before []) (letter left) Fresh) (term_text t ++ rest)
        ≡ walk (at (next_said (λ ts. said_at hash model layout ts []) (λ ts. said_at hash model layout ts []) left (before ++ t ∷ [])) (next_place letter (place_of (Text BeforeNodes) 0 0) left) Fresh) rest
    one t before left rest f =
        term_walks t (said_at hash model layout before []) left rest f
        ∙ ap (λ (s : Said). walk (at s (behind left) Fresh) rest) (sym (either (nat_le left 1) (said_at hash model layout (before ++ t ∷ []) [])))

    by_terms : (ts : List Term) → AllFit TermFits ts
        → walk (at (said_at hash model layout [] []) (place_of Terms 0 0) (Digits (length ts))) (10 ∷ (terms_text ts ++ rest)) ≡ walk (at (said_at hash model layout ts []) (place_of (Text BeforeNodes) 0 0) Fresh) rest
    by_terms [] f = refl
    by_terms (t ∷ ts) f =
        count_of (at (said_at hash model layout [] []) (place_of Terms 0 0) (Digits (length (t ∷ ts)))) (length (t ∷ ts)) (Text BeforeNodes) Letter (terms_text (t ∷ ts) ++ rest) (omega arith)
        ∙ each_walks term_text TermFits (λ ts. said_at hash model layout ts []) (λ ts. said_at hash model layout ts []) letter (place_of (Text BeforeNodes) 0 0) one ts t [] rest f

formula_moves : (s : State) (left n : ℕ) (said : Said) → said ≡ record { hash = s.said.hash; model = s.said.model; layout = s.said.layout; terms = s.said.terms; formulas = s.said.formulas ++ n ∷ []; logs = s.said.logs; log = s.said.log; chain = s.said.chain }
    → moved s (less left (Text BeforeLogs) Formula (Maps n)) ≡ Some (at said (next_place (λ k. place_of Formula k 0) (place_of (Text BeforeLogs) 0 0) left) Fresh)
formula_moves s left n said e = by_last (nat_le left 1)
  where
    by_last : (b : Bool) → moved s (if b then go (Text BeforeLogs) 0 (Maps n) else go Formula (left - 1) (Maps n)) ≡ Some (at said (if b then place_of (Text BeforeLogs) 0 0 else place_of Formula (left - 1) 0) Fresh)
    by_last true = ap (λ (x : Said). Some (at x (place_of (Text BeforeLogs) 0 0) Fresh)) (sym e)
    by_last false = ap (λ (x : Said). Some (at x (place_of Formula (left - 1) 0) Fresh)) (sym e)

nodes_walk : (hash : List ℕ) (model : Model) (layout : ℕ) (ts : List Term) (fs : List ℕ) (rest : List ℕ) → IsShort (length fs) → AllFit IsShort fs
    → walk (at (said_at hash model layout ts []) (place_of (Text BeforeNodes) 0 0) Fresh) (nodes_part fs ++ rest) ≡ walk (at (said_at hash model layout ts fs) (place_of (Text BeforeLogs) 0 0) Fresh) rest
nodes_walk hash model layout ts fs rest short fits =
    ap (walk (at (said_at hash model layout ts []) (place_of Nodes 0 0) Fresh)) (line_text (length fs) (formulas_text fs) rest)
    ∙ number_walks (length fs) (said_at hash model layout ts []) (place_of Nodes 0 0) (10 ∷ (formulas_text fs ++ rest)) refl short
    ∙ by_formulas fs fits
  where
    one : (n : ℕ) (before : List ℕ) (left : ℕ) (rest : List ℕ) → IsShort n
        → walk (at (said_at hash model layout ts before) (place_of Formula left 0) Fresh) (number_line n ++ rest)
        ≡ walk (at (next_said (λ fs. said_at hash model layout ts fs) (λ fs. said_at hash model layout ts fs) left (before ++ n ∷ [])) (next_place (λ k. place_of Formula k 0) (place_of (Text BeforeLogs) 0 0) left) Fresh) rest
    one n before left rest f =
        ap (walk (at (said_at hash model layout ts before) (place_of Formula left 0) Fresh)) (append_assoc (number_text n) (10 ∷ []) rest)
        ∙ number_walks n (said_at hash model layout ts before) (place_of Formula left 0) (10 ∷ rest) refl f
        ∙ ap (λ (o : Option State). option_and_then (λ q. walk q rest) o)
        (formula_moves (at (said_at hash model layout ts before) (place_of Formula left 0) (Digits n)) left n
        (next_said (λ fs. said_at hash model layout ts fs) (λ fs. said_at hash model layout ts fs) left (before ++ n ∷ []))
        (either (nat_le left 1) (said_at hash model layout ts (before ++ n ∷ []))))

    by_formulas : (fs : List ℕ) → AllFit IsShort fs
        → walk (at (said_at hash model layout ts []) (place_of Nodes 0 0) (Digits (length fs))) (10 ∷ (formulas_text fs ++ rest)) ≡ walk (at (said_at hash model layout ts fs) (place_of (Text BeforeLogs) 0 0) Fresh) rest
    by_formulas [] f = refl
    by_formulas (n ∷ ns) f =
        count_of (at (said_at hash model layout ts []) (place_of Nodes 0 0) (Digits (length (n ∷ ns)))) (length (n ∷ ns)) (Text BeforeLogs) Formula (formulas_text (n ∷ ns) ++ rest) (omega arith)
        ∙ each_walks number_line IsShort (λ fs. said_at hash model layout ts fs) (λ fs. said_at hash model layout ts fs) (λ k. place_of Formula k 0) (place_of (Text BeforeLogs) 0 0) one ns n [] rest f

logs_walk : (base : Said) (ls : List (List Chain)) (rest : List ℕ) → IsShort (length ls) → AllFit LogFits ls
    → walk (at (open_log base [] []) (place_of (Text BeforeLogs) 0 0) Fresh) (logs_part ls ++ rest) ≡ walk (at (open_log base ls []) (place_of (Text Close) 0 0) Fresh) rest
logs_walk base ls rest short fits =
    ap (walk (at (open_log base [] []) (place_of Logs 0 0) Fresh)) (line_text (length ls) (logs_text ls) rest)
    ∙ number_walks (length ls) (open_log base [] []) (place_of Logs 0 0) (10 ∷ (logs_text ls ++ rest)) refl short
    ∙ by_logs ls fits
  where
    one : (l : List Chain) (before : List (List Chain)) (left : ℕ) (rest : List ℕ) → LogFits l
        → walk (at (open_log base before []) (place_of (Text BeforeChains) left 0) Fresh) (log_text l ++ rest)
        ≡ walk (at (next_said (λ ls. open_log base ls []) (λ ls. open_log base ls []) left (before ++ l ∷ [])) (next_place (λ k. place_of (Text BeforeChains) k 0) (place_of (Text Close) 0 0) left) Fresh) rest
    one l before left rest f =
        log_walks l base before left rest f
        ∙ ap (λ (s : Said). walk (at s (behind_log left) Fresh) rest) (sym (either (nat_le left 1) (open_log base (before ++ l ∷ []) [])))

    by_logs : (ls : List (List Chain)) → AllFit LogFits ls
        → walk (at (open_log base [] []) (place_of Logs 0 0) (Digits (length ls))) (10 ∷ (logs_text ls ++ rest)) ≡ walk (at (open_log base ls []) (place_of (Text Close) 0 0) Fresh) rest
    by_logs [] f = refl
    by_logs (l ∷ ls) f =
        count_of (at (open_log base [] []) (place_of Logs 0 0) (Digits (length (l ∷ ls)))) (length (l ∷ ls)) (Text Close) (Text BeforeChains) (logs_text (l ∷ ls) ++ rest) (omega arith)
        ∙ each_walks log_text LogFits (λ ls. open_log base ls []) (λ ls. open_log base ls []) (λ k. place_of (Text BeforeChains) k 0) (place_of (Text Close) 0 0) one ls l [] rest f

-- the place behind a whole certificate
abbrev pub said_whole : Content → Said
said_whole c = record { hash = c.hash; model = c.model; layout = c.layout; terms = c.terms; formulas = c.formulas; logs = c.logs; log = []; chain = chain_of 0 [] }

abbrev pub whole : Content → State
whole c = at (said_whole c) (place_of Done 0 0) Fresh

pub text_walks : (c : Content) → Fits c → walk (at nothing start Fresh) (cert_text c) ≡ Some (whole c)
text_walks c fits =
    let before : Said = said_at c.hash c.model c.layout c.terms c.formulas in
    head_walks c (terms_part c.terms ++ (nodes_part c.formulas ++ (logs_part c.logs ++ (codes "end" ++ 10 ∷ [])))) fits
    ∙ terms_walk c.hash c.model c.layout c.terms (nodes_part c.formulas ++ (logs_part c.logs ++ (codes "end" ++ 10 ∷ []))) fits.term_count fits.terms
    ∙ nodes_walk c.hash c.model c.layout c.terms c.formulas (logs_part c.logs ++ (codes "end" ++ 10 ∷ [])) fits.node_count fits.formulas
    ∙ logs_walk before c.logs (codes "end" ++ 10 ∷ []) fits.log_count fits.logs

text_fits : (c : Content) → Fits c → length (cert_text c) ≤ 67108864 → read_cert_of (cert_text c) ≡ Ok c
text_fits c fits short =
    let test : nat_lt 67108864 (length (cert_text c)) ≡ false = grind (arith, nat_tests) in
    ap (λ (b : Bool). if b then Err (Over 8 67108865) else read_from nothing start Fresh 0 (cert_text c)) test
    ∙ walk_reads (cert_text c) (at nothing start Fresh) (whole c) 0 (text_walks c fits) refl

pub text_read : CertTextIsRead
text_read c range short = text_fits c (fits_of c range short) short

abbrev the_file : Result (List ℕ) StoredFail → List ℕ
the_file (Ok x) = x
the_file (Err x) = []

pub written_read : WrittenIsRead
written_read c file range e = by_size (nat_lt 67108864 (length (cert_text c))) refl e
  where
    by_size : (over : Bool) → nat_lt 67108864 (length (cert_text c)) ≡ over → (if over then Err (Over 8 67108865) else Ok (cert_text c)) ≡ Ok file → read_cert_of file ≡ Ok c
    by_size true is e = absurd (cc e)
    by_size false is e =
        let short : length (cert_text c) ≤ 67108864 = grind (arith, nat_tests) in
        let same : cert_text c ≡ file = ap the_file e in
        ap read_cert_of (sym same) ∙ text_read c range short
