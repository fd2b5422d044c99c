-- Why a certificate is not accepted.
use Rattle.std.proofs.Common.{◌≡◌, ℕ, ◌+◌, ◌<◌, ◌≤◌, inl, inr, Bool, false, IsTrue, List, length, get_or, take, sym, subst, ap, ◌∙◌, slice_get, Some, length-take-le, arith}
use Rattle.std.proofs.lemmas.Bool.{false≢true, cases_eq}
use Rattle.std.proofs.lemmas.Option.{slice_get-get_or, slice_get_within, same_Some}
use Rattle.bv_term.specs.declared.term.Term.{Term as ATerm}
use Rattle.bv_term.specs.WellFormed.{Table, IsTable, FitsTable}
use Rattle.c_graph.specs.Shape.{Flow}
use Rattle.c_graph.specs.Runs.{Formulas, IsMapOf}
use Rattle.cert_text.specs.declared.Cert.{Cert}
use Rattle.resolution_log.specs.declared.Chain.{Chain}
use Rattle.obligations.specs.Questions.{count_of}
use Rattle.cert_check.specs.declared.fails.CheckFail.{CheckFail}
use Rattle.cert_check.specs.declared.fails.CheckFail.TheVariants.{WrongMap, Count, BadStep, NoEmpty, Over, Memory}
use Rattle.cert_check.specs.Answers.{AreRefutations, IsAccepted, IsMapIn, Passes}
use Rattle.cert_check.specs.Causes.{AreRefutedBefore, IsCheckCause, IsFirstMisfit, IsLogCause, IsLogsCause, table_over}

-- the table has the terms before this one, which does not fit it
pub misfit_at : (cells : List ℕ) (ts : List ATerm) (i k : ℕ) (table : Table) (d : ATerm) (fits : Bool) → table.cells ≡ cells → table.terms ≡ take i ts → IsTable table → k ≡ length table.terms → i < length ts → (FitsTable table (get_or ts i d) → IsTrue fits) → fits ≡ false → IsFirstMisfit cells ts k
misfit_at cells ts i k table d fits cells_are terms_are is count lt told misses =
    let k_is : k ≡ i = count ∙ ap length terms_are ∙ length-take-le i ts (omega (arith, lt)) in
    let terms_at : table.terms ≡ take k ts = terms_are ∙ ap (λ (j : ℕ). take j ts) (sym k_is) in
    let same : table ≡ table_over cells (take k ts) = λ j. record { cells = cells_are j; terms = terms_at j } in
    record {
      before = subst (λ (x : Table). IsTable x) same is;
      term = get_or ts i d;
      at = ap (λ (j : ℕ). slice_get ts j) k_is ∙ slice_get-get_or ts i d lt;
      misfit = λ f. false≢true (sym misses ∙ told (subst (λ (x : Table). FitsTable x (get_or ts i d)) (sym same) f));
    }

-- what is said of logs over a map that fits
pub logs_cause : (g : Flow) (c : Cert) (m : Formulas) → IsMapIn g c m → IsMapOf g m → length c.logs.items ≡ count_of g → (e : CheckFail) → IsLogsCause g m c.logs.items e → IsCheckCause g c e
logs_cause g c m stored is count (WrongMap fault) h = absurd h
logs_cause g c m stored is count (Count a b) h = absurd h
logs_cause g c m stored is count (BadStep n k) h = (m, stored, is, (count, h))
logs_cause g c m stored is count (NoEmpty n) h = (m, stored, is, (count, h))
logs_cause g c m stored is count (Over size) h = (m, stored, is, (count, h))
logs_cause g c m stored is count Memory h = h

-- an obligation behind others that pass fails first
pub first_fails : (g : Flow) (m : Formulas) (logs : List (List Chain)) (n : ℕ) (log : List Chain) (e : CheckFail) → AreRefutedBefore g m logs n
    → slice_get logs n ≡ Some log → IsLogCause g m n log e → IsLogsCause g m logs e
first_fails g m logs n log (BadStep k chain) before at (same, within, cause) =
    subst (λ (j : ℕ). IsLogsCause g m logs (BadStep j chain)) (sym same) (before, (log, at, within, cause))
first_fails g m logs n log (NoEmpty k) before at (same, within, cause) =
    subst (λ (j : ℕ). IsLogsCause g m logs (NoEmpty j)) (sym same) (before, (log, at, within, cause))
first_fails g m logs n log (Over size) before at off = (n, before, (log, at, off))
first_fails g m logs n log Memory before at u = u
first_fails g m logs n log (WrongMap fault) before at never = absurd never
first_fails g m logs n log (Count stored wanted) before at never = absurd never

-- one obligation more passes
pub passed_more : (g : Flow) (m : Formulas) (logs : List (List Chain)) (n : ℕ) (log : List Chain) → AreRefutedBefore g m logs n
    → slice_get logs n ≡ Some log → Passes g m n log → AreRefutedBefore g m logs (n + 1)
passed_more g m logs n log before at passes i other less there = elim (cases_eq i n) [
  | inl same ↦
      let here : Some log ≡ Some other = sym at ∙ (ap (slice_get logs) (sym same) ∙ there) in
      subst (λ (x : List Chain). Passes g m i x) (same_Some log other here) (subst (λ (k : ℕ). Passes g m k log) (sym same) passes)
  | inr differ ↦ before i other (omega (arith, less, differ)) there
]

-- all pass
pub all_passed : (g : Flow) (m : Formulas) (logs : List (List Chain)) (n : ℕ) → length logs ≤ n → AreRefutedBefore g m logs n → AreRefutations g m logs
all_passed g m logs n all before i log at = let within = slice_get_within logs i log at in before i log (omega (arith, all, within)) at

-- a certificate whose map fits and whose obligations pass is accepted
pub accepted_by : (g : Flow) (c : Cert) (m : Formulas) → IsMapIn g c m → IsMapOf g m → length c.logs.items ≡ count_of g → AreRefutations g m c.logs.items
    → IsAccepted g c
accepted_by g c m stored is count logs = record { formulas = m; stored = stored; is_map = is; count = count; logs = logs }
