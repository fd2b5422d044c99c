-- Why a certificate is not accepted.
use Rattle.std.specs.Prelude.{ℕ, ◌≡◌, ◌<◌, List, length, take, nat_lt, Some, slice_get, if◌then◌else◌}
use Rattle.prop.specs.declared.BlastFail.TheVariants.{Over as TooMany}
use Rattle.bv_term.specs.declared.term.Term.{Term as ATerm}
use Rattle.bv_term.specs.WellFormed.{Table, IsTable, FitsTable}
use Rattle.c_graph.specs.Shape.{Flow, HasWidth, widths_of}
use Rattle.c_graph.specs.Runs.{Formulas, IsMapOf}
use Rattle.cert_text.specs.declared.Cert.{Cert}
use Rattle.resolution_log.specs.declared.Chain.{Chain}
use Rattle.resolution_log.specs.declared.LogFail.{LogFail}
use Rattle.resolution_log.specs.declared.LogFail.TheVariants.{BadStep as BadChain, NoEmpty as LacksEmpty}
use Rattle.resolution_log.specs.Verdict.{IsCause}
use Rattle.obligations.specs.Questions.{count_of}
use Rattle.bit_gates.specs.Cut.{IsCutOff}
use Rattle.obligations.specs.Stated.{obligation_says}
use Rattle.cert_check.specs.declared.fails.MapFault.{MapFault}
use Rattle.cert_check.specs.declared.fails.MapFault.TheVariants.{Layout, Nodes, Term, Formula}
use Rattle.cert_check.specs.declared.fails.CheckFail.{CheckFail}
use Rattle.cert_check.specs.declared.fails.CheckFail.TheVariants.{WrongMap, Count, BadStep, NoEmpty, Over, Memory}
use Rattle.cert_check.specs.Answers.{AreBits, IsMapIn, IsWithin, Passes, numbered, term_id}

-- a length as a number of 32 bits, the greatest where it is none
abbrev pub capped : ℕ → ℕ
capped n = if nat_lt n 4294967296 then n else 4294967295

-- the table of these terms over cells of these widths
abbrev pub table_over : List ℕ → List ATerm → Table
table_over cells ts = record { cells = cells; terms = ts }

-- the terms before this number are each well formed over the cells and those before it, and that of this number is not
pub record IsFirstMisfit (cells : List ℕ) (ts : List ATerm) (k : ℕ) : Type 0 where
  pub before : IsTable (table_over cells (take k ts))
  pub term : ATerm
  pub at : slice_get ts k ≡ Some term
  pub misfit : FitsTable (table_over cells (take k ts)) term → ⊥

abbrev pub IsTermCause : List ℕ → List ATerm → CheckFail → Type 0
IsTermCause cells ts (WrongMap (Term k)) = IsFirstMisfit cells ts k
IsTermCause cells ts Memory = Unit {0}
IsTermCause cells ts _ = ⊥

-- the formulas before this number are terms of width 1, and that of this number is not
pub record IsFirstWide (table : Table) (ns : List ℕ) (k : ℕ) : Type 0 where
  pub before : AreBits table (numbered (take k ns))
  pub number : ℕ
  pub at : slice_get ns k ≡ Some number
  pub misfit : HasWidth table (term_id number) 1 → ⊥

abbrev pub IsFormulaCause : Table → List ℕ → CheckFail → Type 0
IsFormulaCause table ns (WrongMap (Formula k)) = IsFirstWide table ns k
IsFormulaCause table ns Memory = Unit {0}
IsFormulaCause table ns _ = ⊥

-- what of the map does not fit, all that comes before it fitting
abbrev pub IsMapFault : Flow → Cert → MapFault → Type 0
IsMapFault g c (Layout stored wanted) = (stored ≡ c.layout) × (wanted ≡ 2) × (stored ≡ wanted → ⊥)
IsMapFault g c (Nodes stored wanted) =
    (c.layout ≡ 2) × (stored ≡ capped (length c.formulas.items)) × (wanted ≡ length g.nodes) × (length c.formulas.items ≡ wanted → ⊥)
IsMapFault g c (Term k) =
    (c.layout ≡ 2) × (length c.formulas.items ≡ length g.nodes) × IsFirstMisfit (widths_of g.cells) c.terms.items k
IsMapFault g c (Formula k) =
    (c.layout ≡ 2) × (length c.formulas.items ≡ length g.nodes) × IsTable (table_over (widths_of g.cells) c.terms.items)
    × IsFirstWide (table_over (widths_of g.cells) c.terms.items) c.formulas.items k

abbrev pub IsMapCause : Flow → Cert → CheckFail → Type 0
IsMapCause g c (WrongMap fault) = IsMapFault g c fault
IsMapCause g c Memory = Unit {0}
IsMapCause g c _ = ⊥

-- the log of one obligation, whose clauses are within the limit on literals: what the check of a log says of it, and the obligation's
-- number; or the limit cuts the obligation's clauses off, at this size
abbrev pub IsLogCause : Flow → Formulas → ℕ → List Chain → CheckFail → Type 0
IsLogCause g m n log (BadStep number k) = (number ≡ n) × IsWithin g m n × IsCause (obligation_says g m n) log (BadChain k)
IsLogCause g m n log (NoEmpty number) = (number ≡ n) × IsWithin g m n × IsCause (obligation_says g m n) log LacksEmpty
IsLogCause g m n log (Over size) = IsCutOff (obligation_says g m n) (TooMany size)
IsLogCause g m n log Memory = Unit {0}
IsLogCause g m n log _ = ⊥

-- the obligations before this number pass by their logs
abbrev pub AreRefutedBefore : Flow → Formulas → List (List Chain) → ℕ → Type 0
AreRefutedBefore g m logs n = (i : ℕ) (log : List Chain) → i < n → slice_get logs i ≡ Some log → Passes g m i log

-- the obligations before this number pass; this one's clauses are within the limit on literals too, and its log fails so
abbrev pub FailsFirst : Flow → Formulas → List (List Chain) → ℕ → LogFail → Type 0
FailsFirst g m logs n fail =
    AreRefutedBefore g m logs n
    × ((log : List Chain) × (slice_get logs n ≡ Some log) × IsWithin g m n × IsCause (obligation_says g m n) log fail)

-- the obligations before one of them pass, and the limit cuts that one's clauses off, at this size
abbrev pub IsCutFirst : Flow → Formulas → List (List Chain) → ℕ → Type 0
IsCutFirst g m logs size =
    (n : ℕ) × AreRefutedBefore g m logs n
    × ((log : List Chain) × (slice_get logs n ≡ Some log) × IsCutOff (obligation_says g m n) (TooMany size))

abbrev pub IsLogsCause : Flow → Formulas → List (List Chain) → CheckFail → Type 0
IsLogsCause g m logs (BadStep n k) = FailsFirst g m logs n (BadChain k)
IsLogsCause g m logs (NoEmpty n) = FailsFirst g m logs n LacksEmpty
IsLogsCause g m logs (Over size) = IsCutFirst g m logs size
IsLogsCause g m logs Memory = Unit {0}
IsLogsCause g m logs _ = ⊥

abbrev pub IsCountCause : List (List Chain) → ℕ → CheckFail → Type 0
IsCountCause logs n (Count stored wanted) = (stored ≡ capped (length logs)) × (wanted ≡ n) × (length logs ≡ n → ⊥)
IsCountCause logs n _ = ⊥

-- the map fits, and it has this
abbrev pub WithMap : Flow → Cert → (Formulas → Type 0) → Type 0
WithMap g c P = (m : Formulas) × IsMapIn g c m × IsMapOf g m × P m

-- Why a certificate is not accepted: what of its map does not fit; or the map fits, and the number of logs is not that of
-- obligations; or it is, and an obligation fails, those before it passing. `Over` names the number of literals up to the first
-- clause of that obligation that passes the limit.
abbrev pub IsCheckCause : Flow → Cert → CheckFail → Type 0
IsCheckCause g c (WrongMap fault) = IsMapFault g c fault
IsCheckCause g c (Count stored wanted) = WithMap g c (λ m. IsCountCause c.logs.items (count_of g) (Count stored wanted))
IsCheckCause g c (BadStep n k) = WithMap g c (λ m. (length c.logs.items ≡ count_of g) × FailsFirst g m c.logs.items n (BadChain k))
IsCheckCause g c (NoEmpty n) = WithMap g c (λ m. (length c.logs.items ≡ count_of g) × FailsFirst g m c.logs.items n LacksEmpty)
IsCheckCause g c (Over size) = WithMap g c (λ m. (length c.logs.items ≡ count_of g) × IsCutFirst g m c.logs.items size)
IsCheckCause g c Memory = Unit {0}
