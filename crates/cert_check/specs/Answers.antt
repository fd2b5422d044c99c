-- What the check of a certificate answers.
use Rattle.std.specs.Prelude.{ℕ, ◌≡◌, ◌≤◌, List, length, map, All, Some, slice_get}
use Rattle.prop.specs.Logic.{count}
use Rattle.bv_term.specs.declared.term.TermId.{TermId}
use Rattle.bv_term.specs.declared.term.Term.{Term}
use Rattle.bv_term.specs.WellFormed.{Table, IsTable}
use Rattle.c_graph.specs.Shape.{Flow, HasWidth, widths_of}
use Rattle.c_graph.specs.Runs.{Formulas, IsMapOf}
use Rattle.cert_text.specs.declared.Cert.{Cert}
use Rattle.resolution_log.specs.declared.Chain.{Chain}
use Rattle.resolution_log.specs.Chains.{IsRefutation}
use Rattle.obligations.specs.Questions.{count_of}
use Rattle.obligations.specs.Stated.{obligation_says}

-- the terms of these numbers
abbrev pub term_id : ℕ → TermId
term_id n = record { 0 = n }

abbrev pub numbered : List ℕ → List TermId
numbered ns = map term_id ns

-- the table has these terms, over the graph's cells
pub record IsTableIn (g : Flow) (ts : List Term) (table : Table) : Type 0 where
  pub cells : table.cells ≡ widths_of g.cells
  pub terms : table.terms ≡ ts
  pub fits : IsTable table

-- each formula is a term of width 1
abbrev pub AreBits : Table → List TermId → Type 0
AreBits table formulas = All (λ t. HasWidth table t 1) formulas

-- the map is that of the certificate, whose layout is the graph's
pub record IsMapIn (g : Flow) (c : Cert) (m : Formulas) : Type 0 where
  pub layout : c.layout ≡ 2
  pub cells : m.terms.cells ≡ widths_of g.cells
  pub terms : m.terms.terms ≡ c.terms.items
  pub fits : IsTable m.terms
  pub at : m.at ≡ numbered c.formulas.items

-- the clauses of an obligation are within the limit on literals
abbrev pub IsWithin : Flow → Formulas → ℕ → Type 0
IsWithin g m n = count (obligation_says g m n) ≤ 67108864

-- an obligation passes: its clauses are within the limit on literals, and its log refutes them
pub record Passes (g : Flow) (m : Formulas) (n : ℕ) (log : List Chain) : Type 0 where
  pub within : IsWithin g m n
  pub refuted : IsRefutation (obligation_says g m n) log

-- each obligation passes by its log
abbrev pub AreRefutations : Flow → Formulas → List (List Chain) → Type 0
AreRefutations g m logs = (n : ℕ) (log : List Chain) → slice_get logs n ≡ Some log → Passes g m n log

-- the certificate is accepted: its map fits, and each obligation passes by its log, of which there is one for each
pub record IsAccepted (g : Flow) (c : Cert) : Type 0 where
  pub formulas : Formulas
  pub stored : IsMapIn g c formulas
  pub is_map : IsMapOf g formulas
  pub count : length c.logs.items ≡ count_of g
  pub logs : AreRefutations g formulas c.logs.items
