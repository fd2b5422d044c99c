-- The laws of cut formulas: each with the clauses of the next step implies the next, and reads only its cut.
use Rattle.std.specs.Prelude.{ℕ, ◌<◌, ◌≤◌, ◌≡◌, ◌⊎◌, Bool, true, false, List, ◌++◌, suc, length, Some, slice_get, slice_index, slice_index_or}
use Rattle.bv_term.specs.declared.term.TermId.{TermId}
use Rattle.bv_term.specs.WellFormed.{Table, IsTable}
use Rattle.bv_term.specs.Values.{Holds}
use Rattle.formula_diagrams.specs.Truths.{is_set}
use Rattle.path_query.specs.declared.query.Bundle.{Bundle}
use Rattle.path_query.specs.declared.query.PathQuery.{PathQuery}
use Rattle.path_query.specs.Facts.{IsQuery}
use Rattle.prop.specs.declared.Lit.{Lit}
use Rattle.prop.specs.Logic.{lit_value, clause_holds}
use Rattle.prop.specs.Steps.{Has}
use Rattle.resolution_log.specs.declared.Chain.{Chain}
use Rattle.resolution_log.specs.Chains.{IsRefutation, results_of}
use Rattle.interpolants.specs.declared.items.Placed.{Placed}
use Rattle.interpolants.specs.CutMeanings.{AreCutFormulas, AreShared, IsFormulaAt, edge_of}
use Rattle.interpolants.specs.Cuts.{AreFormulas}
use Rattle.interpolants.specs.Meanings.{Agree, read}
use Rattle.interpolants.specs.Placings.{bits_of}
use Rattle.interpolants.specs.Rules.{is_behind, truths, cut_truth}

-- a clause has a true literal whose variable occurs behind one cut and not behind another
abbrev pub Loses : (ℕ → Bool) → (ℕ → Bool) → (ℕ → Bool) → List Lit → Type 0
Loses behind beyond v c = (l : Lit) × (Has c l) × (behind l.var ≡ true) × (beyond l.var ≡ false) × (lit_value v l ≡ true)

-- from the truth of a clause at one cut to that at the next: it is kept, or a literal that is lost between the cuts is true
abbrev pub Leads : (ℕ → Bool) → (ℕ → Bool) → (ℕ → Bool) → Bool → Bool → List Lit → Type 0
Leads behind beyond v x y c = x ≡ true → (y ≡ true) ⊎ Loses behind beyond v c

-- the clauses between two edges hold
abbrev pub Between : List (List Lit) → (ℕ → Bool) → ℕ → ℕ → Type 0
Between clauses v edge next =
    (n : ℕ) (c : List Lit) → edge ≤ n → n < next → slice_get clauses n ≡ Some c → clause_holds v c ≡ true

-- at each clause and each result, where the clauses between two cuts hold
abbrev pub StepsLead : Type 0
StepsLead =
    (clauses rs : List (List Lit)) (log : List Chain) (edge next : ℕ) (v : ℕ → Bool) (n : ℕ) (c : List Lit)
    → edge ≤ next → results_of clauses log ≡ Some rs → Between clauses v edge next → slice_get (clauses ++ rs) n ≡ Some c
    → Leads (is_behind clauses edge) (is_behind clauses next) v
    (slice_index_or (truths clauses log edge v) n true) (slice_index_or (truths clauses log next v) n true) c

-- a cut's formula, with the clauses up to the next cut, implies the next cut's formula
abbrev pub CutsLead : Type 0
CutsLead =
    (clauses : List (List Lit)) (log : List Chain) (edge next : ℕ) (v : ℕ → Bool)
    → edge ≤ next → IsRefutation clauses log → Between clauses v edge next
    → cut_truth clauses log edge v ≡ true → cut_truth clauses log next v ≡ true

-- with all clauses behind it a cut's formula is true
abbrev pub FirstIsTrue : Type 0
FirstIsTrue = (clauses : List (List Lit)) (log : List Chain) (v : ℕ → Bool) → cut_truth clauses log 0 v ≡ true

-- with no clause behind it a cut's formula is false
abbrev pub LastIsFalse : Type 0
LastIsFalse =
    (clauses : List (List Lit)) (log : List Chain) (v : ℕ → Bool)
    → IsRefutation clauses log → cut_truth clauses log (length clauses) v ≡ false

-- the assignment gives the literal of each bit the bit's value in the store
abbrev pub Gives : (ℕ → Bool) → List Placed → List ℕ → Type 0
Gives v bits store = (k : ℕ) (p : Placed) → slice_get bits k ≡ Some p → lit_value v p.lit ≡ is_set store p.bit

-- at the cut of this number are these cells and this term, and each variable that occurs before and behind the cut is that of a bit of them
pub record IsCutAt (q : PathQuery) (fs : List TermId) (k : ℕ) (bundles : List Bundle) (t : TermId) : Type 0 where
  pub cells : slice_get q.cuts k ≡ Some bundles
  pub formula : slice_get fs k ≡ Some t
  pub shared : AreShared q.clauses (edge_of q k) (bits_of bundles)

-- from one cut of a path to the next: under an assignment that gives the bits of the first their values in one store and the bits of the
-- second theirs in another, where the clauses between the cuts hold, the first formula in the one store implies the second in the other
abbrev pub FormulasLead : Type 0
FormulasLead =
    (table : Table) (cells : List ℕ) (steps k : ℕ) (q : PathQuery) (log : List Chain) (fs : List TermId) (front back : List Bundle)
    (f h : TermId) (v : ℕ → Bool) (before after : List ℕ)
    → IsQuery cells steps q → IsRefutation q.clauses log → AreCutFormulas table q log fs → IsCutAt q fs k front f → IsCutAt q fs (suc k) back h
    → Between q.clauses v (edge_of q k) (edge_of q (suc k)) → Gives v (bits_of front) before → Gives v (bits_of back) after
    → Holds table before f → Holds table after h

-- where all bits with one variable agree in a store, the assignment that is read from the store gives the bits their values
abbrev pub AgreedAreGiven : Type 0
AgreedAreGiven = (bits : List Placed) (store : List ℕ) → Agree bits store → Gives (read bits store) bits store

-- two stores give the cells the same values
abbrev pub SameOn : List Bundle → List ℕ → List ℕ → Type 0
SameOn bundles one other =
    (k : ℕ) (b : Bundle) → slice_get bundles k ≡ Some b → slice_index one b.cell ≡ slice_index other b.cell

-- the formula of a cut holds in both of two stores that give the cells of the cut the same values, or in none of them
abbrev pub FormulasReadTheirCut : Type 0
FormulasReadTheirCut =
    (table : Table) (cells : List ℕ) (steps k : ℕ) (q : PathQuery) (log : List Chain) (fs : List TermId) (bundles : List Bundle) (t : TermId)
    (one other : List ℕ)
    → IsTable table → IsQuery cells steps q → AreFormulas table steps fs → AreCutFormulas table q log fs → IsCutAt q fs k bundles t
    → SameOn bundles one other → Holds table one t → Holds table other t

-- the first formula is that of its cut too, where all bits of the cut with one variable agree in each store
abbrev pub FirstIsMeant : Type 0
FirstIsMeant =
    (table : Table) (steps : ℕ) (q : PathQuery) (log : List Chain) (fs : List TermId) (t : TermId)
    → IsTable table → AreFormulas table steps fs → slice_get fs 0 ≡ Some t
    → ((bundles : List Bundle) → slice_get q.cuts 0 ≡ Some bundles → (store : List ℕ) → Agree (bits_of bundles) store)
    → IsFormulaAt table q log 0 t

-- so is the last
abbrev pub LastIsMeant : Type 0
LastIsMeant =
    (table : Table) (cells : List ℕ) (steps : ℕ) (q : PathQuery) (log : List Chain) (fs : List TermId) (t : TermId)
    → IsTable table → IsQuery cells steps q → IsRefutation q.clauses log → AreFormulas table steps fs → 0 < steps → slice_get fs steps ≡ Some t
    → IsFormulaAt table q log steps t
