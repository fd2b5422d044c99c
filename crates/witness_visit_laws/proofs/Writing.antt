-- The invariants of a certificate's map, whose terms and formulas are those of an inductive map.
use Rattle.std.proofs.Common.{◌≡◌, ◌∙◌, ap, sym, subst, refl, ℕ, List, Bool}
use Rattle.std.specs.Prelude.{Option, Some, None, slice_get}
use Rattle.lv_base.specs.declared.kind.Model.{Model}
use Rattle.bv_term.specs.declared.term.Term.{Term}
use Rattle.bv_term.specs.declared.term.TermId.{TermId}
use Rattle.bv_term.specs.WellFormed.{IsTable}
use Rattle.c_tree.specs.Tree.{Items}
use Rattle.c_meaning.specs.Program.{env_of}
use Rattle.c_typed.specs.Tree.{Program}
use Rattle.c_typed.specs.Parts.{Parts, tree_of}
use Rattle.c_types.specs.Elaborated.{elaborated}
use Rattle.c_types.specs.Laws.{SourceFits}
use Rattle.c_graph.specs.declared.graph.LoopAt.{LoopAt}
use Rattle.c_graph.specs.Shape.{Flow, IsFlow}
use Rattle.c_graph.specs.Runs.{Formulas, IsInductive}
use Rattle.cfg_build.specs.Graphs.{program_setting}
use Rattle.loop_names.specs.Spellings.{spellings_of}
use Rattle.program_visits.specs.Visiting.{IsLoopOf}
use Rattle.source_witnesses.specs.Witnesses.{condition_of, expression_at, shown_cells}
use Rattle.witness_expressions.specs.Names.{named}
use Rattle.witness_expressions.specs.Expressions.{expression_of}
use Rattle.witness_places.specs.Loops.{main_loops}
use Rattle.witness_visit_laws.specs.Visited.{IsTrueAt, InvariantIsTrue, VisitsMarked}
use Rattle.witness_visit_laws.proofs.Stating.{marked-invariants-are-true}

-- what is written of a formula is made of the terms alone
of-terms : (names : ℕ → Option (List ℕ)) (m n : Formulas) (found : Option TermId) → n.terms.terms ≡ m.terms.terms → expression_at names n found ≡ expression_at names m found
of-terms names m n None terms = refl
of-terms names m n (Some formula) terms = ap (λ (ts : List Term). expression_of names ts formula) terms

of-map : (names : ℕ → Option (List ℕ)) (m n : Formulas) (l : LoopAt) → n.terms.terms ≡ m.terms.terms → n.at ≡ m.at
    → expression_at names n (slice_get n.at l.node.0) ≡ expression_at names m (slice_get m.at l.node.0)
of-map names m n l terms at =
    of-terms names m n (slice_get n.at l.node.0) terms ∙ ap (λ (ts : List TermId). expression_at names m (slice_get ts l.node.0)) at

-- the names at a loop
abbrev names_at : Items → Model → Flow → (ℕ → ℕ → Bool) → LoopAt → ℕ → Option (List ℕ)
names_at items model g marks l = named (spellings_of (env_of items model) l.at (condition_of (main_loops items) l.at)) (shown_cells (marks l.node.0) g.cells)

pub alike-invariants : (items : Items) (model : Model) (source : List ℕ) (g : Flow) (marks : ℕ → ℕ → Bool) (m n : Formulas) (l : LoopAt) → n.terms.terms ≡ m.terms.terms → n.at ≡ m.at
    → InvariantIsTrue items model source g marks n l → InvariantIsTrue items model source g marks m l
alike-invariants items model source g marks m n l terms at is =
    subst (λ (text : List ℕ). IsTrueAt items model l.at (condition_of (main_loops items) l.at) text) (of-map (names_at items model g marks l) m n l terms at) is

-- under a model that is that of the typed tree
pub written-invariants-are-true :
    (items : Items) (model : Model) (t : Parts) (order : List ℕ) (g : Flow) (marks : ℕ → ℕ → Bool) (m n : Formulas) (source : List ℕ) (l : LoopAt)
    → tree_of t ≡ elaborated items model → SourceFits items model → VisitsMarked (program_setting t order) (tree_of t) marks g
    → IsFlow g → IsTable n.terms → IsInductive g n → n.terms.terms ≡ m.terms.terms → n.at ≡ m.at → IsLoopOf g l → InvariantIsTrue items model source g marks m l
written-invariants-are-true items model t order g marks m n source l tree fits visits flow is inductive terms at there =
    let same : t.model ≡ model = ap (λ (p : Program). p.model) tree in
    let own_tree : tree_of t ≡ elaborated items t.model = subst (λ (x : Model). tree_of t ≡ elaborated items x) (sym same) tree in
    let own_fits : SourceFits items t.model = subst (λ (x : Model). SourceFits items x) (sym same) fits in
    alike-invariants items model source g marks m n l terms at
    (subst (λ (x : Model). InvariantIsTrue items x source g marks n l) same
    (marked-invariants-are-true items t order g marks n source l own_tree own_fits visits flow is inductive there))
