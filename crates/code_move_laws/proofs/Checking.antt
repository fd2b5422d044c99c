-- Checks, one after the other, and what follows where they pass.
use Rattle.std.proofs.Common.{◌≡◌, ℕ, ◌+◌, ◌<◌, ◌^◌, ◌==◌, ◌⊎◌, inl, inr, refl, sym, ap, ◌∙◌, subst, arith, Bool, if◌then◌else◌, List, [], ◌∷◌, None, Some, slice_get, ℤ}
use Rattle.std.proofs.lemmas.Bool.{eq-eqb, cases_eq}
use Rattle.std.proofs.lemmas.List.{append-nil}
use Rattle.std.proofs.lemmas.Option.{same_Some, none-some}
use Rattle.lv_base.specs.declared.fault.ErrorKind.{ErrorKind}
use Rattle.bv_term.specs.declared.term.TermId.{TermId}
use Rattle.bv_term.specs.WellFormed.{Table, IsTable}
use Rattle.bv_term.specs.Values.{value}
use Rattle.bv_term.specs.Numbers.{complement_in}
use Rattle.bv_term.proofs.Staying.{values_fit}
use Rattle.c_graph.specs.declared.graph.NodeId.{NodeId}
use Rattle.c_graph.specs.declared.graph.Node.{Node}
use Rattle.c_graph.specs.declared.graph.Node.TheVariants.{Error}
use Rattle.c_graph.specs.declared.graph.Operation.{Operation}
use Rattle.c_graph.specs.declared.graph.Operation.TheVariants.{Assume}
use Rattle.c_graph.specs.declared.graph.Edge.{Edge}
use Rattle.c_graph.specs.Steps.{IsWhole, moment, operated_all, Leads}
use Rattle.c_terms.specs.declared.failing.Tests.{Tests}
use Rattle.c_terms.specs.declared.failing.Tests.TheVariants as t
use Rattle.c_terms.specs.Operations.{Failure}
use Rattle.c_terms.specs.Shown.{Shows, AreFails}
use Rattle.word_laws.specs.Laws.{first_met}
use Rattle.cfg_build.specs.Steps.{node_id, edge, checked_nodes, checked_edges, IsTurned, Passes}
use Rattle.code_move_laws.specs.Paths.{Runs, ChecksPass, ChecksFail}
use Rattle.code_move_laws.proofs.Operating.{deeds-are-done}

-- ---- Runs

one-edge : (table : Table) (edges : List Edge) (k : ℕ) (e : Edge) (v w : NodeId) (store : List ℕ) (draws : List ℤ) (after : List ℕ) → slice_get edges k ≡ Some e → e.from ≡ v → e.to ≡ w → Leads table e store draws after
    → Runs table edges (k ∷ []) v store draws w after
one-edge table edges k e v w store draws after there from to leads = (e, there, from, (after, draws, [], sym (append-nil draws), leads, (to, refl, refl)))

two-edges : (table : Table) (edges : List Edge) (j k : ℕ) (d e : Edge) (v w : NodeId) (store : List ℕ) (draws : List ℤ) (after : List ℕ) → slice_get edges j ≡ Some d → d.from ≡ v → Leads table d store [] store
    → slice_get edges k ≡ Some e → e.from ≡ d.to → e.to ≡ w → Leads table e store draws after → Runs table edges (j ∷ k ∷ []) v store draws w after
two-edges table edges j k d e v w store draws after there from first other next to leads =
    (d, there, from, (store, [], draws, refl, first, one-edge table edges k e d.to w store draws after other next to leads))

-- ---- Assumed terms

assumed : (table : Table) (term : TermId) (ops : List Operation) (store : List ℕ) (draws : List ℤ) (after : List ℕ) → value table store term ≡ 1
    → operated_all table ops (Some (moment store draws)) ≡ Some (moment after []) → operated_all table (Assume term ∷ ops) (Some (moment store draws)) ≡ Some (moment after [])
assumed table term ops store draws after one rest = ap (λ (b : Bool). operated_all table ops (if b then Some (moment store draws) else None)) (eq-eqb (value table store term) 1 one) ∙ rest

module _ (table : Table) (store : List ℕ) (sound : IsTable table) (whole : IsWhole table.cells store) where
  -- a test is 0 or 1
  bit : (term : TermId) (number : ℕ) → Shows table store term 1 number → (number ≡ 1) ⊎ (number ≡ 0)
  bit term number h = go (cases_eq number 1)
    where
      few : value table store term < 2 ^ 1
      few = subst (λ (w : ℕ). value table store term < 2 ^ w) h.width (values_fit table store term sound whole.fits h.there)

      go : (number ≡ 1) ⊎ (number ≡ 1 → ⊥) → (number ≡ 1) ⊎ (number ≡ 0)
      go (inl e) = inl e
      go (inr d) = inr (omega (arith, few, h.told, d))

  -- a term that is 1 where the test is 0
  turned : (passed test : TermId) (number : ℕ) → IsTurned table passed test → Shows table store test 1 number → number ≡ 0 → value table store passed ≡ 1
  turned passed test number h shows zero = (h store).told ∙ ap (complement_in 1) (shows.told ∙ zero)

  met : (x : Failure) (xs : List Failure) → x.when ≡ 1 → first_met (x ∷ xs) ≡ Some x.kind
  met x xs e = ap (λ (b : Bool). if b then Some x.kind else first_met xs) (eq-eqb x.when 1 e)

  unmet : (x : Failure) (xs : List Failure) → x.when ≡ 0 → first_met (x ∷ xs) ≡ first_met xs
  unmet x xs e = ap (λ (n : ℕ). if n == 1 then Some x.kind else first_met xs) e

  module _ (n : ℕ) (next : NodeId) (passed last : TermId) (ops : List Operation) where
    pass : (tests : Tests) (fs : List Failure) (draws : List ℤ) (after : List ℕ) → AreFails table store tests fs → Passes table tests passed last → first_met fs ≡ None
        → operated_all table ops (Some (moment store draws)) ≡ Some (moment after []) → (path : List ℕ) × Runs table (checked_edges n next tests passed last ops) path (node_id n) store draws next after
    pass t.None [] draws after h p fm leads = (0 ∷ [], one-edge table (checked_edges n next t.None passed last ops) 0 (edge (node_id n) next ops) (node_id n) next store draws after refl refl refl leads)
    pass t.None (x ∷ xs) draws after h p fm leads = absurd h
    pass (t.One f) [] draws after h p fm leads = absurd h
    pass (t.One f) (x ∷ []) draws after h p fm leads = by (bit f.when x.when h.shows)
      where
        by : (x.when ≡ 1) ⊎ (x.when ≡ 0) → (path : List ℕ) × Runs table (checked_edges n next (t.One f) passed last ops) path (node_id n) store draws next after
        by (inl one) = absurd (none-some x.kind (sym fm ∙ met x [] one))
        by (inr zero) = (
          1 ∷ [],
          one-edge table (checked_edges n next (t.One f) passed last ops) 1 (edge (node_id n) next (Assume passed ∷ ops)) (node_id n) next store draws after refl refl refl
              (assumed table passed ops store draws after (turned passed f.when x.when p h.shows zero) leads),
        )
    pass (t.One f) (x ∷ y ∷ ys) draws after h p fm leads = absurd h
    pass (t.Two f k) [] draws after h p fm leads = absurd h
    pass (t.Two f k) (x ∷ []) draws after h p fm leads = absurd h
    pass (t.Two f k) (x ∷ y ∷ []) draws after h p fm leads = by (bit f.when x.when (h.0).shows) (bit k.when y.when (h.1).shows)
      where
        by : (x.when ≡ 1) ⊎ (x.when ≡ 0) → (y.when ≡ 1) ⊎ (y.when ≡ 0) → (path : List ℕ) × Runs table (checked_edges n next (t.Two f k) passed last ops) path (node_id n) store draws next after
        by (inl one) b = absurd (none-some x.kind (sym fm ∙ met x (y ∷ []) one))
        by (inr zero) (inl one) = absurd (none-some y.kind (sym fm ∙ unmet x (y ∷ []) zero ∙ met y [] one))
        by (inr zero) (inr none) = (
          1 ∷ 3 ∷ [],
          two-edges table (checked_edges n next (t.Two f k) passed last ops) 1 3 (edge (node_id n) (node_id (n + 2)) (Assume passed ∷ [])) (edge (node_id (n + 2)) next (Assume last ∷ ops)) (node_id n) next store draws after refl refl
              (assumed table passed [] store [] store (turned passed f.when x.when p.0 (h.0).shows zero) refl) refl refl refl
              (assumed table last ops store draws after (turned last k.when y.when p.1 (h.1).shows none) leads),
        )
    pass (t.Two f k) (x ∷ y ∷ z ∷ zs) draws after h p fm leads = absurd h

    -- the run to an error node, whose number is so many behind the instruction's own
    abbrev Fails : Tests → ErrorKind → ℕ → Type 0
    Fails tests kind at =
        (path : List ℕ) × (j : ℕ) × (slice_get (checked_nodes at tests) j ≡ Some (Error kind at)) × Runs table (checked_edges n next tests passed last ops) path (node_id n) store [] (node_id (n + j)) store

    fail : (tests : Tests) (fs : List Failure) (kind : ErrorKind) (at : ℕ) → AreFails table store tests fs → Passes table tests passed last → first_met fs ≡ Some kind → Fails tests kind at
    fail t.None [] kind at h p fm = absurd (none-some kind fm)
    fail t.None (x ∷ xs) kind at h p fm = absurd h
    fail (t.One f) [] kind at h p fm = absurd h
    fail (t.One f) (x ∷ []) kind at h p fm = by (bit f.when x.when h.shows)
      where
        by : (x.when ≡ 1) ⊎ (x.when ≡ 0) → Fails (t.One f) kind at
        by (inl one) = (
          0 ∷ [],
          1,
          ap (λ (e : ErrorKind). Some (Error e at)) (h.kind ∙ same_Some x.kind kind (sym (met x [] one) ∙ fm)),
          one-edge table (checked_edges n next (t.One f) passed last ops) 0 (edge (node_id n) (node_id (n + 1)) (Assume f.when ∷ [])) (node_id n) (node_id (n + 1)) store [] store refl refl refl
              (assumed table f.when [] store [] store ((h.shows).told ∙ one) refl),
        )
        by (inr zero) = absurd (none-some kind (sym (unmet x [] zero) ∙ fm))
    fail (t.One f) (x ∷ y ∷ ys) kind at h p fm = absurd h
    fail (t.Two f k) [] kind at h p fm = absurd h
    fail (t.Two f k) (x ∷ []) kind at h p fm = absurd h
    fail (t.Two f k) (x ∷ y ∷ []) kind at h p fm = by (bit f.when x.when (h.0).shows) (bit k.when y.when (h.1).shows)
      where
        by : (x.when ≡ 1) ⊎ (x.when ≡ 0) → (y.when ≡ 1) ⊎ (y.when ≡ 0) → Fails (t.Two f k) kind at
        by (inl one) b = (
          0 ∷ [],
          1,
          ap (λ (e : ErrorKind). Some (Error e at)) ((h.0).kind ∙ same_Some x.kind kind (sym (met x (y ∷ []) one) ∙ fm)),
          one-edge table (checked_edges n next (t.Two f k) passed last ops) 0 (edge (node_id n) (node_id (n + 1)) (Assume f.when ∷ [])) (node_id n) (node_id (n + 1)) store [] store refl refl refl
              (assumed table f.when [] store [] store (((h.0).shows).told ∙ one) refl),
        )
        by (inr zero) (inl one) = (
          1 ∷ 2 ∷ [],
          3,
          ap (λ (e : ErrorKind). Some (Error e at)) ((h.1).kind ∙ same_Some y.kind kind (sym (unmet x (y ∷ []) zero ∙ met y [] one) ∙ fm)),
          two-edges table (checked_edges n next (t.Two f k) passed last ops) 1 2 (edge (node_id n) (node_id (n + 2)) (Assume passed ∷ [])) (edge (node_id (n + 2)) (node_id (n + 3)) (Assume k.when ∷ [])) (node_id n) (node_id (n + 3)) store [] store refl refl
              (assumed table passed [] store [] store (turned passed f.when x.when p.0 (h.0).shows zero) refl) refl refl refl
              (assumed table k.when [] store [] store (((h.1).shows).told ∙ one) refl),
        )
        by (inr zero) (inr none) = absurd (none-some kind (sym (unmet x (y ∷ []) zero ∙ unmet y [] none) ∙ fm))
    fail (t.Two f k) (x ∷ y ∷ z ∷ zs) kind at h p fm = absurd h

-- ---- Instructions

pub checks-pass : ChecksPass
checks-pass g table x next n nodes edges store draws after c sound whole fm reaches =
    let b = c.behind in
    let r = pass table store sound whole n next b.passed b.last b.ops c.tests _ draws after (c.fails store) b.passes fm (deeds-are-done table b.ops _ store draws after [] b.does reaches) in
    (r.0, subst (λ (es : List Edge). Runs table es r.0 (node_id n) store draws next after) (sym b.edges_are) r.1)

pub checks-fail : ChecksFail
checks-fail g table x next n nodes edges store kind c sound whole fm =
    let b = c.behind in
    let r = fail table store sound whole n next b.passed b.last b.ops c.tests _ kind _ (c.fails store) b.passes fm in
    (r.0, r.1, ap (λ (vs : List Node). slice_get vs r.1) b.nodes_are ∙ r.2, subst (λ (es : List Edge). Runs table es r.0 (node_id n) store [] (node_id (n + r.1)) store) (sym b.edges_are) r.3)
