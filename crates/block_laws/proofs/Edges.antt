-- A graph that has a code runs as the code does.
use Rattle.std.proofs.Common.{◌≡◌, ℕ, inl, inr, Bool, not, List, [], ◌∷◌, ◌++◌, Option, Some, None, refl, sym, ap, ◌∙◌, subst, zero, suc, arith, All, slice_set, if◌then◌else◌}
use Rattle.std.proofs.lemmas.Bool.{cases_Bool}
use Rattle.bv_term.specs.WellFormed.{Table, IsTable}
use Rattle.bv_term.specs.Values.{value}
use Rattle.c_graph.specs.declared.graph.NodeId.{NodeId}
use Rattle.c_graph.specs.declared.graph.EdgeId.{EdgeId}
use Rattle.c_graph.specs.declared.graph.Operation.{Operation}
use Rattle.c_graph.specs.declared.graph.Operation.TheVariants.{Assume, Set, SetAt, Draw}
use Rattle.c_graph.specs.declared.graph.Edge.{Edge}
use Rattle.c_graph.specs.Shape.{Flow, IsFlow, OperationFits}
use Rattle.c_graph.specs.Steps.{IsWhole, Moment, moment, drawn, stored_at, operated, operated_all}
use Rattle.c_graph.proofs.Keeping.{edge-fits, leads-whole}
use Rattle.graph_walk_laws.proofs.Consuming.{taken}
use Rattle.block_rule.specs.Deeds.{Deed, Tests, Sets, SetsAt, Draws, did, did_on, did_all, IsDeed, AreDeeds, Code, Stops, Refused, Ends, Does, Branches, ran, Leading, Reaches, Has}
use Rattle.block_rule.specs.Rule.{guarded}
use Rattle.block_rule.specs.Blocked.{plain_deeds}
use Rattle.block_laws.proofs.Reading.{SetsBelow, AllSetBelow, none_stays, some_or_none}
use Rattle.block_laws.proofs.Moving.{Widths, drawn-alike}
use Rattle.block_laws.proofs.Blocks.{Along}

did_none : (table : Table) (ds : List Deed) → did_all table ds None ≡ None
did_none table [] = refl
did_none table (d ∷ ds) = did_none table ds

did-append : (table : Table) (xs ys : List Deed) (r : Option Moment) → did_all table (xs ++ ys) r ≡ did_all table ys (did_all table xs r)
did-append table [] ys r = refl
did-append table (d ∷ xs) ys r = did-append table xs ys (did_on table d r)

ran_none : (table : Table) (c : Code) → ran table c None ≡ None
ran_none table Stops = refl
ran_none table Refused = refl
ran_none table (Ends to) = refl
ran_none table (Does d c) = ran_none table c
ran_none table (Branches p c e) = refl

deed-operates : (table : Table) (op : Operation) (d : Deed) (m : Moment) → IsDeed table op d → IsWhole table.cells m.store → did table d m ≡ operated table op m
deed-operates table (Assume t) (Tests p) m is whole = ap (λ (b : Bool). if b then Some m else None) (sym (is m.store whole))
deed-operates table (Set c t) (Sets d f) m is whole =
    ap (λ (x : ℕ). Some (moment (slice_set m.store d x) m.inputs)) (sym (is.1 m.store whole))
    ∙ ap (λ (x : ℕ). Some (moment (slice_set m.store x (value table m.store t)) m.inputs)) (sym is.0)
deed-operates table (SetAt c k i t) (SetsAt d j h f) m is whole =
    ap (λ (x : ℕ). Some (moment (stored_at m.store d j (h m.store) x) m.inputs)) (sym (is.3 m.store whole))
    ∙ ap (λ (x : ℕ). Some (moment (stored_at m.store d j x (value table m.store t)) m.inputs)) (sym (is.2 m.store whole))
    ∙ ap (λ (x : ℕ). Some (moment (stored_at m.store d x (value table m.store i) (value table m.store t)) m.inputs)) (sym is.1)
    ∙ ap (λ (x : ℕ). Some (moment (stored_at m.store x k (value table m.store i) (value table m.store t)) m.inputs)) (sym is.0)
deed-operates table (Draw c signed) (Draws d s) m is whole =
    ap (λ (x : ℕ). drawn table x s m.store m.inputs) (sym is.0) ∙ ap (λ (x : Bool). drawn table c x m.store m.inputs) (sym is.1)
deed-operates table _ _ m is whole = absurd is

one-fits : (table : Table) (op : Operation) (ops : List Operation) → All (OperationFits table) (op ∷ ops) → All (OperationFits table) (op ∷ [])
one-fits table op ops f zero d lt = f zero d (omega arith)
one-fits table op ops f (suc k) d lt = absurd (omega (arith, lt))

pub whole-after : (table : Table) (e : Edge) (m a : Moment) → IsTable table → All (OperationFits table) e.ops → IsWhole table.cells m.store
    → operated_all table e.ops (Some m) ≡ Some a → IsWhole table.cells a.store
whole-after table e m a is fits whole h =
    let (first, split, leads) = taken table e.ops m a h in
    leads-whole table e m.store first a.store is fits whole leads

deeds-operate : (table : Table) (v : NodeId) (ops : List Operation) (ds : List Deed) (m : Moment) → IsTable table → All (OperationFits table) ops → AreDeeds table ops ds
    → IsWhole table.cells m.store → did_all table ds (Some m) ≡ operated_all table ops (Some m)
deeds-operate table v [] [] m is fits are whole = refl
deeds-operate table v (op ∷ ops) (d ∷ ds) m is fits are whole = elim (some_or_none (operated table op m)) [
  | inl e ↦
      ap (did_all table ds) (deed-operates table op d m are.0 whole ∙ e) ∙ did_none table ds ∙ sym (none_stays table ops)
      ∙ ap (operated_all table ops) (sym e)
  | inr e ↦
      let next : IsWhole table.cells e.0.store =
      whole-after table (record { from = v; to = v; ops = op ∷ [] }) m e.0 is (one-fits table op ops fits) whole (ap (operated_all table []) e.1) in
      ap (did_all table ds) (deed-operates table op d m are.0 whole ∙ e.1)
      ∙ deeds-operate table v ops ds e.0 is (λ k x lt. fits (suc k) x (omega (arith, lt))) are.1 next
      ∙ ap (operated_all table ops) (sym e.1)
]
deeds-operate table v _ _ m is fits are whole = absurd are

-- operations as they are
plain-operates : (table wide : Table) (n : ℕ) (op : Operation) (m : Moment) → Widths n table wide → SetsBelow n op → did wide (guarded table None op) m ≡ operated table op m
plain-operates table wide n (Assume t) m widths below = refl
plain-operates table wide n (Set c t) m widths below = refl
plain-operates table wide n (SetAt first k i t) m widths below = refl
plain-operates table wide n (Draw c signed) m widths below = drawn-alike table wide c signed m.store m.inputs (widths c below)

pub plain-operate : (table wide : Table) (n : ℕ) (ops : List Operation) (m : Moment) → Widths n table wide → AllSetBelow n ops
    → did_all wide (plain_deeds table ops) (Some m) ≡ operated_all table ops (Some m)
plain-operate table wide n [] m widths below = refl
plain-operate table wide n (op ∷ ops) m widths below = elim (some_or_none (operated table op m)) [
  | inl e ↦
      ap (did_all wide (plain_deeds table ops)) (plain-operates table wide n op m widths below.0 ∙ e) ∙ did_none wide (plain_deeds table ops)
      ∙ sym (none_stays table ops) ∙ ap (operated_all table ops) (sym e)
  | inr e ↦
      ap (did_all wide (plain_deeds table ops)) (plain-operates table wide n op m widths below.0 ∙ e.1)
      ∙ plain-operate table wide n ops e.0 widths below.1 ∙ ap (operated_all table ops) (sym e.1)
]

pub along-append : (h : Flow) (xs ys : List EdgeId) (v : ℕ) (m : Moment) (u : ℕ) (b : Moment) (w : ℕ) (a : Moment) → Along h xs v m u b → Along h ys u b w a → Along h (xs ++ ys) v m w a
along-append h [] ys v m u b w a x y =
    subst (λ (k : ℕ). Along h ys k m w a) (sym x.0) (subst (λ (z : Moment). Along h ys u z w a) (sym x.1) y)
along-append h (k ∷ xs) ys v m u b w a (e, there, from, (mid, go, run)) y = (e, there, from, (mid, go, along-append h xs ys e.to.0 mid u b w a run y))

module _ (h : Flow) (flow : IsFlow h) where
  -- an edge, and what is known behind it
  pub leads-along : (v : ℕ) (ds : List Deed) (u : ℕ) (m a : Moment) → Leading h v ds u → IsWhole h.terms.cells m.store → did_all h.terms ds (Some m) ≡ Some a
      → (path : List EdgeId) × (Along h path v m u a × IsWhole h.terms.cells a.store)
  leads-along v ds u m a (k, (e, there, from, goal, are)) whole did =
      let fits = edge-fits h k e flow there in
      let go : operated_all h.terms e.ops (Some m) ≡ Some a = sym (deeds-operate h.terms e.from e.ops ds m flow.table fits.operations are whole) ∙ did in
      let id : EdgeId = record { 0 = k } in
      (id ∷ [], ((e, there, from, (a, go, (goal, refl))), whole-after h.terms e m a flow.table fits.operations whole go))

  same-end : (x y : ℕ × Moment) → Some x ≡ Some y → x ≡ y
  same-end x y e = cc

  same-some : (m a : Moment) → Some m ≡ Some a → m ≡ a
  same-some m a e = cc

  reaches-along : (v : ℕ) (ds : List Deed) (u : ℕ) (m a : Moment) → Reaches h v ds u → IsWhole h.terms.cells m.store → did_all h.terms ds (Some m) ≡ Some a
      → (path : List EdgeId) × (Along h path v m u a × IsWhole h.terms.cells a.store)
  reaches-along v ds u m a (inl is) whole did =
      let stays : m ≡ a = same-some m a (ap (λ (xs : List Deed). did_all h.terms xs (Some m)) (sym is.0) ∙ did) in
      ([], ((is.1, stays), subst (λ (x : Moment). IsWhole h.terms.cells x.store) stays whole))
  reaches-along v ds u m a (inr leads) whole did = leads-along v ds u m a leads whole did

  pub has-runs : (c : Code) (v : ℕ) (ds : List Deed) (m a : Moment) (to : ℕ) (end : Moment) → Has h v ds c → IsWhole h.terms.cells m.store
      → did_all h.terms ds (Some m) ≡ Some a → ran h.terms c (Some a) ≡ Some (to, end) → (path : List EdgeId) × (Along h path v m to end × IsWhole h.terms.cells end.store)
  has-runs Stops v ds m a to end has whole did go = absurd (let z : None ≡ Some (to, end) = go in cc)
  has-runs Refused v ds m a to end has whole did go = absurd has
  has-runs (Ends t) v ds m a to end has whole did go =
      let same = same-end (t, a) (to, end) go in
      let (path, (run, next)) = leads-along v ds t m a has whole did in (
        path,
        (
          subst (λ (k : ℕ). Along h path v m k end) (ap (λ (x : ℕ × Moment). x.0) same) (subst (λ (x : Moment). Along h path v m t x) (ap (λ (x : ℕ × Moment). x.1) same) run),
          subst (λ (x : Moment). IsWhole h.terms.cells x.store) (ap (λ (x : ℕ × Moment). x.1) same) next,
        ),
      )
  has-runs (Does d c) v ds m a to end has whole did go = elim (some_or_none (did_on h.terms d (Some a))) [
    | inl e ↦ absurd (let z : None ≡ Some (to, end) = sym (ran_none h.terms c) ∙ ap (ran h.terms c) (sym e) ∙ go in cc)
    | inr e ↦
        has-runs c v (ds ++ d ∷ []) m e.0 to end has whole
        (did-append h.terms ds (d ∷ []) (Some m) ∙ ap (did_all h.terms (d ∷ [])) did ∙ e.1)
        (ap (ran h.terms c) (sym e.1) ∙ go)
  ]
  has-runs (Branches p c e) v ds m a to end (u, reaches, one, other) whole did go =
      let (first, (run, next)) = reaches-along v ds u m a reaches whole did in
      elim (cases_Bool (p a.store)) [
        | inl y ↦
            let go2 : ran h.terms c (Some a) ≡ Some (to, end) = rw y at go in
            let (rest, (run2, last)) = has-runs c u (Tests p ∷ []) a a to end one next (ap (λ (b : Bool). if b then Some a else None) y) go2 in
            (first ++ rest, (along-append h first rest v m u a to end run run2, last))
        | inr y ↦
            let go2 : ran h.terms e (Some a) ≡ Some (to, end) = rw y at go in
            let (rest, (run2, last)) = has-runs e u (Tests (λ s. not (p s)) ∷ []) a a to end other next (ap (λ (b : Bool). if not b then Some a else None) y) go2 in
            (first ++ rest, (along-append h first rest v m u a to end run run2, last))
      ]
