-- A graph that has no other edges than a code's runs as the code does.
use Rattle.std.proofs.Common.{◌≡◌, ℕ, ◌⊎◌, inl, inr, Bool, not, List, [], ◌∷◌, ◌++◌, Option, Some, None, refl, sym, ap, ◌∙◌, subst, zero, suc, arith, All, slice_get, slice_set, if◌then◌else◌}
use Rattle.std.proofs.lemmas.Bool.{cases_Bool}
use Rattle.bv_term.specs.WellFormed.{Table, IsTable}
use Rattle.bv_term.specs.Values.{value}
use Rattle.c_graph.specs.declared.graph.NodeId.{NodeId}
use Rattle.c_graph.specs.declared.graph.EdgeId.{EdgeId}
use Rattle.c_graph.specs.declared.graph.Node.TheVariants.{Plain, Error}
use Rattle.c_graph.specs.declared.graph.Operation.{Operation}
use Rattle.c_graph.specs.declared.graph.Operation.TheVariants.{Assume, Set, SetAt, Draw}
use Rattle.c_graph.specs.declared.graph.Edge.{Edge}
use Rattle.c_graph.specs.Shape.{Flow, IsFlow, OperationFits}
use Rattle.c_graph.specs.Steps.{IsWhole, Moment, moment, drawn, stored_at, operated, operated_all}
use Rattle.c_graph.proofs.Keeping.{edge-fits}
use Rattle.block_rule.specs.Deeds.{Deed, Tests, Sets, SetsAt, Draws, did, did_on, did_all, IsDeed, AreDeeds, Code, Stops, Refused, Ends, Does, Branches, ran}
use Rattle.block_rule.specs.Plans.{IsError}
use Rattle.block_laws.proofs.Reading.{none_stays, some_or_none}
use Rattle.block_laws.proofs.Blocks.{Along}
use Rattle.block_laws.proofs.Edges.{whole-after}
use Rattle.block_edges.specs.Exact.{OneOf}
use Rattle.block_back_laws.proofs.Coming.{ran-none}

did-none : (table : Table) (ds : List Deed) → did_all table ds None ≡ None
did-none table [] = refl
did-none table (d ∷ ds) = did-none table ds

did-more : (table : Table) (xs ys : List Deed) (r : Option Moment) → did_all table (xs ++ ys) r ≡ did_all table ys (did_all table xs r)
did-more table [] ys r = refl
did-more table (d ∷ xs) ys r = did-more table xs ys (did_on table d r)

one-does : (table : Table) (op : Operation) (d : Deed) (m : Moment) → IsDeed table op d → IsWhole table.cells m.store → did table d m ≡ operated table op m
one-does table (Assume t) (Tests p) m is whole = ap (λ (b : Bool). if b then Some m else None) (sym (is m.store whole))
one-does table (Set c t) (Sets d f) m is whole =
    ap (λ (x : ℕ). Some (moment (slice_set m.store d x) m.inputs)) (sym (is.1 m.store whole))
    ∙ ap (λ (x : ℕ). Some (moment (slice_set m.store x (value table m.store t)) m.inputs)) (sym is.0)
one-does table (SetAt c k i t) (SetsAt d j h f) m is whole =
    ap (λ (x : ℕ). Some (moment (stored_at m.store d j (h m.store) x) m.inputs)) (sym (is.3 m.store whole))
    ∙ ap (λ (x : ℕ). Some (moment (stored_at m.store d j x (value table m.store t)) m.inputs)) (sym (is.2 m.store whole))
    ∙ ap (λ (x : ℕ). Some (moment (stored_at m.store d x (value table m.store i) (value table m.store t)) m.inputs)) (sym is.1)
    ∙ ap (λ (x : ℕ). Some (moment (stored_at m.store x k (value table m.store i) (value table m.store t)) m.inputs)) (sym is.0)
one-does table (Draw c signed) (Draws d s) m is whole =
    ap (λ (x : ℕ). drawn table x s m.store m.inputs) (sym is.0) ∙ ap (λ (x : Bool). drawn table c x m.store m.inputs) (sym is.1)
one-does table _ _ m is whole = absurd is

only-first : (table : Table) (op : Operation) (ops : List Operation) → All (OperationFits table) (op ∷ ops) → All (OperationFits table) (op ∷ [])
only-first table op ops f zero d lt = f zero d (omega arith)
only-first table op ops f (suc k) d lt = absurd (omega (arith, lt))

-- deeds do what their operations do
pub deeds-do : (table : Table) (v : NodeId) (ops : List Operation) (ds : List Deed) (m : Moment) → IsTable table → All (OperationFits table) ops → AreDeeds table ops ds
    → IsWhole table.cells m.store → did_all table ds (Some m) ≡ operated_all table ops (Some m)
deeds-do table v [] [] m is fits are whole = refl
deeds-do table v (op ∷ ops) (d ∷ ds) m is fits are whole = elim (some_or_none (operated table op m)) [
  | inl e ↦
      ap (did_all table ds) (one-does table op d m are.0 whole ∙ e) ∙ did-none table ds ∙ sym (none_stays table ops)
      ∙ ap (operated_all table ops) (sym e)
  | inr e ↦
      let next : IsWhole table.cells e.0.store =
      whole-after table (record { from = v; to = v; ops = op ∷ [] }) m e.0 is (only-first table op ops fits) whole (ap (operated_all table []) e.1) in
      ap (did_all table ds) (one-does table op d m are.0 whole ∙ e.1)
      ∙ deeds-do table v ops ds e.0 is (λ k x lt. fits (suc k) x (omega (arith, lt))) are.1 next
      ∙ ap (operated_all table ops) (sym e.1)
]
deeds-do table v _ _ m is fits are whole = absurd are

plain-error : (h : Flow) (v : ℕ) → slice_get h.nodes v ≡ Some Plain → IsError h v → ⊥
plain-error h v plain (kind, (at, e)) = absurd (let z : Some Plain ≡ Some (Error kind at) = sym plain ∙ e in cc)

-- the first path is the end of the second
abbrev pub IsTail : List EdgeId → List EdgeId → Type 0
IsTail path all = (front : List EdgeId) × (all ≡ front ++ path)

module _ (h : Flow) (flow : IsFlow h) (w : ℕ) (a : Moment) (error : IsError h w) where
  -- the code ends from a moment, and the run goes on from there along the end of a path
  abbrev pub Passes : Code → Option Moment → List EdgeId → Type 0
  Passes c r all =
      (to : ℕ) × ((end : Moment) × (ran h.terms c r ≡ Some (to, end)) × IsWhole h.terms.cells end.store
      × ((path : List EdgeId) × IsTail path all × Along h path to end w a))

  -- a run along an edge of a node, in a whole store, and then along others
  abbrev pub Takes : Edge → List EdgeId → Moment → Type 0
  Takes e path m =
      (mid : Moment) × ((k : ℕ) × (slice_get h.edges k ≡ Some e)) × IsWhole h.terms.cells m.store × (operated_all h.terms e.ops (Some m) ≡ Some mid) × Along h path e.to.0 mid w a

  -- a code by whose edges the graph runs as the code does
  abbrev Follows : Code → Type 0
  Follows c =
      (ds : List Deed) (e : Edge) (path : List EdgeId) (m : Moment) → OneOf h ds c e → Takes e path m → Passes c (did_all h.terms ds (Some m)) path

  done : (ds : List Deed) (e : Edge) (path : List EdgeId) (m : Moment) → AreDeeds h.terms e.ops ds → (t : Takes e path m)
      → (did_all h.terms ds (Some m) ≡ Some t.0) × IsWhole h.terms.cells t.0.store
  done ds e path m are (mid, (k, there), whole, go, run) =
      let fits = edge-fits h k e flow there in
      (deeds-do h.terms e.from e.ops ds m flow.table fits.operations are whole ∙ go, whole-after h.terms e m mid flow.table fits.operations whole go)

  -- a branch, by the side that the run takes
  sides : (p : List ℕ → Bool) (c d : Code) → Follows c → Follows d → (e : Edge) (path : List EdgeId) (m : Moment)
      → OneOf h (Tests p ∷ []) c e ⊎ OneOf h (Tests (λ s. not (p s)) ∷ []) d e → Takes e path m → Passes (Branches p c d) (Some m) path
  sides p c d one other e path m (inl is) takes =
      let (to, (end, go, last, rest)) = one (Tests p ∷ []) e path m is takes in
      let go2 : ran h.terms c (if p m.store then Some m else None) ≡ Some (to, end) = go in
      elim (cases_Bool (p m.store)) [
        | inl y ↦
            let go3 : ran h.terms c (Some m) ≡ Some (to, end) = rw y at go2 in
            let all : ran h.terms (Branches p c d) (Some m) ≡ Some (to, end) = rw y go3 in
            (to, (end, all, last, rest))
        | inr y ↦
            let go3 : ran h.terms c None ≡ Some (to, end) = rw y at go2 in
            absurd (let z : None ≡ Some (to, end) = sym (ran-none h.terms c) ∙ go3 in cc)
      ]
  sides p c d one other e path m (inr is) takes =
      let (to, (end, go, last, rest)) = other (Tests (λ s. not (p s)) ∷ []) e path m is takes in
      let go2 : ran h.terms d (if not (p m.store) then Some m else None) ≡ Some (to, end) = go in
      elim (cases_Bool (p m.store)) [
        | inr y ↦
            let go3 : ran h.terms d (Some m) ≡ Some (to, end) = rw y at go2 in
            let all : ran h.terms (Branches p c d) (Some m) ≡ Some (to, end) = rw y go3 in
            (to, (end, all, last, rest))
        | inl y ↦
            let go3 : ran h.terms d None ≡ Some (to, end) = rw y at go2 in
            absurd (let z : None ≡ Some (to, end) = sym (ran-none h.terms d) ∙ go3 in cc)
      ]

  branches : (p : List ℕ → Bool) (c d : Code) → Follows c → Follows d → Follows (Branches p c d)
  branches p c d one other ds e path m (inl (none, is)) takes =
      subst (λ (xs : List Deed). Passes (Branches p c d) (did_all h.terms xs (Some m)) path) (sym none) (sides p c d one other e path m is takes)
  branches p c d one other ds e [] m (inr (plain, are, only)) (mid, there, whole, go, (same, last)) =
      absurd (plain-error h e.to.0 plain (subst (λ (x : ℕ). IsError h x) (sym same) error))
  branches p c d one other ds e (k ∷ path) m (inr (plain, are, only)) takes =
      let (mid, there, whole, go, (f, is, from, (mid2, go2, run))) = takes in
      let (did, next) = done ds e (k ∷ path) m are takes in
      let (to, (end, went, last, (path2, (front, parts), run2))) = sides p c d one other f path mid (only k.0 f is from) (mid2, (k.0, is), next, go2, run) in
      (to, (end, ap (ran h.terms (Branches p c d)) did ∙ went, last, (path2, (k ∷ front, ap (λ (xs : List EdgeId). k ∷ xs) parts), run2)))

  pub follows-code : (c : Code) → Follows c
  follows-code Stops ds e path m is takes = absurd is
  follows-code Refused ds e path m is takes = absurd is
  follows-code (Ends to) ds e path m (goal, are) takes =
      let (mid, there, whole, go, run) = takes in
      let (did, next) = done ds e path m are takes in
      (to, (mid, ap (ran h.terms (Ends to)) did, next, (path, ([], refl), subst (λ (x : ℕ). Along h path x mid w a) goal run)))
  follows-code (Does d c) ds e path m is takes =
      let (to, (end, go, last, rest)) = follows-code c (ds ++ d ∷ []) e path m is takes in
      (to, (end, ap (ran h.terms c) (sym (did-more h.terms ds (d ∷ []) (Some m))) ∙ go, last, rest))
  follows-code (Branches p c d) ds e path m is takes = branches p c d (follows-code c) (follows-code d) ds e path m is takes
