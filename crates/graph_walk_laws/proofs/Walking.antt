-- Walks and runs are the same.
use Rattle.std.proofs.Common.{◌≡◌, ℕ, ℤ, List, [], ◌∷◌, ◌++◌, Option, Some, None, refl, sym, ap, ◌∙◌, subst, zero, suc, length, arith, slice_get, append_assoc, ◌⊎◌, inl, inr}
use Rattle.c_graph.specs.declared.graph.NodeId.{NodeId}
use Rattle.c_graph.specs.declared.graph.Edge.{Edge}
use Rattle.c_graph.specs.Shape.{Flow, outs}
use Rattle.c_graph.specs.Steps.{Moment, moment, operated_all, Leads}
use Rattle.c_graph.specs.Runs.{RunsAlong}
use Rattle.graph_walk_laws.specs.Walks.{Place, arrived, along, first_along, walk, RunsAreWalks, WalksAreRuns}
use Rattle.graph_walk_laws.proofs.Consuming.{more_left, taken}
use Rattle.graph_walk_laws.proofs.Choosing.{is_out, out_is, chosen, taken_leads}

pub runs_are_walks : RunsAreWalks
runs_are_walks g [] v store draws rest w after is d r =
    let F : Place → Option Place = λ p. Some p in
    let a : moment store (draws ++ rest) ≡ moment after rest = ap (λ (s : List ℕ). moment s (draws ++ rest)) r.1 ∙ ap (λ (z : List ℤ). moment after (z ++ rest)) r.2 in
    ap (λ (n : NodeId). F (n, moment store (draws ++ rest))) r.0 ∙ ap (λ (m : Moment). F (w, m)) a
runs_are_walks g (e ∷ path) v store draws rest w after is d r =
    let (edge, at, from, tail) = r in
    let (mid, first, later, parts, leads, go) = tail in
    let more : operated_all g.terms edge.ops (Some (moment store (first ++ (later ++ rest)))) ≡ Some (moment mid (later ++ rest)) = more_left g.terms edge.ops (moment store first) (moment mid []) (later ++ rest) leads in
    let inputs : draws ++ rest ≡ first ++ (later ++ rest) = ap (λ (z : List ℤ). z ++ rest) parts ∙ append_assoc first later rest in
    let step : along g (slice_get g.edges e.0) (moment store (draws ++ rest)) ≡ Some (edge.to, moment mid (later ++ rest)) =
    subst (λ (z : List ℤ). along g (slice_get g.edges e.0) (moment store z) ≡ Some (edge.to, moment mid (later ++ rest))) (sym inputs) (rw at (ap (arrived edge.to) more)) in
    let take = chosen g (outs g v) e (moment store (draws ++ rest)) (edge.to, moment mid (later ++ rest)) is (d v) (is_out 0 g.edges v e.0 edge e (omega arith) at from) step in
    ap (walk g (length path)) take ∙ runs_are_walks g path edge.to mid later rest w after is d go

none_walks : (g : Flow) (n : ℕ) → walk g n None ≡ None
none_walks g zero = refl
none_walks g (suc n) = refl

place_or_none : (o : Option Place) → (o ≡ None) ⊎ ((p : Place) × (o ≡ Some p))
place_or_none None = inl refl
place_or_none (Some p) = inr (p, refl)

moment_or_none : (o : Option Moment) → (o ≡ None) ⊎ ((m : Moment) × (o ≡ Some m))
moment_or_none None = inl refl
moment_or_none (Some m) = inr (m, refl)

-- what an edge does that leads on
led : (g : Flow) (edge : Edge) (store : List ℕ) (inputs : List ℤ) (p : Place) → arrived edge.to (operated_all g.terms edge.ops (Some (moment store inputs))) ≡ Some p
    → (first : List ℤ) × (edge.to ≡ p.0) × (inputs ≡ first ++ p.1.inputs) × Leads g.terms edge store first p.1.store
led g edge store inputs p h = elim (moment_or_none (operated_all g.terms edge.ops (Some (moment store inputs)))) [
  | inl n ↦ absurd (let q : None ≡ Some p = rw n at h in cc)
  | inr s ↦
      let q : Some (edge.to, s.0) ≡ Some p = rw s.1 at h in
      let same : (edge.to, s.0) ≡ p = some_same (edge.to, s.0) p q in
      let (first, i, l) = taken g.terms edge.ops (moment store inputs) s.0 s.1 in
      (first, ap (λ (w : Place). w.0) same, i ∙ ap (λ (w : Place). first ++ w.1.inputs) same, l ∙ ap (λ (w : Place). Some (moment w.1.store [])) same)
]
  where
    some_same : (a b : Place) → Some a ≡ Some b → a ≡ b
    some_same a b q = cc

pub walks_are_runs : WalksAreRuns
walks_are_runs g zero v store inputs w after rest h =
    let same : (v, moment store inputs) ≡ (w, moment after rest) = some_same (v, moment store inputs) (w, moment after rest) h in
    ([], ([], refl, ap (λ (p : Place). p.1.inputs) same, (ap (λ (p : Place). p.0) same, ap (λ (p : Place). p.1.store) same, refl)))
  where
    some_same : (a b : Place) → Some a ≡ Some b → a ≡ b
    some_same a b q = cc
walks_are_runs g (suc n) v store inputs w after rest h = elim (place_or_none (first_along g (outs g v) (moment store inputs))) [
  | inl e ↦ absurd (let q : None ≡ Some (w, moment after rest) = sym (none_walks g n) ∙ sym (ap (walk g n) e) ∙ h in cc)
  | inr s ↦
      let p : Place = s.0 in
      let (e, l, a) = taken_leads g (outs g v) (moment store inputs) s.0 s.1 in
      let (k, edge, i, at, from) = out_is 0 g.edges v e l in
      let here : slice_get g.edges e.0 ≡ Some edge = subst (λ (m : ℕ). slice_get g.edges m ≡ Some edge) (let z : k ≡ e.0 = omega (arith, i) in z) at in
      let a2 : arrived edge.to (operated_all g.terms edge.ops (Some (moment store inputs))) ≡ Some s.0 = rw here at a in
      let (first, to, parts, leads) = led g edge store inputs s.0 a2 in
      let h2 : walk g n (Some s.0) ≡ Some (w, moment after rest) = sym (ap (walk g n) s.1) ∙ h in
      let (path, found) = walks_are_runs g n s.0.0 s.0.1.store s.0.1.inputs w after rest h2 in
      let (draws, len, ins, go) = found in
      let F : ℕ → NodeId = λ m. record { 0 = m } in (
        e ∷ path,
        (
          first ++ draws,
          ap suc len,
          parts ∙ ap (λ (z : List ℤ). first ++ z) ins ∙ sym (append_assoc first draws rest),
          (edge, here, ap F from, (s.0.1.store, first, draws, refl, leads, subst (λ (x : NodeId). RunsAlong g path x s.0.1.store draws w after) (sym to) go)),
        ),
      )
]
