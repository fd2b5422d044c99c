-- A run through a block, to an error or to the cut point at which the block ends.
use Rattle.std.proofs.Common.{◌≡◌, ℕ, ◌<◌, ◌≤◌, ◌==◌, ◌⊎◌, inl, inr, Bool, true, false, not, ◌&&◌, List, [], ◌∷◌, Some, None, refl, sym, ap, ◌∙◌, subst, length, arith, slice_get, eq-eqb}
use Rattle.std.proofs.lemmas.Bool.{cases_eq, eqb-true, ne_eqb}
use Rattle.bv_term.specs.WellFormed.{Table}
use Rattle.c_graph.specs.declared.graph.EdgeId.{EdgeId}
use Rattle.c_graph.specs.declared.graph.Node.TheVariants.{Plain, Error}
use Rattle.c_graph.specs.declared.graph.Edge.{Edge}
use Rattle.c_graph.specs.Shape.{Flow, IsFlow}
use Rattle.c_graph.specs.Steps.{Moment, moment, operated_all}
use Rattle.c_graph.proofs.Keeping.{edge-fits}
use Rattle.block_rule.specs.Plans.{Place, Plan, matters, IsError, IsPlace, ArePlaces}
use Rattle.block_rule.specs.Rule.{State, is_on, exits, placed, all_placed, start, block_code}
use Rattle.block_rule.specs.Blocked.{Agree, read_before_all, Flows, IsPlan, NoneCuts}
use Rattle.block_laws.proofs.Lists.{Each, each-map, false-true}
use Rattle.block_laws.proofs.Keeping.{Ready, WaitIn}
use Rattle.block_laws.proofs.Moving.{Lands, Widths}
use Rattle.block_laws.proofs.Leading.{lands-flush, lands-failed}
use Rattle.block_laws.proofs.Going.{Failing}
use Rattle.block_laws.proofs.Placing.{placed-away, placed-here, lands-exits}

-- a run along edges, with the values that are still to be drawn
abbrev pub Along : Flow → List EdgeId → ℕ → Moment → ℕ → Moment → Type 0
Along g [] v m w a = (v ≡ w) × (m ≡ a)
Along g (k ∷ path) v m w a =
    (e : Edge) × (slice_get g.edges k.0 ≡ Some e) × (e.from.0 ≡ v)
    × ((mid : Moment) × (operated_all g.terms e.ops (Some m) ≡ Some mid) × Along g path e.to.0 mid w a)

-- nothing leads from an error
pub error-ends : (g : Flow) (path : List EdgeId) (v : ℕ) (m : Moment) (w : ℕ) (a : Moment) → IsFlow g → IsError g v → Along g path v m w a → (v ≡ w) × (m ≡ a)
error-ends g [] v m w a flow is run = run
error-ends g (k ∷ path) v m w a flow is (e, there, from, rest) =
    let plain : slice_get g.nodes v ≡ Some Plain = ap (slice_get g.nodes) (sym from) ∙ (edge-fits g k.0 e flow there).from in
    absurd (let z : Some Plain ≡ Some (Error is.0 is.1.0) = sym plain ∙ is.1.1 in cc)

pub plain-error : (g : Flow) (v : ℕ) → slice_get g.nodes v ≡ Some Plain → IsError g v → ⊥
plain-error g v plain is = absurd (let z : Some Plain ≡ Some (Error is.0 is.1.0) = sym plain ∙ is.1.1 in cc)

-- a place from which an error is reached is alive
pub alive-along : (g : Flow) (plan : Plan) (path : List EdgeId) (v : ℕ) (m : Moment) (w : ℕ) (a : Moment) → IsPlan g plan → plan.alive w ≡ true → Along g path v m w a → plan.alive v ≡ true
alive-along g plan [] v m w a is alive run = ap plan.alive run.0 ∙ alive
alive-along g plan (k ∷ path) v m w a is alive (e, there, from, (mid, go, run)) =
    ap plan.alive (sym from) ∙ is.lives k.0 e there (alive-along g plan path e.to.0 mid w a is alive run)

pub both-true : (a b : Bool) → a ≡ true → b ≡ true → (a && b) ≡ true
both-true true b e f = f
both-true false b e f = absurd (false-true e)

and-off : (b : Bool) → (b && not b) ≡ false
and-off true = refl
and-off false = refl

-- where a run from the end of a block goes on, along fewer edges than so many
abbrev pub Later : Flow → Plan → ℕ → ℕ → Moment → ℕ → ℕ → Moment → Type 0
Later g plan n w a most to end =
    (path : List EdgeId) × ((m : Moment) × (length path < most) × Along g path to m w a × (plan.cuts to ≡ true) × (plan.reached to ≡ true)
    × Agree n (plan.live to) m.store end.store × (n ≤ length m.store) × (m.inputs ≡ end.inputs))

-- the block ends at the run's error, or at a cut point from which the run goes on
abbrev pub Out : Flow → Plan → ℕ → ℕ → Moment → ℕ → ℕ → Moment → Type 0
Out g plan n w a most to end = (IsError g w × (to ≡ w) × (end.inputs ≡ a.inputs)) ⊎ Later g plan n w a most to end

module _ (g : Flow) (wide : Table) (plan : Plan) (many : ℕ) (widths : Widths (length g.cells) g.terms wide) (flow : IsFlow g) (is : IsPlan g plan) (le : length g.cells ≤ many)
    (w : ℕ) (a : Moment) (alive-end : plan.alive w ≡ true) (stop : IsError g w ⊎ (plan.cuts w ≡ true)) (most : ℕ) where
  abbrev n : ℕ
  n = length g.cells

  abbrev P : ℕ → Moment → Type 0
  P = Out g plan n w a most

  -- behind an edge that leads to an error
  over : (path : List EdgeId) (to : ℕ) (m : Moment) → Along g path to m w a → IsError g to → (t : List ℕ) → P to (moment t m.inputs)
  over path to m run err t =
      let (same, last) = error-ends g path to m w a flow err run in
      inl (subst (λ (x : ℕ). IsError g x) same err, same, ap (λ (x : Moment). x.inputs) last)

  failing : (path : List EdgeId) (to : ℕ) (m : Moment) → Along g path to m w a → IsError g to → Failing g.terms wide plan n many P widths (Some to) m.inputs
  failing path to m run err e t q =
      let same : to ≡ e = cc in
      subst (λ (x : ℕ). P x (moment t m.inputs)) same (over path to m run err t)

  -- the rest of a block after a check failed
  all-failed : (places : List Place) → ArePlaces g plan n places → (path : List EdgeId) (to : ℕ) (m : Moment) → Along g path to m w a → IsError g to
      → (st : State) (at : ℕ → Bool) (s : List ℕ) → Ready n many st None true (Some to) at s → Lands wide many P (all_placed g.terms plan places st) (moment s m.inputs)
  all-failed [] are path to m run err st at s ready =
      lands-failed wide many P st.bads (exits plan st.lost st.waiting) (moment s m.inputs) to ready.first (over path to m run err s)
  all-failed (p ∷ ps) are path to m run err st at s ready =
      placed-away g wide plan n many P widths (Some to) at 0 (λ e. absurd (let z : Some to ≡ None = e in cc)) m.inputs (failing path to m run err)
      st s p (all_placed g.terms plan ps) ready are.0 (λ e. absurd (let z : Some to ≡ None = e in cc))
      (λ st2 t ready2 q. all-failed ps are.1 path to m run err st2 at t ready2)

  -- what the rest of a block does from where the run waits
  abbrev Onward : List Place → ℕ → Type 0
  Onward places limit =
      (st : State) (s : List ℕ) (r : ℕ) (path : List EdgeId) (m : Moment) → Ready n many st None true None (λ x. x == r) s → Agree n (plan.live r) m.store s
      → n ≤ length m.store → Along g path r m w a → length path < limit → plan.reached r ≡ true → Lands wide many P (all_placed g.terms plan places st) (moment s m.inputs)

  -- the run takes an edge from a place
  steps : (p : Place) (ps : List Place) → IsPlace g plan n p → ArePlaces g plan n ps → Onward ps most
      → (st : State) (s : List ℕ) (r : ℕ) (k : EdgeId) (path : List EdgeId) (m : Moment) → r ≡ p.node → Ready n many st None true None (λ x. x == r) s
      → Agree n (plan.live r) m.store s → n ≤ length m.store → Along g (k ∷ path) r m w a → length path < most → plan.reached r ≡ true
      → Lands wide many P (placed g.terms plan st p (all_placed g.terms plan ps)) (moment s m.inputs)
  steps p ps place are onward st s r k path m here ready agree long (e, there, from, (mid, go, run)) less reached =
      let reached2 : plan.reached e.to.0 ≡ true = is.reaches k.0 e there (ap plan.reached from ∙ reached) in
      let alive2 : plan.alive e.to.0 ≡ true = alive-along g plan path e.to.0 mid w a is alive-end run in
      let alive : matters plan e.to.0 ≡ true = both-true (plan.reached e.to.0) (plan.alive e.to.0) reached2 alive2 in
      let flows : Flows plan e = is.flows k.0 e there alive in
      let agree2 : Agree n (read_before_all plan (plan.live e.to.0) e.ops) m.store s =
      λ c lt y. agree c lt (ap (λ (x : ℕ). plan.live x c) (sym from) ∙ flows c y) in
      placed-here g wide plan n many P widths is.terms (all_placed g.terms plan ps) m.inputs e.to.0 mid le
      (λ st2 t ready2 agree3 long2. onward st2 t e.to.0 path mid ready2 agree3 long2 run less reached2)
      (λ err st2 at t ready2. all-failed ps are path e.to.0 mid run err st2 at t ready2)
      (λ err t. over path e.to.0 mid run err t)
      alive st s m.store (λ x. x == r) p e ready place (eq-eqb p.node r (sym here))
      (λ x. ap (λ (q : ℕ). (x == r) && not (x == q)) (sym here) ∙ and-off (x == r))
      long refl (place.covers k.0 e there (from ∙ here)) go agree2

  waiting-on : (st : State) (s : List ℕ) (at : ℕ → Bool) (ready : Ready n many st None true None at s) → Each (λ x. is_on x.guard s ≡ at x.node) st.waiting
  waiting-on st s at ready =
      each-map (WaitIn n st.next ready.guards ready.owner None at s) (λ x. is_on x.guard s ≡ at x.node) st.waiting (λ x h. h.on refl) ready.waits

  -- the run does not end at a place that is no cut point
  passes-on : (p : Place) → IsPlace g plan n p → plan.cuts p.node ≡ false → w ≡ p.node → ⊥
  passes-on p place off same = elim stop [
    | inl error ↦ plain-error g p.node place.plain (subst (λ (x : ℕ). IsError g x) same error)
    | inr cut ↦ false-true (sym off ∙ ap plan.cuts (sym same) ∙ cut)
  ]

  onwards : (places : List Place) → ArePlaces g plan n places → NoneCuts plan places → Onward places most
  onwards [] are inside st s r path m ready agree long run less reached =
      lands-flush wide many P st.bads (exits plan st.lost st.waiting) (moment s m.inputs) ready.first
      (lands-exits wide plan many P st.lost st.waiting (moment s m.inputs) r (waiting-on st s (λ x. x == r) ready) (ready.held refl r (eq-eqb r r refl))
      (λ cut. inr (path, (m, less, run, cut, reached, agree, long, refl))))
  onwards (p ∷ ps) are inside st s r [] m ready agree long run less reached = elim (cases_eq r p.node) [
    | inl here ↦ absurd (passes-on p are.0 inside.0 (sym run.0 ∙ here))
    | inr away ↦
        placed-away g wide plan n many P widths None (λ x. x == r) r (λ e. eq-eqb r r refl) m.inputs (λ e t q. absurd (let z : None ≡ Some e = q in cc))
        st s p (all_placed g.terms plan ps) ready are.0 (λ e. ne_eqb p.node r (λ q. away (sym q)))
        (λ st2 t ready2 q. onwards ps are.1 inside.1 st2 t r [] m ready2 (λ c lt y. agree c lt y ∙ q refl c lt y) long run less reached)
  ]
  onwards (p ∷ ps) are inside st s r (k ∷ path) m ready agree long run less reached = elim (cases_eq r p.node) [
    | inl here ↦ steps p ps are.0 are.1 (onwards ps are.1 inside.1) st s r k path m here ready agree long run (omega (arith, less)) reached
    | inr away ↦
        placed-away g wide plan n many P widths None (λ x. x == r) r (λ e. eq-eqb r r refl) m.inputs (λ e t q. absurd (let z : None ≡ Some e = q in cc))
        st s p (all_placed g.terms plan ps) ready are.0 (λ e. ne_eqb p.node r (λ q. away (sym q)))
        (λ st2 t ready2 q. onwards ps are.1 inside.1 st2 t r (k ∷ path) m ready2 (λ c lt y. agree c lt y ∙ q refl c lt y) long run less reached)
  ]

  -- before the first place of a block
  starts : (v : ℕ) (s : List ℕ) → length s ≡ many → Ready n many (start v n) None true None (λ x. x == v) s
  starts v s long = record {
    guards = λ x. None;
    owner = λ c. None;
    waits = (record { mine = refl; cell = tt; on = λ e. sym (eq-eqb v v refl) }, tt);
    bads = tt;
    first = refl;
    held = λ e x y f.
        let z : (v == x) ≡ true = eq-eqb v x (sym (eqb-true x v y)) in
        absurd (let q : Some None ≡ None = rw z at f in cc);
    guard = tt;
    on = λ e. refl;
    long = long;
    base = omega arith;
  }

  pub block-lands : (p : Place) (ps : List Place) → ArePlaces g plan n (p ∷ ps) → NoneCuts plan ps → (s : List ℕ) (k : EdgeId) (path : List EdgeId) (m : Moment) → length s ≡ many
      → Agree n (plan.live p.node) m.store s → n ≤ length m.store → Along g (k ∷ path) p.node m w a → length path < most → plan.reached p.node ≡ true
      → Lands wide many P (block_code g.terms plan p ps n) (moment s m.inputs)
  block-lands p ps are inside s k path m long agree wide2 run less reached =
      steps p ps are.0 are.1 (onwards ps are.1 inside) (start p.node n) s p.node k path m refl (starts p.node s long) agree wide2 run less reached
