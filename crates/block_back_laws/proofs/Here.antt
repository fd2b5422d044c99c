-- The ways out of a place at which the run is: it goes on by what the tests are worth in the store.
use Rattle.std.proofs.Common.{◌≡◌, ℕ, ℤ, ◌+◌, ◌≤◌, ◌==◌, ◌⊎◌, inl, inr, Bool, true, false, ◌&&◌, ◌||◌, List, [], ◌∷◌, ◌++◌, Option, Some, None, refl, sym, ap, ◌∙◌, subst, suc, length, length-append, arith, slice_set, if◌then◌else◌, eq-eqb}
use Rattle.std.proofs.lemmas.Bool.{cases_Bool, eqb-true}
use Rattle.bv_term.specs.Numbers.{truth}
use Rattle.bv_term.specs.declared.term.TermId.{TermId}
use Rattle.bv_term.specs.WellFormed.{Table}
use Rattle.bv_term.specs.Values.{value}
use Rattle.c_graph.specs.declared.graph.EdgeId.{EdgeId}
use Rattle.c_graph.specs.declared.graph.Cell.{Cell}
use Rattle.c_graph.specs.declared.graph.Operation.{Operation}
use Rattle.c_graph.specs.declared.graph.Operation.TheVariants.{Assume}
use Rattle.c_graph.specs.Shape.{Flow, IsFlow, widths_of}
use Rattle.c_graph.specs.Steps.{IsWhole, Moment, moment, operated_all}
use Rattle.c_graph.proofs.Keeping.{edge-fits}
use Rattle.block_rule.specs.Deeds.{Sets, Code}
use Rattle.block_rule.specs.Plans.{Way, Ways, Goes, Tested, Checked, Fails, Forks, Plan, matters, Exclude, AreMoves, IsError, AreRegular}
use Rattle.block_rule.specs.Rule.{State, is_on, is_none, is_sure, under, some_draw, moved, certain, clear, with_bad, with_saved, checked, leads, goes, outwards}
use Rattle.block_rule.specs.Blocked.{Agree, read_before_all, Flows, IsPlan}
use Rattle.block_laws.proofs.Lists.{false-true, or_failed}
use Rattle.block_laws.proofs.Keeping.{Ready, Below, ready-above, ready-saved, new-below}
use Rattle.block_laws.proofs.Reading.{AllSetBelow, follows_all}
use Rattle.block_laws.proofs.Moving.{Widths}
use Rattle.block_laws.proofs.Leading.{ready-same, ready-free, ready-clear}
use Rattle.block_laws.proofs.Going.{moves-below, tested, agree-below, under-on}
use Rattle.block_laws.proofs.Blocks.{Along, both-true}
use Rattle.block_laws.proofs.Edges.{along-append, whole-after}
use Rattle.block_edges.specs.Exact.{Leaves, Either, AreLed}
use Rattle.block_back_laws.proofs.Coming.{Comes, comes-does, comes-flush, comes-certain, comes-check, comes-leads, comes-on}
use Rattle.block_back_laws.proofs.Away.{Stays, Failing, goes-away, check-away}

none-some : (x : ℕ) → None ≡ Some x → ⊥
none-some x e = absurd cc

same-some : (x y : ℕ) → Some x ≡ Some y → x ≡ y
same-some x y e = cc

and-second : (a b : Bool) → (a && b) ≡ true → b ≡ true
and-second true b e = e
and-second false b e = absurd (false-true e)

and-both : (a b : Bool) → (a && b) ≡ true → (a ≡ true) × (b ≡ true)
and-both true b e = (refl, e)
and-both false b e = absurd (false-true e)

pub widths-long : (xs : List Cell) → length (widths_of xs) ≡ length xs
widths-long [] = refl
widths-long (x ∷ xs) = ap suc (widths-long xs)

-- an operation behind a test that holds
passes-one : (table : Table) (t : TermId) (ops : List Operation) (m : Moment) → value table m.store t ≡ 1 → operated_all table (Assume t ∷ ops) (Some m) ≡ operated_all table ops (Some m)
passes-one table t ops m e = ap (λ (b : Bool). operated_all table ops (if b then Some m else None)) (eq-eqb (value table m.store t) 1 e)

under-value : (table : Table) (gd : Option ℕ) (t : TermId) (s : List ℕ) → under table gd t s ≡ true → value table s t ≡ 1
under-value table gd t s e = eqb-true (value table s t) 1 (and-second (is_on gd s) (value table s t == 1) e)

module _ (g : Flow) (wide : Table) (plan : Plan) (many : ℕ) (widths : Widths (length g.cells) g.terms wide) (flow : IsFlow g) (is : IsPlan g plan) (le : length g.cells ≤ many)
    (v0 : ℕ) (m0 : Moment) (most : ℕ) where
  abbrev n : ℕ
  n = length g.cells

  -- a run of the graph from where it began, which may go on along so many edges
  abbrev pub Runs : ℕ → ℕ → Moment → Type 0
  Runs left to m = (path : List EdgeId) × Along g path v0 m0 to m × (length path + left ≤ most)

  pub fewer : (left to : ℕ) (m : Moment) → Runs (suc left) to m → Runs left to m
  fewer left to m run = (run.0, run.1, omega (arith, run.2))

  over : (left to : ℕ) (m : Moment) → Runs left to m → Runs 0 to m
  over left to m run = (run.0, run.1, omega (arith, run.2))

  -- a run of the graph to an error, or to a cut point where the stores agree
  abbrev pub Reached : ℕ → Moment → Type 0
  Reached to end =
      (m : Moment) × Runs 0 to m × (m.inputs ≡ end.inputs)
      × (IsError g to ⊎ ((plan.cuts to ≡ true) × (matters plan to ≡ true) × Agree n (plan.live to) m.store end.store × IsWhole g.terms.cells m.store))

  abbrev pub Waits : ℕ → State → List ℕ → List ℤ → Type 0
  Waits left st s ins =
      (r : ℕ) × ((m : Moment) × Runs left r m × (m.inputs ≡ ins) × Ready n many st None true None (λ x. x == r) s × Agree n (plan.live r) m.store s
      × IsWhole g.terms.cells m.store × (matters plan r ≡ true))

  abbrev pub FailedAt : ℕ → List ℤ → Type 0
  FailedAt e ins = (m : Moment) × Runs 0 e m × (m.inputs ≡ ins) × IsError g e

  abbrev pub Failed : State → List ℕ → List ℤ → Type 0
  Failed st s ins = (e : ℕ) × ((at : ℕ → Bool) × FailedAt e ins × Ready n many st None true (Some e) at s)

  abbrev pub Lost : State → List ℕ → Type 0
  Lost st s = Ready n many st None true None (λ x. false) s × (st.lost ≡ true)

  -- where the run of the graph stands: it waits at a place, a check failed, or it was lost
  abbrev pub Stands : ℕ → State → List ℕ → List ℤ → Type 0
  Stands left st s ins = Waits left st s ins ⊎ (Failed st s ins ⊎ Lost st s)

  abbrev pub C : Code → Moment → Type 0
  C = Comes wide many Reached

  abbrev pub Arrives : ℕ → (State → Code) → Type 0
  Arrives left rest = (st : State) (s : List ℕ) (ins : List ℤ) → Stands left st s ins → C (rest st) (moment s ins)

  pub reached-failed : (e : ℕ) (ins : List ℤ) → FailedAt e ins → Failing g.terms wide plan n many Reached widths (Some e) ins
  reached-failed e ins (m, run, same, err) x t q =
      let y : e ≡ x = same-some e x q in
      subst (λ (z : ℕ). Reached z (moment t ins)) y (m, run, same, inl err)

  pub never-fails : (ins : List ℤ) → Failing g.terms wide plan n many Reached widths None ins
  never-fails ins x t q = absurd (none-some x q)

  pub whole-long : (s : List ℕ) → IsWhole g.terms.cells s → length s ≡ n
  whole-long s whole = whole.length ∙ ap length flow.cells ∙ widths-long g.cells

  module _ (left r : ℕ) (m : Moment) (ins : List ℤ) (run : Runs (suc left) r m) (same : m.inputs ≡ ins) (whole : IsWhole g.terms.cells m.store) (reached : plan.reached r ≡ true) where
    error-matters : (ops : List Operation) (to : ℕ) → Leaves g r ops to → IsError g to → matters plan to ≡ true
    error-matters ops to (j, (e, there, from, way)) err =
        both-true (plan.reached to) (plan.alive to) (ap plan.reached (sym way.1) ∙ is.reaches j e there (ap plan.reached from ∙ reached)) (is.errors to err.0 err.1.0 err.1.1)

    -- what an edge to a place that matters needs is alike
    needs : (ops : List Operation) (to : ℕ) (s : List ℕ) → Leaves g r ops to → matters plan to ≡ true → Agree n (plan.live r) m.store s
        → Agree n (read_before_all plan (plan.live to) ops) m.store s
    needs ops to s (j, (e, there, from, way)) alive agree =
        let flows : Flows plan e = is.flows j e there (subst (λ (x : ℕ). matters plan x ≡ true) (sym way.1) alive) in
        let a : Agree n (read_before_all plan (plan.live e.to.0) e.ops) m.store s =
        λ c lt y. agree c lt (ap (λ (x : ℕ). plan.live x c) (sym from) ∙ flows c y) in
        subst (λ (o : List Operation). Agree n (read_before_all plan (plan.live to) o) m.store s) way.0
        (subst (λ (x : ℕ). Agree n (read_before_all plan (plan.live x) e.ops) m.store s) way.1 a)

    value-same : (t : TermId) (ops : List Operation) (to : ℕ) (s : List ℕ) → Leaves g r (Assume t ∷ ops) to → matters plan to ≡ true → Agree n (plan.live r) m.store s
        → value g.terms m.store t ≡ value g.terms s t
    value-same t ops to s leaves alive agree = (tested g.terms plan n is.terms t ops (plan.live to) m.store s (needs (Assume t ∷ ops) to s leaves alive agree)).0

    value-later : (t : TermId) (s u : List ℕ) → Below n s u → value g.terms s t ≡ value g.terms u t
    value-later t s u b = is.terms t s u (λ c lt y. b c lt)

    abbrev Stepped : ℕ → Moment → Type 0
    Stepped to a = (u : List ℕ) × Runs left to (moment u a.inputs) × Agree n (plan.live to) u a.store × IsWhole g.terms.cells u

    -- the run of the graph takes an edge whose operations go on in the other store
    pub step : (ops : List Operation) (to : ℕ) (s : List ℕ) (a : Moment) → Leaves g r ops to → matters plan to ≡ true → AllSetBelow n ops → Agree n (plan.live r) m.store s → n ≤ length s
        → operated_all g.terms ops (Some (moment s ins)) ≡ Some a → Stepped to a
    step ops to s a leaves alive below agree long h =
        let (j, (e, there, from, way)) = leaves in
        let needed = needs ops to s leaves alive agree in
        let wide2 : n ≤ length m.store = omega (arith, whole-long m.store whole) in
        let (u, (go, alike)) = follows_all g.terms plan n is.terms ops (plan.live to) s m.store ins a below ((λ c lt y. sym (needed c lt y)), long, wide2) h in
        let go2 : operated_all g.terms e.ops (Some m) ≡ Some (moment u a.inputs) =
        ap (λ (zs : List ℤ). operated_all g.terms e.ops (Some (moment m.store zs))) same
        ∙ ap (λ (o : List Operation). operated_all g.terms o (Some (moment m.store ins))) way.0 ∙ go in
        let id : EdgeId = record { 0 = j } in
        let more : Along g (id ∷ []) r m to (moment u a.inputs) = (e, there, from, (moment u a.inputs, go2, (way.1, refl))) in
        let fits = edge-fits g j e flow there in (
          u,
          (
            run.0 ++ id ∷ [],
            along-append g run.0 (id ∷ []) v0 m0 r m to (moment u a.inputs) run.1 more,
            omega (arith, run.2, length-append run.0 (id ∷ [])),
          ),
          (λ c lt y. sym (alike.0 c lt y)),
          whole-after g.terms e m (moment u a.inputs) flow.table fits.operations whole go2,
        )

    fails : (t : TermId) (error : ℕ) (s : List ℕ) → Leaves g r (Assume t ∷ []) error → IsError g error → Agree n (plan.live r) m.store s → n ≤ length s
        → value g.terms s t ≡ 1 → FailedAt error ins
    fails t error s leaves err agree long one =
        let alive = error-matters (Assume t ∷ []) error leaves err in
        let (u, go, a, w) = step (Assume t ∷ []) error s (moment s ins) leaves alive (tt, tt) agree long (passes-one g.terms t [] (moment s ins) one) in
        (moment u ins, over left error (moment u ins) go, refl, err)

    module _ (rest : State → Code) (k : Arrives left rest) where
      lost-stays : (s : List ℕ) → Stays g.terms wide plan n many Reached widths None (λ x. false) r rest s ins
      lost-stays s st t ready known a = k st t ins (inr (inr (ready, elim (known refl) [ inl z ↦ absurd (false-true z) | inr l ↦ l ])))

      failed-stays : (e : ℕ) → FailedAt e ins → (s : List ℕ) → Stays g.terms wide plan n many Reached widths (Some e) (λ x. false) r rest s ins
      failed-stays e failed s st t ready known a = k st t ins (inr (inl (e, ((λ x. false), failed, ready))))

      some-known : (e : ℕ) → Some e ≡ None → ⊥
      some-known e z = absurd cc

      -- a run goes on at a place: it waits there, or it is lost
      arrives : (st : State) (gd : Option ℕ) (s : List ℕ) (a : Moment) (sure : Bool) (f : List ℕ → Bool) (ops : List Operation) (to : ℕ) → Ready n many st gd true None (λ x. false) a.store → f a.store ≡ true
          → Leaves g r ops to → AllSetBelow n ops → Agree n (plan.live r) m.store s → n ≤ length s
          → (matters plan to ≡ true → operated_all g.terms ops (Some (moment s ins)) ≡ Some a)
          → C (leads plan st to sure f rest) a
      arrives st gd s a sure f ops to ready on leaves below agree long h =
          comes-leads wide plan n many Reached st gd true None (λ x. false) a.store a.inputs ready to sure f rest (λ y e. on)
          (λ st2 t ready2 b keeps dead. elim (cases_Bool (matters plan to)) [
            | inl alive ↦
                let (u, go, agree2, whole2) = step ops to s a leaves alive below agree long (h alive) in
                let final = ready-same n many st2 gd true None (λ x. false || ((matters plan to && f a.store) && (x == to))) (λ x. x == to) t ready2
                (λ e x. ap (λ (c : Bool). false || ((c && f a.store) && (x == to))) alive ∙ ap (λ (c : Bool). false || (c && (x == to))) on) in
                k st2 t a.inputs
                (inl (to, (moment u a.inputs, go, refl, ready-free n many st2 gd true None (λ x. x == to) t final, agree-below n (plan.live to) u a.store t agree2 b, whole2, alive)))
            | inr gone ↦
                let final = ready-same n many st2 gd true None (λ x. false || ((matters plan to && f a.store) && (x == to))) (λ x. false) t ready2
                (λ e x. ap (λ (c : Bool). false || ((c && f a.store) && (x == to))) gone) in
                k st2 t a.inputs (inr (inr (ready-free n many st2 gd true None (λ x. false) t final, dead gone)))
          ])

      -- a way that the run takes, if where it leads matters
      takes : (st : State) (gd : Option ℕ) (s : List ℕ) (way : Way) (ops : List Operation) → Ready n many st gd true None (λ x. false) s → Agree n (plan.live r) m.store s
          → AreMoves plan n way.moves → Leaves g r ops way.to → AllSetBelow n ops
          → (matters plan way.to ≡ true → operated_all g.terms ops (Some (moment s ins)) ≡ operated_all g.terms way.moves (Some (moment s ins)))
          → C (goes g.terms plan st gd way rest) (moment s ins)
      takes st gd s way ops ready agree moves leaves below pass =
          let long : n ≤ length s = omega (arith, ready.long, le) in
          elim (cases_Bool (some_draw way.moves)) [
            | inl y ↦ elim (cases_Bool (is_none st.waiting)) [
              | inl z ↦
                  let code : Code = moved g.terms plan st.waiting None way.moves (leads plan (clear st) way.to true (λ x. true) rest) in
                  rw (y, z) (
                  comes-flush wide many Reached st.bads (certain st.lost gd code) (moment s ins) ready.first
                  (comes-certain wide many Reached st.lost gd code (moment s ins)
                  (λ on.
                  comes-on g.terms wide plan n many Reached widths st.waiting st.next ready.owner None tt way.moves (leads plan (clear st) way.to true (λ x. true) rest) (moment s ins) moves refl
                  (λ a h above.
                  let next = ready-clear n many st gd true (λ x. false) a.store (ready-above n many st gd true None (λ x. false) s a.store ready above) in
                  arrives (clear st) None s a true (λ x. true) ops way.to next refl leaves below agree long (λ alive. pass alive ∙ h)))
                  (λ off. absurd (false-true (sym off ∙ ready.on refl))))
                  )
              | inr z ↦ rw (y, z) (λ (w : ⊥) to end go. absurd w)
            ]
            | inr y ↦ rw y (
                comes-on g.terms wide plan n many Reached widths st.waiting st.next ready.owner gd ready.guard way.moves (leads plan st way.to (is_sure gd) (is_on gd) rest) (moment s ins) moves (ready.on refl)
                (λ a h above.
                let next = ready-above n many st gd true None (λ x. false) s a.store ready above in
                arrives st gd s a (is_sure gd) (is_on gd) ops way.to next (next.on refl) leaves below agree long (λ alive. pass alive ∙ h))
                )
          ]

      module _ (st : State) (gd : Option ℕ) (s : List ℕ) (ready : Ready n many st gd true None (λ x. false) s) (agree : Agree n (plan.live r) m.store s) where
        long : n ≤ length s
        long = omega (arith, ready.long, le)

        abbrev under-here : TermId → List ℕ → Bool
        under-here = under g.terms gd

        takes-tested : (t : TermId) (way : Way) → AreMoves plan n way.moves → Leaves g r (Assume t ∷ way.moves) way.to → C (outwards g.terms plan st gd (Tested t way) rest) (moment s ins)
        takes-tested t way moves leaves =
            comes-does wide many Reached (Sets st.next (λ x. truth (under-here t x))) (goes g.terms plan (with_saved st) (Some st.next) way rest) (moment s ins)
            (moment (slice_set s st.next (truth (under-here t s))) ins) refl
            (λ w.
            let after : List ℕ = slice_set s st.next (truth (under-here t s)) in
            let next = ready-saved n many st gd true None (λ x. false) s ready (under-here t s) w in
            let b = new-below n many st gd true None (λ x. false) s ready (under-here t s) w in
            elim (cases_Bool (under-here t s)) [
              | inl y ↦
                  let one : value g.terms after t ≡ 1 = sym (value-later t s after b) ∙ under-value g.terms gd t s y in
                  takes (with_saved st) (Some st.next) after way (Assume t ∷ way.moves)
                  (subst (λ (q : Bool). Ready n many (with_saved st) (Some st.next) q None (λ x. false) after) y next)
                  (agree-below n (plan.live r) m.store s after agree b) moves leaves (tt, moves-below plan n way.moves moves)
                  (λ alive. passes-one g.terms t way.moves (moment after ins) one)
              | inr y ↦
                  goes-away g.terms wide plan n many Reached widths None (λ x. false) r ins (never-fails ins) (with_saved st) (Some st.next) (under-here t s) after way rest next moves
                  (λ e. y) (λ e. inr refl) (lost-stays after)
            ])

        -- where the first of two tests does not hold, the second does
        other-holds : (t u : TermId) (ops more : List Operation) (one other : ℕ) → Either g.terms t u → Leaves g r (Assume t ∷ ops) one → matters plan one ≡ true
            → Leaves g r (Assume u ∷ more) other → matters plan other ≡ true → under-here t s ≡ false → value g.terms s u ≡ 1
        other-holds t u ops more one other either first alive second alive2 off = elim (either m.store whole) [
          | inl x ↦
              let y : value g.terms s t ≡ 1 = sym (value-same t ops one s first alive agree) ∙ x in
              absurd (false-true (sym off ∙ under-on g.terms gd t s (ready.on refl) y))
          | inr x ↦ sym (value-same u more other s second alive2 agree) ∙ x
        ]

        takes-checked : (t : TermId) (error : ℕ) (u : TermId) (way : Way) → IsError g error → AreMoves plan n way.moves → Either g.terms t u
            → Leaves g r (Assume t ∷ []) error → Leaves g r (Assume u ∷ way.moves) way.to → C (outwards g.terms plan st gd (Checked t error u way) rest) (moment s ins)
        takes-checked t error u way err moves either first second =
            comes-check wide plan n many Reached st gd true None (λ x. false) s ins ready error (under-here t) (λ st1. goes g.terms plan st1 gd way rest)
            (λ x ready2 b. elim (cases_Bool (under-here t s)) [
              | inl y ↦
                  let failed = fails t error s first err agree long (under-value g.terms gd t s y) in
                  let z : or_failed None (under-here t s) error ≡ Some error = ap (λ (c : Bool). or_failed None c error) y in
                  goes-away g.terms wide plan n many Reached widths (Some error) (λ q. false) r ins (reached-failed error ins failed) (with_bad st error) gd true x way rest
                  (subst (λ (q : Option ℕ). Ready n many (with_bad st error) gd true q (λ z. false) x) z ready2) moves
                  (λ e. absurd (some-known error e)) (λ e. absurd (some-known error e)) (failed-stays error failed x)
              | inr y ↦
                  let z : or_failed None (under-here t s) error ≡ None = ap (λ (c : Bool). or_failed None c error) y in
                  takes (with_bad st error) gd x way (Assume u ∷ way.moves)
                  (subst (λ (q : Option ℕ). Ready n many (with_bad st error) gd true q (λ z. false) x) z ready2)
                  (agree-below n (plan.live r) m.store s x agree b) moves second (tt, moves-below plan n way.moves moves)
                  (λ alive.
                  let one = other-holds t u [] way.moves error way.to either first (error-matters (Assume t ∷ []) error first err) second alive y in
                  passes-one g.terms u way.moves (moment x ins) (sym (value-later u s x b) ∙ one))
            ])

        takes-failing : (t : TermId) (error : ℕ) (u : TermId) (other : ℕ) → IsError g error → IsError g other → Either g.terms t u
            → Leaves g r (Assume t ∷ []) error → Leaves g r (Assume u ∷ []) other → C (outwards g.terms plan st gd (Fails t error u other) rest) (moment s ins)
        takes-failing t error u other err err2 either first second =
            comes-check wide plan n many Reached st gd true None (λ x. false) s ins ready error (under-here t) (λ st1. checked st1 other (under-here u) rest)
            (λ x ready2 b. elim (cases_Bool (under-here t s)) [
              | inl y ↦
                  let failed = fails t error s first err agree long (under-value g.terms gd t s y) in
                  let z : or_failed None (under-here t s) error ≡ Some error = ap (λ (c : Bool). or_failed None c error) y in
                  check-away g.terms wide plan n many Reached widths (Some error) (λ q. false) r ins (reached-failed error ins failed) (with_bad st error) gd true x other (under-here u) rest
                  (subst (λ (q : Option ℕ). Ready n many (with_bad st error) gd true q (λ z. false) x) z ready2) (λ e. absurd (some-known error e))
                  (λ w ready3 c.
                  failed-stays error failed x (with_bad (with_bad st error) other) w (ready-free n many (with_bad (with_bad st error) other) gd true (Some error) (λ q. false) w ready3)
                  (λ e. absurd (some-known error e)) (λ e. absurd (some-known error e)))
              | inr y ↦
                  let z : or_failed None (under-here t s) error ≡ None = ap (λ (c : Bool). or_failed None c error) y in
                  let ready3 = subst (λ (q : Option ℕ). Ready n many (with_bad st error) gd true q (λ z. false) x) z ready2 in
                  let one = other-holds t u [] [] error other either first (error-matters (Assume t ∷ []) error first err) second (error-matters (Assume u ∷ []) other second err2) y in
                  let failed = fails u other s second err2 agree long one in
                  let on : under-here u x ≡ true = under-on g.terms gd u x (ready3.on refl) (sym (value-later u s x b) ∙ one) in
                  comes-check wide plan n many Reached (with_bad st error) gd true None (λ q. false) x ins ready3 other (under-here u) rest
                  (λ w ready4 c.
                  let z2 : or_failed None (under-here u x) other ≡ Some other = ap (λ (q : Bool). or_failed None q other) on in
                  failed-stays other failed x (with_bad (with_bad st error) other) w
                  (ready-free n many (with_bad (with_bad st error) other) gd true (Some other) (λ q. false) w
                  (subst (λ (q : Option ℕ). Ready n many (with_bad (with_bad st error) other) gd true q (λ p. false) w) z2 ready4))
                  (λ e. absurd (some-known other e)) (λ e. absurd (some-known other e)))
            ])

        abbrev Forked : Bool → Bool → ℕ → ℕ → ℕ → Bool
        Forked a b one other x = (false || (a && (x == one))) || (b && (x == other))

        -- one of two ways that do nothing is taken, and the run waits there
        forked : (t : TermId) (to : ℕ) (st2 : State) (w : List ℕ) (at : ℕ → Bool) → Leaves g r (Assume t ∷ []) to → matters plan to ≡ true → value g.terms s t ≡ 1
            → Ready n many st2 gd true None at w → ((x : ℕ) → at x ≡ (x == to)) → Below n s w → C (rest st2) (moment w ins)
        forked t to st2 w at leaves alive one ready2 only b =
            let (u, go, agree2, whole2) = step (Assume t ∷ []) to s (moment s ins) leaves alive (tt, tt) agree long (passes-one g.terms t [] (moment s ins) one) in
            let final = ready-same n many st2 gd true None at (λ x. x == to) w ready2 (λ e x. only x) in
            k st2 w ins
            (inl (to, (moment u ins, go, refl, ready-free n many st2 gd true None (λ x. x == to) w final, agree-below n (plan.live to) u s w agree2 b, whole2, alive)))

        takes-forked : (t : TermId) (one : ℕ) (u : TermId) (other : ℕ) → Exclude g.terms t u → Either g.terms t u
            → Leaves g r (Assume t ∷ []) one → Leaves g r (Assume u ∷ []) other → C (outwards g.terms plan st gd (Forks t one u other) rest) (moment s ins)
        takes-forked t one u other exclude either first second =
            comes-leads wide plan n many Reached st gd true None (λ x. false) s ins ready one false (under-here t) (λ st1. leads plan st1 other false (under-here u) rest)
            (λ sure e. absurd (false-true sure))
            (λ st2 x ready2 b keeps2 dead2.
            comes-leads wide plan n many Reached st2 gd true None (λ z. false || ((matters plan one && under-here t s) && (z == one))) x ins ready2 other false (under-here u) rest
            (λ sure e. absurd (false-true sure))
            (λ st3 w ready3 c keeps3 dead3.
            let below : Below n s w = λ d lt. b d lt ∙ c d lt in
            let at : ℕ → Bool = Forked (matters plan one && under-here t s) (matters plan other && under-here u x) one other in
            elim (cases_Bool (matters plan one && under-here t s)) [
              | inl y ↦
                  let (alive, on) = and-both (matters plan one) (under-here t s) y in
                  let is-one = under-value g.terms gd t s on in
                  let off : (matters plan other && under-here u x) ≡ false = elim (cases_Bool (matters plan other && under-here u x)) [
                    | inl z ↦ absurd (exclude x (sym (value-later t s x b) ∙ is-one) (under-value g.terms gd u x (and-both (matters plan other) (under-here u x) z).1))
                    | inr z ↦ z
                  ] in
                  forked t one st3 w at first alive is-one ready3 (λ z. forked-first y off z) below
              | inr y ↦ elim (cases_Bool (matters plan other && under-here u x)) [
                | inl z ↦
                    let (alive, on) = and-both (matters plan other) (under-here u x) z in
                    let is-one = under-value g.terms gd u x on in
                    forked u other st3 w at second alive (value-later u s x b ∙ is-one) ready3 (λ q. forked-second y z q) below
                | inr z ↦
                    let final = ready-same n many st3 gd true None at (λ q. false) w ready3 (λ e q. forked-none y z q) in
                    let lost : st3.lost ≡ true = elim (cases_Bool (matters plan one)) [
                      | inr gone ↦ keeps3 (dead2 gone)
                      | inl alive ↦ elim (cases_Bool (matters plan other)) [
                        | inr gone ↦ dead3 gone
                        | inl alive2 ↦
                            let off : under-here t s ≡ false = ap (λ (q : Bool). q && under-here t s) (sym alive) ∙ y in
                            let off2 : under-here u x ≡ false = ap (λ (q : Bool). q && under-here u x) (sym alive2) ∙ z in
                            let is-one = other-holds t u [] [] one other either first alive second alive2 off in
                            absurd (false-true (sym off2 ∙ under-on g.terms gd u x (ready2.on refl) (sym (value-later u s x b) ∙ is-one)))
                      ]
                    ] in
                    k st3 w ins (inr (inr (ready-free n many st3 gd true None (λ q. false) w final, lost)))
              ]
            ]))
          where
            forked-first : {a b : Bool} → a ≡ true → b ≡ false → (x : ℕ) → Forked a b one other x ≡ (x == one)
            forked-first {a} {b} y z x = ap (λ (q : Bool). (false || (q && (x == one))) || (b && (x == other))) y ∙ ap (λ (q : Bool). (x == one) || (q && (x == other))) z ∙ or-nothing (x == one)
              where
                or-nothing : (q : Bool) → (q || false) ≡ q
                or-nothing true = refl
                or-nothing false = refl

            forked-second : {a b : Bool} → a ≡ false → b ≡ true → (x : ℕ) → Forked a b one other x ≡ (x == other)
            forked-second {a} {b} y z x = ap (λ (q : Bool). (false || (q && (x == one))) || (b && (x == other))) y ∙ ap (λ (q : Bool). false || (q && (x == other))) z

            forked-none : {a b : Bool} → a ≡ false → b ≡ false → (x : ℕ) → Forked a b one other x ≡ false
            forked-none {a} {b} y z x = ap (λ (q : Bool). (false || (q && (x == one))) || (b && (x == other))) y ∙ ap (λ (q : Bool). false || (q && (x == other))) z

        -- the ways out of a place at which the run is
        pub outwards-here : (ways : Ways) → AreRegular g plan n ways → AreLed g r ways → C (outwards g.terms plan st gd ways rest) (moment s ins)
        outwards-here (Goes way) regular led = takes st gd s way way.moves ready agree regular led (moves-below plan n way.moves regular) (λ alive. refl)
        outwards-here (Tested t way) regular led = takes-tested t way regular led
        outwards-here (Checked t error u way) regular led = takes-checked t error u way regular.1 regular.2 led.2 led.0 led.1
        outwards-here (Fails t error u other) regular led = takes-failing t error u other regular.1 regular.2 led.2 led.0 led.1
        outwards-here (Forks t one u other) regular led = takes-forked t one u other regular led.2 led.0 led.1
