-- A step's clauses are met where its edge leads on, and its edge leads on where they are met.
use Rattle.std.proofs.Common.{◌≡◌, ℕ, ℤ, Bool, true, List, [], ◌∷◌, length, map, refl, sym, ap, ◌∙◌, subst, suc, zero, slice_get, slice_index, Some, None, inl, inr}
use Rattle.prop.specs.declared.Lit.{Lit}
use Rattle.prop.specs.Logic.{all_hold}
use Rattle.bit_gates.specs.Net.{Agree, number}
use Rattle.bit_words.proofs.WordPuts.{map-length}
use Rattle.bv_term.specs.WellFormed.{Table}
use Rattle.bit_blast.specs.Held.{Held, new_of, renew_of}
use Rattle.c_graph.specs.declared.graph.Cell.{Cell}
use Rattle.c_graph.specs.declared.graph.Edge.{Edge}
use Rattle.c_graph.specs.declared.graph.EdgeId.{EdgeId}
use Rattle.c_graph.specs.declared.graph.Operation.{Operation}
use Rattle.c_graph.specs.Shape.{Flow, IsFlow, widths_of}
use Rattle.c_graph.specs.Steps.{Leads, moment, operated_all}
use Rattle.bit_blast.proofs.Over.{over-none}
use Rattle.blast_laws.proofs.Keeping.{means-none, none-fits}
use Rattle.blast_laws.proofs.Stores.{cell-spelled}
use Rattle.path_formula.specs.Needs.{operations_at}
use Rattle.path_formula.specs.Paths.{bundles_of}
use Rattle.path_formula.specs.Questions.{needed_along, plan_of, stepped}
use Rattle.path_query.specs.declared.query.Bundle.{Bundle}
use Rattle.obligation_laws.specs.Draws.{AreDrawn, BundlesBelow}
use Rattle.blast_laws.proofs.Spelling.{number_agrees}
use Rattle.obligation_laws.proofs.Alike.{AgreeOn}
use Rattle.obligation_laws.proofs.Going.{Reach, Stands}
use Rattle.obligation_laws.proofs.Edges.{edge_at, walk}
use Rattle.obligation_laws.proofs.Exact.{kept_runs, whole_runs}
use Rattle.path_laws.specs.Steps.{IsOf, Spells, Step, step_of, steps_from, steps_of}
use Rattle.path_laws.specs.Laws.{EdgesMeetSteps, StepsTakeEdges}
use Rattle.path_laws.proofs.Spelling.{draws_same}
use Rattle.path_laws.proofs.Stepping.{Sound, bundles_below, operations_fit, place, sound_new}

-- cells that are needed are spelled exactly where the store agrees with what they spell

spelled_agrees : (v : ℕ → Bool) (cells : List (List Lit)) (store needed : List ℕ) → Spells v store (bundles_of cells needed) → AgreeOn needed (map (number v) cells) store
spelled_agrees v cells store [] s c h = absurd h
spelled_agrees v cells store (d ∷ ds) s c (inl e) =
    subst (λ (k : ℕ). slice_index (map (number v) cells) k ≡ slice_index store k) (sym e) (sym (cell-spelled v cells d) ∙ s.0)
spelled_agrees v cells store (d ∷ ds) s c (inr h) = spelled_agrees v cells store ds s.1 c h

pub agreed_spells : (v : ℕ → Bool) (cells : List (List Lit)) (t store needed : List ℕ) → map (number v) cells ≡ t → AgreeOn needed t store → Spells v store (bundles_of cells needed)
agreed_spells v cells t store [] e a = tt
agreed_spells v cells t store (d ∷ ds) e a = (
  cell-spelled v cells d ∙ (ap (λ (s : List ℕ). slice_index s d) e ∙ a d (inl refl)),
  agreed_spells v cells t store ds e (λ c h. a c (inr h)),
)

-- what is spelled stays so under each assignment that is changed at later variables alone
still_spells : (n : ℕ) (v w : ℕ → Bool) (store : List ℕ) (bs : List Bundle) → BundlesBelow n bs → Agree n v w → Spells v store bs → Spells w store bs
still_spells n v w store [] low a s = tt
still_spells n v w store (b ∷ bs) low a s = (number_agrees v w n b.bits low.0 a ∙ s.0, still_spells n v w store bs low.1 a s.1)

-- the beginning of a step, under any assignment
begins_step : (table : Table) (h : Held) (v : ℕ → Bool) → Sound table h → Reach table (renew_of h) v (map (number v) h.cells)
begins_step table h v s = record {
  us = [];
  more = table.terms;
  whole = refl;
  keeps = record { widths = s.widths; cells = s.inside; one = tt; lits = λ j. tt; fit = none-fits (record { cells = table.cells; terms = [] }) };
  says = record { store = refl; one = tt; done = means-none v (record { cells = table.cells; terms = [] }) h.cells };
  over = over-none table h.next None h.cells s.widths;
}

pub widths_long : (g : Flow) → IsFlow g → length g.terms.cells ≡ length g.cells
widths_long g flow = ap length flow.cells ∙ many g.cells
  where
    many : (cs : List Cell) → length (widths_of cs) ≡ length cs
    many [] = refl
    many (c ∷ cs) = ap suc (many cs)

spelled_long : (g : Flow) (h : Held) (v : ℕ → Bool) (store : List ℕ) → IsFlow g → Sound g.terms h → length store ≡ length g.cells → length (map (number v) h.cells) ≡ length store
spelled_long g h v store flow s l =
    map-length (number v) h.cells ∙ (sym (map-length length h.cells) ∙ (ap length s.widths ∙ (widths_long g flow ∙ sym l)))

-- the step's clauses hold, under each assignment that is changed at later variables alone
pub record Met (g : Flow) (e : EdgeId) (es : List EdgeId) (h : Held) (v : ℕ → Bool) (draws : List ℤ) (after : List ℕ) : Type 0 where
  pub w : ℕ → Bool
  pub agree : Agree h.next v w
  pub stands : Stands (stepped g (plan_of g e es) h).held.next w (stepped g (plan_of g e es) h).clauses
  pub spells : Spells w after (bundles_of (stepped g (plan_of g e es) h).held.cells (needed_along g es))
  pub drawn : AreDrawn (widths_of g.cells) w (stepped g (plan_of g e es) h).draws draws

pub met : (g : Flow) → IsFlow g → (e : EdgeId) (es : List EdgeId) (h : Held) (edge : Edge) (v : ℕ → Bool) (store : List ℕ) (draws : List ℤ) (after : List ℕ)
    → Sound g.terms h → slice_get g.edges e.0 ≡ Some edge → length store ≡ length g.cells → Spells v store (bundles_of h.cells (needed_along g (e ∷ es)))
    → Leads g.terms edge store draws after → Met g e es h v draws after
met g flow e es h edge v store draws after s at l spells leads =
    let ops = operations_at g.edges e.0 in
    let later = needed_along g es in
    let m = stepped g (plan_of g e es) h in
    let is = (edge_at g.edges e.0 edge at).ops in
    let run : operated_all g.terms ops (Some (moment store draws)) ≡ Some (moment after [])
    = subst (λ (os : List Operation). operated_all g.terms os (Some (moment store draws)) ≡ Some (moment after [])) (sym is) leads in
    let first = map (number v) h.cells in
    let W = walk g.terms later ops after flow.table (operations_fit g e.0 flow) (renew_of h) v first store draws (begins_step g.terms h v s)
    (spelled_long g h v store flow s l) (spelled_agrees v h.cells store (needed_along g (e ∷ es)) spells) run in
    record {
      w = W.goes.w;
      agree = W.goes.agree;
      stands = W.goes.stands;
      spells = agreed_spells W.goes.w m.held.cells W.store after later W.goes.reach.says.store W.agrees;
      drawn = subst (λ (ws : List ℕ). AreDrawn ws W.goes.w m.draws draws) flow.cells W.drawn;
    }

-- the edge leads on
pub record Taken (g : Flow) (e : EdgeId) (es : List EdgeId) (h : Held) (edge : Edge) (v : ℕ → Bool) (store : List ℕ) : Type 0 where
  pub draws : List ℤ
  pub after : List ℕ
  pub leads : Leads g.terms edge store draws after
  pub spells : Spells v after (bundles_of (stepped g (plan_of g e es) h).held.cells (needed_along g es))
  pub drawn : AreDrawn (widths_of g.cells) v (stepped g (plan_of g e es) h).draws draws

pub taken : (g : Flow) → IsFlow g → (e : EdgeId) (es : List EdgeId) (h : Held) (edge : Edge) (v : ℕ → Bool) (store : List ℕ)
    → Sound g.terms h → slice_get g.edges e.0 ≡ Some edge → length store ≡ length g.cells → Spells v store (bundles_of h.cells (needed_along g (e ∷ es)))
    → all_hold v (stepped g (plan_of g e es) h).clauses ≡ true → Taken g e es h edge v store
taken g flow e es h edge v store s at l spells held =
    let ops = operations_at g.edges e.0 in
    let later = needed_along g es in
    let m = stepped g (plan_of g e es) h in
    let is = (edge_at g.edges e.0 edge at).ops in
    let fits = operations_fit g e.0 flow in
    let first = map (number v) h.cells in
    let K = kept_runs g.terms later ops v flow.table fits (renew_of h) first (begins_step g.terms h v s) held in
    let W = whole_runs g.terms later ops K.store flow.table fits first store K.draws (spelled_long g h v store flow s l)
    (spelled_agrees v h.cells store (needed_along g (e ∷ es)) spells) K.run in
    record {
      draws = K.draws;
      after = W.after;
      leads = subst (λ (os : List Operation). operated_all g.terms os (Some (moment store K.draws)) ≡ Some (moment W.after [])) is W.leads;
      spells = agreed_spells v m.held.cells K.store W.after later K.reach.says.store W.agrees;
      drawn = subst (λ (ws : List ℕ). AreDrawn ws v m.draws K.draws) flow.cells K.drawn;
    }

-- the steps of a path

edge_of_step : (g : Flow) (h : Held) (path : List EdgeId) (k : ℕ) (s : Step) → slice_get (steps_from g h path) k ≡ Some s → (e : EdgeId) × (slice_get path k ≡ Some e)
edge_of_step g h [] k s at = absurd cc
edge_of_step g h (e ∷ es) zero s at = (e, refl)
edge_of_step g h (e ∷ es) (suc k) s at = edge_of_step g (stepped g (plan_of g e es) h).held es k s at

step_is : (a b : Step) → Some a ≡ Some b → a ≡ b
step_is a b e = cc

record Stood (g : Flow) (s : Step) : Type 0 where
  held : Held
  e : EdgeId
  es : List EdgeId
  sound : Sound g.terms held
  is : step_of g held e es ≡ s

stood : (g : Flow) (path : List EdgeId) (k : ℕ) (s : Step) → IsFlow g → slice_get (steps_of g path) k ≡ Some s → Stood g s
stood g path k s flow at =
    let h = new_of [] g.terms.cells in
    let (e, there) = edge_of_step g h path k s at in
    let p = place g flow 0 h path k e (sound_new g.terms flow.table) there in
    record { held = p.held; e = e; es = p.es; sound = p.sound; is = step_is (step_of g p.held e p.es) s (sym p.step ∙ at) }

abbrev MetAt : Flow → Step → (ℕ → Bool) → List ℕ → List ℤ → List ℕ → Type 0
MetAt g s v store draws after =
    (w : ℕ → Bool) × Agree s.first v w
    × (AreDrawn (widths_of g.cells) v s.draws draws → (x : ℕ) → IsOf s.draws x → w x ≡ v x)
    × (all_hold w s.clauses ≡ true) × Spells w store s.before × Spells w after s.behind × AreDrawn (widths_of g.cells) w s.draws draws

pub edges_meet_steps : EdgesMeetSteps
edges_meet_steps g path k s edge store draws after v flow at edges l leads spells =
    let p = stood g path k s flow at in
    let mine = step_of g p.held p.e p.es in
    let before : Spells v store mine.before = subst (λ (t : Step). Spells v store t.before) (sym p.is) spells in
    let x = met g flow p.e p.es p.held edge v store draws after p.sound (ap (λ (t : Step). slice_get g.edges t.edge.0) p.is ∙ edges) l before leads in
    let here : MetAt g mine v store draws after = (
      x.w,
      x.agree,
      (λ d y i. draws_same (widths_of g.cells) v x.w mine.draws draws y d x.drawn i),
      x.stands x.w (λ j lt. refl),
      still_spells p.held.next v x.w store mine.before (bundles_below g.terms p.held (needed_along g (p.e ∷ p.es)) p.sound) x.agree before,
      x.spells,
      x.drawn,
    ) in
    subst (λ (t : Step). MetAt g t v store draws after) p.is here

abbrev TakenAt : Flow → Step → Edge → (ℕ → Bool) → List ℕ → Type 0
TakenAt g s edge v store =
    (draws : List ℤ) × (after : List ℕ) × Leads g.terms edge store draws after × Spells v after s.behind × AreDrawn (widths_of g.cells) v s.draws draws

pub steps_take_edges : StepsTakeEdges
steps_take_edges g path k s edge store v flow at edges l spells held =
    let p = stood g path k s flow at in
    let mine = step_of g p.held p.e p.es in
    let x = taken g flow p.e p.es p.held edge v store p.sound
    (ap (λ (t : Step). slice_get g.edges t.edge.0) p.is ∙ edges) l (subst (λ (t : Step). Spells v store t.before) (sym p.is) spells)
    (subst (λ (t : Step). all_hold v t.clauses ≡ true) (sym p.is) held) in
    let here : TakenAt g mine edge v store = (x.draws, x.after, x.leads, x.spells, x.drawn) in
    subst (λ (t : Step). TakenAt g t edge v store) p.is here
