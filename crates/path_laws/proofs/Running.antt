-- Runs along a path, and assignments of its question.
use Rattle.std.proofs.Common.{◌≡◌, ℕ, ℤ, ◌+◌, Bool, true, false, ◌&&◌, List, [], ◌∷◌, ◌++◌, length, refl, sym, ap, ◌∙◌, subst, slice_get, Some}
use Rattle.prop.specs.Logic.{all_hold}
use Rattle.bit_gates.specs.Net.{Agree}
use Rattle.bit_gates.proofs.Nets.{all_hold-append}
use Rattle.bv_term.specs.Values.{IsStore}
use Rattle.bit_blast.specs.Held.{Held, new_of}
use Rattle.c_graph.specs.declared.graph.Edge.{Edge}
use Rattle.c_graph.specs.declared.graph.EdgeId.{EdgeId}
use Rattle.c_graph.specs.declared.graph.NodeId.{NodeId}
use Rattle.c_graph.specs.Shape.{Flow, IsFlow, widths_of}
use Rattle.c_graph.specs.Steps.{IsWhole, Leads}
use Rattle.c_graph.specs.Runs.{RunsAlong}
use Rattle.c_graph.proofs.Keeping.{edge-fits, leads-whole}
use Rattle.blast_laws.specs.Calls.{IsStart, spelled_store}
use Rattle.blast_laws.specs.Laws.{IsExact}
use Rattle.blast_laws.proofs.Owes.{Below}
use Rattle.blast_laws.proofs.Runs.{calls_exact, new_starts, stores_spelled}
use Rattle.path_formula.specs.Paths.{bundles_of}
use Rattle.path_formula.specs.Questions.{asked, needed_along, plan_of, stepped}
use Rattle.obligation_laws.specs.Draws.{AreDrawn}
use Rattle.blast_laws.proofs.Spelling.{store_agrees}
use Rattle.obligation_laws.proofs.Drawing.{drawn_agrees, drawn_both}
use Rattle.obligation_laws.proofs.Going.{agree_on}
use Rattle.obligation_laws.proofs.Running.{both}
use Rattle.path_laws.specs.Steps.{Spells}
use Rattle.path_laws.specs.Laws.{Joins, QuestionsMakeRuns, RunsMeetQuestions}
use Rattle.path_laws.proofs.Stepping.{Sound, sound_amid, sound_new, step_sound}
use Rattle.path_laws.proofs.Meeting.{agreed_spells, met, taken, widths_long}

-- an edge leads from whole stores to whole stores
whole_next : (g : Flow) (e : EdgeId) (edge : Edge) (store : List ℕ) (draws : List ℤ) (after : List ℕ) → IsFlow g → slice_get g.edges e.0 ≡ Some edge
    → IsWhole (widths_of g.cells) store → Leads g.terms edge store draws after → IsWhole (widths_of g.cells) after
whole_next g e edge store draws after flow at whole leads =
    subst (λ (ws : List ℕ). IsWhole ws after) flow.cells
    (leads-whole g.terms edge store draws after flow.table (edge-fits g e.0 edge flow at).operations (subst (λ (ws : List ℕ). IsWhole ws store) (sym flow.cells) whole) leads)

whole_long : (g : Flow) (store : List ℕ) → IsFlow g → IsWhole (widths_of g.cells) store → length store ≡ length g.cells
whole_long g store flow whole = whole.length ∙ (sym (ap length flow.cells) ∙ widths_long g flow)

-- a run gives an assignment that is changed at later variables alone
record Ran (g : Flow) (n : ℕ) (h : Held) (path : List EdgeId) (v : ℕ → Bool) (draws : List ℤ) : Type 0 where
  w : ℕ → Bool
  agree : Agree h.next v w
  holds : all_hold w (asked g n h path).clauses ≡ true
  drawn : AreDrawn (widths_of g.cells) w (asked g n h path).draws draws

ran : (g : Flow) → IsFlow g → (n : ℕ) (h : Held) (path : List EdgeId) (v : ℕ → Bool) (from to : NodeId) (store : List ℕ) (draws : List ℤ) (after : List ℕ)
    → Sound g.terms h → IsWhole (widths_of g.cells) store → Spells v store (bundles_of h.cells (needed_along g path)) → RunsAlong g path from store draws to after
    → Ran g n h path v draws
ran g flow n h [] v from to store draws after s whole spells run =
    record { w = v; agree = λ k lt. refl; holds = refl; drawn = subst (AreDrawn (widths_of g.cells) v []) (sym run.2) tt }
ran g flow n h (e ∷ es) v from to store draws after s whole spells (edge, is, here, (mid, first, rest, split, leads, run)) =
    let m = stepped g (plan_of g e es) h in
    let i = n + length m.clauses in
    let r = asked g i m.held es in
    let ws = widths_of g.cells in
    let a = step_sound g flow e es h s in
    let x = met g flow e es h edge v store first mid s is (whole_long g store flow whole) spells leads in
    let y = ran g flow i m.held es x.w edge.to to mid rest after (sound_amid Below g.terms m.held a.amid) (whole_next g e edge store first mid flow is whole leads) x.spells run in
    record {
      w = y.w;
      agree = agree_on h.next m.held.next v x.w y.w x.agree a.rises y.agree;
      holds = all_hold-append y.w m.clauses r.clauses ∙ (ap (λ (b : Bool). b && all_hold y.w r.clauses) (x.stands y.w y.agree) ∙ y.holds);
      drawn = subst (AreDrawn ws y.w (m.draws ++ r.draws)) (sym split)
          (drawn_both ws y.w m.draws r.draws first rest (drawn_agrees ws m.held.next x.w y.w m.draws first a.draws y.agree x.drawn) y.drawn);
    }

pub runs_meet_questions : RunsMeetQuestions
runs_meet_questions g path from to store draws after flow whole run =
    let cells = g.terms.cells in
    let h = new_of [] cells in
    let start : IsStart cells h = new_starts [] cells flow.table.cells in
    let needed = needed_along g path in
    let fits : IsStore cells store = subst (λ (ws : List ℕ). IsStore ws store) (sym flow.cells) whole.fits in
    let (v, is, low, high) = stores_spelled [] cells store fits (whole.length ∙ sym (ap length flow.cells)) (λ k. false) in
    let x = ran g flow 0 h path v from to store draws after (sound_new g.terms flow.table) whole (agreed_spells v h.cells store store needed is (λ c i. refl)) run in
    let same : spelled_store x.w h.cells ≡ store = store_agrees v x.w h.next h.cells start.below x.agree ∙ is in
    (x.w, x.holds, agreed_spells x.w h.cells store store needed same (λ c i. refl), x.drawn)

-- an assignment gives a run
record Made (g : Flow) (n : ℕ) (h : Held) (path : List EdgeId) (v : ℕ → Bool) (from to : NodeId) (store : List ℕ) : Type 0 where
  draws : List ℤ
  after : List ℕ
  run : RunsAlong g path from store draws to after
  drawn : AreDrawn (widths_of g.cells) v (asked g n h path).draws draws

made : (g : Flow) → IsFlow g → (n : ℕ) (h : Held) (path : List EdgeId) (v : ℕ → Bool) (from to : NodeId) (store : List ℕ)
    → Sound g.terms h → Joins g path from to → IsWhole (widths_of g.cells) store → Spells v store (bundles_of h.cells (needed_along g path))
    → all_hold v (asked g n h path).clauses ≡ true → Made g n h path v from to store
made g flow n h [] v from to store s joins whole spells held = record { draws = []; after = store; run = (joins, refl, refl); drawn = tt }
made g flow n h (e ∷ es) v from to store s (edge, is, here, joins) whole spells held =
    let m = stepped g (plan_of g e es) h in
    let i = n + length m.clauses in
    let r = asked g i m.held es in
    let ws = widths_of g.cells in
    let a = step_sound g flow e es h s in
    let p = both v m.clauses r.clauses held in
    let x = taken g flow e es h edge v store s is (whole_long g store flow whole) spells p.0 in
    let y = made g flow i m.held es v edge.to to x.after (sound_amid Below g.terms m.held a.amid) joins (whole_next g e edge store x.draws x.after flow is whole x.leads) x.spells p.1 in
    record {
      draws = x.draws ++ y.draws;
      after = y.after;
      run = (edge, is, here, (x.after, x.draws, y.draws, refl {a = x.draws ++ y.draws}, x.leads, y.run));
      drawn = drawn_both ws v m.draws r.draws x.draws y.draws x.drawn y.drawn;
    }

pub questions_make_runs : QuestionsMakeRuns
questions_make_runs g path from to v flow joins held =
    let cells = g.terms.cells in
    let h = new_of [] cells in
    let start : IsStart cells h = new_starts [] cells flow.table.cells in
    let exact : IsExact cells h [] = calls_exact cells h [] start tt in
    let needed = needed_along g path in
    let store = spelled_store v h.cells in
    let fits = exact.reads v in
    let whole : IsWhole (widths_of g.cells) store = record {
      length = fits.1 ∙ ap length flow.cells;
      fits = subst (λ (ws : List ℕ). IsStore ws store) flow.cells fits.0;
    } in (
      (store, whole, agreed_spells v h.cells store store needed refl (λ c i. refl)),
      λ store whole spells.
          let x = made g flow 0 h path v from to store (sound_new g.terms flow.table) joins whole spells held in
          (x.draws, x.after, x.run, x.drawn),
    )
