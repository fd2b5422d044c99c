-- Each formula with its edge implies the next.
use Rattle.std.proofs.Common.{◌≡◌, ℕ, ◌<◌, Bool, true, false, List, [], ◌∷◌, length, All, Some, slice_get, zero, suc, refl, sym, ap, ◌∙◌, subst, arith}
use Rattle.std.proofs.lemmas.Option.{get_or_from_slice_get, slice_get_within}
use Rattle.prop.specs.Logic.{all_hold}
use Rattle.bv_term.specs.declared.term.TermId.{TermId}
use Rattle.bv_term.specs.WellFormed.{Table}
use Rattle.bv_term.specs.Values.{Holds, IsStore}
use Rattle.bit_blast.specs.Held.{Held, new_of}
use Rattle.blast_laws.proofs.Runs.{stores_spelled}
use Rattle.c_graph.specs.declared.graph.EdgeId.{EdgeId}
use Rattle.c_graph.specs.Shape.{Flow, IsFlow, widths_of}
use Rattle.c_graph.specs.Steps.{IsWhole}
use Rattle.path_query.specs.declared.query.Bundle.{Bundle}
use Rattle.path_query.specs.declared.query.PathQuery.{PathQuery}
use Rattle.path_query.specs.Facts.{IsBundle, IsQuery}
use Rattle.path_formula.specs.Paths.{bundles_of}
use Rattle.path_formula.specs.Questions.{needed_along, question_of}
use Rattle.resolution_log.specs.declared.Chain.{Chain}
use Rattle.interpolants.specs.CutMeanings.{AreCutFormulas, edge_of}
use Rattle.interpolants.specs.Laws.{Between, IsCutAt}
use Rattle.interpolants.specs.Meanings.{Agree, read}
use Rattle.interpolants.specs.Placings.{bits_of}
use Rattle.interpolants.proofs.Along.{agreed_are_given, formulas_lead}
use Rattle.path_laws.specs.Steps.{HasStep, Spells, Step}
use Rattle.path_laws.proofs.Meeting.{agreed_spells, edges_meet_steps, widths_long}
use Rattle.path_laws.proofs.Sharing.{steps_lie_between}
use Rattle.path_laws.proofs.Stepping.{questions_are_steps}
use Rattle.chain_laws.specs.Laws.{FormulasAreLinked}
use Rattle.chain_laws.proofs.Occurring.{shared-at}
use Rattle.chain_laws.proofs.Reading.{at-all, gives-spelled, spelled-gives}

-- an assignment spells the store at the cut
abbrev Spelled : List ℕ → List Bundle → Type 0
Spelled store cut = (v : ℕ → Bool) × Spells v store cut

-- before the first step every store can be spelled
first-spelled : (g : Flow) (path : List EdgeId) (store : List ℕ) (cut : List Bundle) → IsFlow g → IsWhole (widths_of g.cells) store
    → slice_get (question_of g path).cuts 0 ≡ Some cut → Spelled store cut
first-spelled g path store cut flow whole at =
    let cells = g.terms.cells in
    let h : Held = new_of [] cells in
    let fits : IsStore cells store = subst (λ (ws : List ℕ). IsStore ws store) (sym flow.cells) whole.fits in
    let (v, is, low, high) = stores_spelled [] cells store fits (whole.length ∙ sym (ap length flow.cells)) (λ k. false) in
    let needed = needed_along g path in
    let e : bundles_of h.cells needed ≡ cut = cc in
    (v, subst (Spells v store) e (agreed_spells v h.cells store store needed is (λ c i. refl)))

-- behind a step, a store in which the formula holds
later-spelled : (g : Flow) (path : List EdgeId) (table : Table) (log : List Chain) (fs : List TermId) (k : ℕ) (f : TermId) (store : List ℕ)
    (cut : List Bundle) → IsFlow g → IsQuery (widths_of g.cells) (length path) (question_of g path)
    → AreCutFormulas table (question_of g path) log fs → 0 < k → k < length path → slice_get fs k ≡ Some f
    → IsWhole (widths_of g.cells) store → slice_get (question_of g path).cuts k ≡ Some cut → Holds table store f → Spelled store cut
later-spelled g path table log fs k f store cut flow query made pos lt one whole at holds =
    let q : PathQuery = question_of g path in
    let cells : List ℕ = widths_of g.cells in
    let meant = made k f pos (omega (arith, lt, query.starts)) one cut at (shared-at g path k cut flow at) store in
    let agree : Agree (bits_of cut) store = (meant.0 holds).0 in
    let v : ℕ → Bool = read (bits_of cut) store in (
      v,
      gives-spelled cells v store cut whole.fits (at-all (All (IsBundle cells)) q.cuts k cut query.bundles at)
          (agreed_are_given (bits_of cut) store agree),
    )

spelled-at-cut : (g : Flow) (path : List EdgeId) (table : Table) (log : List Chain) (fs : List TermId) (k : ℕ) (f : TermId) (store : List ℕ)
    (cut : List Bundle) → IsFlow g → IsQuery (widths_of g.cells) (length path) (question_of g path)
    → AreCutFormulas table (question_of g path) log fs → k < length path → slice_get fs k ≡ Some f
    → IsWhole (widths_of g.cells) store → slice_get (question_of g path).cuts k ≡ Some cut → Holds table store f → Spelled store cut
spelled-at-cut g path table log fs zero f store cut flow query made lt one whole at holds = first-spelled g path store cut flow whole at
spelled-at-cut g path table log fs (suc k) f store cut flow query made lt one whole at holds =
    later-spelled g path table log fs (suc k) f store cut flow query made (omega arith) lt one whole at holds

-- where a step begins
begins-at : (g : Flow) (path : List EdgeId) (k : ℕ) (e : EdgeId) (start : ℕ) → slice_get path k ≡ Some e
    → slice_get (question_of g path).starts k ≡ Some start → edge_of (question_of g path) k ≡ start
begins-at g [] zero e start at there = absurd cc
begins-at g (d ∷ path) zero e start at there = cc
begins-at g path (suc k) e start at there =
    get_or_from_slice_get (question_of g path).starts (suc k) start (length (question_of g path).clauses) there

step-between : (g : Flow) (path : List EdgeId) (k : ℕ) (e : EdgeId) (s : Step) (v : ℕ → Bool) → slice_get path k ≡ Some e
    → HasStep (question_of g path) k s → all_hold v s.clauses ≡ true
    → Between (question_of g path).clauses v (edge_of (question_of g path) k) (edge_of (question_of g path) (suc k))
step-between g path k e s v at has holds n c le lt there =
    let start : ℕ = length has.earlier in
    let b : edge_of (question_of g path) k ≡ start = begins-at g path k e start at has.start in
    steps_lie_between (question_of g path) k s v start n c has holds has.start (omega (arith, b, le)) lt there

pub formulas_are_linked : FormulasAreLinked
formulas_are_linked g path table log fs k e f h flow query refuted made at one next edge store draws after there whole holds leads =
    let q : PathQuery = question_of g path in
    let (s, is, same, has) = questions_are_steps g path k e flow at in
    let (v, spells) = spelled-at-cut g path table log fs k f store s.before flow query made (slice_get_within path k e at) one whole has.before holds in
    let is-edge : slice_get g.edges s.edge.0 ≡ Some edge = subst (λ (x : EdgeId). slice_get g.edges x.0 ≡ Some edge) (sym same) there in
    let long : length store ≡ length g.cells = whole.length ∙ (sym (ap length flow.cells) ∙ widths_long g flow) in
    let (w, agree, drawn, met, near, far, draws-are) = edges_meet_steps g path k s edge store draws after v flow is is-edge long leads spells in
    let front : IsCutAt q fs k s.before f = record { cells = has.before; formula = one; shared = shared-at g path k s.before flow has.before } in
    let back : IsCutAt q fs (suc k) s.behind h = record { cells = has.behind; formula = next; shared = shared-at g path (suc k) s.behind flow has.behind } in
    formulas_lead table (widths_of g.cells) (length path) k q log fs s.before s.behind f h w store after query refuted made front back
    (step-between g path k e s w at has met) (spelled-gives w store s.before near) (spelled-gives w after s.behind far) holds
