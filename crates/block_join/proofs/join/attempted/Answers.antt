use Rattle.std.proofs.Common.{◌≡◌, ◌∙◌, ℕ, List, Vec, ap}
use Rattle.std.specs.Global.{Global}
use Rattle.c_graph.specs.Shape.{Flow}
use Rattle.bv_term.specs.WellFormed.{Table}
use Rattle.c_graph.specs.declared.graph.NodeId.{NodeId}
use Rattle.plan_tables.specs.Tables.{LiveRows, UnitTable}
use Rattle.plan_tables.specs.Made.{reads_new, units_new}
use Rattle.block_plan.specs.Plans.{Plan}
use Rattle.block_plan.specs.Made.{blocks_of, live_units}
use Rattle.block_emission.specs.Blocking.{blocked, members_of, places_of}
use Rattle.block_join.specs.Made.{attempted, scheme_over}
use Rattle.block_join.proofs.Joining.{known-is, scheme-by, test-is}
use Rattle.block_join.proofs.join.attempted.Goals as goal

pub returns-clause-test : goal.returns-clause-test
returns-clause-test c =
    let g : Flow = c.args.graph.now in
    let plan : c.in_ok-blocks.blocks ≡ blocks_of g = c.in_ok-blocks.ensures.made in
    let units : c.in_ok-units.units ≡ units_new g.cells = c.in_ok-units.ensures.made ∙ ap units_new c.cells.ensures.value in
    let reads : c.in_ok-reads.reads ≡ reads_new g.terms (units_new g.cells) =
    c.in_ok-reads.ensures.made ∙ ap (λ (t : Table). reads_new t c.in_ok-units.units) c.terms.ensures.value ∙ ap (reads_new g.terms) units in
    let live : c.in_ok-live.live ≡ live_units g (blocks_of g) (units_new g.cells) (reads_new g.terms (units_new g.cells)) 4194304 =
    c.in_ok-live.ensures.made
    ∙ ap (λ (p : Plan). live_units g p c.in_ok-units.units c.in_ok-reads.reads 4194304) plan
    ∙ ap (λ (u : UnitTable). live_units g (blocks_of g) u c.in_ok-reads.reads 4194304) units
    ∙ ap (λ (r : List (List ℕ)). live_units g (blocks_of g) (units_new g.cells) r 4194304) reads in
    let reached : c.blocks-2.inside.reached ≡ (blocks_of g).reached = ap (λ (p : Plan). p.reached) (c.blocks-2.view_is ∙ plan) in
    let alive : c.blocks-2.inside.alive ≡ (blocks_of g).alive = ap (λ (p : Plan). p.alive) (c.blocks-2.view_is ∙ plan) in
    let cuts : c.blocks-2.inside.cuts ≡ (blocks_of g).cuts = ap (λ (p : Plan). p.cuts) (c.blocks-2.view_is ∙ plan) in
    let places : places_of c.in_ok-members.members.items ≡ members_of g (blocks_of g) = c.in_ok-members.ensures.made ∙ ap (members_of g) plan in
    let made : c.in_ok-blocked.blocked ≡ attempted g 4194304 =
    c.in_ok-blocked.ensures.made
    ∙ ap (λ (p : Plan). blocked (scheme-by g p c.in_ok-units.units c.in_ok-live.live) (places_of c.deref.result.now)) plan
    ∙ ap (λ (u : UnitTable). blocked (scheme-by g (blocks_of g) u c.in_ok-live.live) (places_of c.deref.result.now)) units
    ∙ ap (λ (l : LiveRows). blocked (scheme-by g (blocks_of g) (units_new g.cells) l) (places_of c.deref.result.now)) live
    ∙ ap (λ (ms : List (Vec NodeId Global)). blocked (scheme_over g (blocks_of g) 4194304) (places_of ms)) c.deref.ensures.value
    ∙ ap (blocked (scheme_over g (blocks_of g) 4194304)) places in
    test-is g c.in_ok-blocked.blocked _ c.in_ok-members.members.items made
    (known-is g c.blocks-2.inside.reached c.blocks-2.inside.alive c.blocks-2.inside.cuts c.in_ok-units.units c.in_ok-live.live c.in_ok-reads.reads reached alive cuts units live reads)
    places
