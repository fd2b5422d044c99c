use Rattle.std.proofs.Common.{◌≡◌, ◌<◌, ◌∙◌, ◌++◌, ◌+◌, ◌≤◌, ℕ, true, [], ap, sym, subst, length, List, rules, arith}
use Rattle.std.proofs.lemmas.Grind.{common_steps, get_or_default_zero}
use Rattle.c_graph.specs.Shape.{outs}
use Rattle.reach_tree.specs.declared.vertex.Vertex.{Vertex}
use Rattle.reach_tree.specs.Trees.{vertex_at}
use Rattle.cover_engine.specs.declared.unit.UnitDone.TheVariants.{Expand}
use Rattle.cover_engine.specs.Unwindings.{Unwound}
use Rattle.bv_term.specs.WellFormed.{Table}
use Rattle.cover_engine.specs.Openings.{AreWaiting, waits}
use Rattle.cover_engine.proofs.Kept.{kept_expanded}
use Rattle.cover_engine.proofs.Waits.{waiting_expanded}
use Rattle.cover_engine.proofs.UnitLemmas.{legal-after, open-childless, vertex-read}
use Rattle.cover_engine.proofs.unwinding.Unwinding.expanded.Goals as goal

pub invariant_of-self-in-Ok : goal.invariant_of-self-in-Ok
invariant_of-self-in-Ok c =
    let lv : c.args.v.0 < length c.self.inside.tree.vertices = subst (λ (u : Unwound). c.args.v.0 < length u.vertices) (sym c.self.view_is) c.requires.vertex in
    let none : (vertex_at c.self.inside.tree.vertices c.args.v.0).children ≡ [] =
    subst (λ (u : Unwound). (vertex_at u.vertices c.args.v.0).children ≡ []) (sym c.self.view_is) (open-childless c.args.graph.now c.args.self.now c.args.v c.requires.leaf) in
    let out : c.in_ok-edges.edges.items ≡ outs c.args.graph.now (vertex_at c.self.inside.tree.vertices c.args.v.0).node =
    c.in_ok-edges.ensures ∙ ap (λ (x : Vertex). outs c.args.graph.now x.node) (vertex-read c.vertices.result.now c.self.inside.tree.vertices c.index-vertices-v.result c.args.v.0 c.vertices.ensures.value lv) in
    let sized : length c.self.inside.covers.items ≡ length c.self.inside.tree.vertices = c.self.invariant.0.counts_are.sized in
    let first : length c.vertices-first.result.now ≡ length c.self.inside.tree.vertices = ap (λ (xs : List Vertex). length xs) c.vertices-first.ensures.value in
    let there : (j : ℕ) → length c.self.inside.tree.vertices ≤ j → j < length c.self.inside.tree.vertices + c.len-born.result → waits c.wait_from.new.waiting j ≡ true =
    λ j le lt. c.in_ok-wait_from.ensures.there j (omega (arith, le, first)) (omega (arith, lt, first)) in
    let waiting : AreWaiting c.self.inside.tree.vertices c.expand_both.new.tree.terms c.self.inside.covers.items c.self.inside.ends.items c.self.inside.waiting =
    subst (λ (table : Table). AreWaiting c.self.inside.tree.vertices table c.self.inside.covers.items c.self.inside.ends.items c.self.inside.waiting) (sym c.expand_both.ensures.terms) c.self.invariant.1 in (
      kept_expanded c.args.graph.now c.self.inside.tree.vertices c.expand_both.new.tree.vertices c.self.inside.pairs c.self.inside.journal.items c.expand_both.new.journal.items c.self.inside.apart.items
          c.self.inside.covers.items c.append.new.self.items c.self.inside.refines c.index-above.result.now c.len-born.result c.self.inside.settled c.args.v
          c.self.invariant.0 lv none (omega arith) c.in-Ok.ensures.vertices c.in-Ok.ensures.journal
          (c.in_ok-append.ensures.items ∙ ap (λ xs. c.self.inside.covers.items ++ xs) c.in_ok-covers.ensures)
          (let l = ap length out in omega arith)
          (c.index-above.ensures ∙ get_or_default_zero c.self.inside.covers.items c.args.v.0 c.index-above.result.now (omega (arith, lv, c.self.invariant.0.counts_are.sized))),
      waiting_expanded c.args.graph.now c.self.inside.tree.vertices c.expand_both.new.tree.vertices c.expand_both.new.tree.terms c.args.v c.self.inside.covers.items c.append.new.self.items c.self.inside.ends.items
          c.self.inside.waiting c.wait_from.new.waiting c.index-above.result.now c.len-born.result c.in-Ok.ensures.vertices lv none sized
          (c.in_ok-append.ensures.items ∙ ap (λ xs. c.self.inside.covers.items ++ xs) c.in_ok-covers.ensures) (let l = ap length out in omega arith) waiting c.wait_from.ensures.kept there,
    )

pub returns-in-Ok-clause-legal : goal.returns-in-Ok-clause-legal
returns-in-Ok-clause-legal c =
    λ h. legal-after c.args.graph.now c.args.self.now _ (Expand c.args.v) h c.requires (first_of (search rules, grind (arith, common_steps)))
