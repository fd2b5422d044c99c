use Rattle.std.proofs.Common.{rules, ◌≡◌, ◌++◌, ◌∙◌, ap, arith, get_or, length, slice_get, Some, suc, sym, ◌-◌, ◌+◌}
use Rattle.c_graph.specs.declared.graph.Edge.{Edge}
use Rattle.edge_chains.specs.Links.{IsNext, flag_at}
use Rattle.edge_chains.specs.Made as made
use Rattle.edge_chains.proofs.Following.{ends, same_there, there, turns, weaken_some}
use Rattle.edge_chains.proofs.Telling.{follow-step}
use Rattle.edge_chains.proofs.chains.followed.Goals as goal

pub returns-in_default-clause-extends : goal.returns-in_default-clause-extends
returns-in_default-clause-extends c =
    weaken_some c.ended.result _ _
    (λ f h. ends (flag_at c.args.inner.now) c.args.edges.now c.args.edge.now f c.loop-turn.ops.items c.loop-turn.to c.loop-turn.invariant.0 h.0 h.1)
    c.ended.ensures.ends

pub loop-turn-preserved : goal.loop-turn-preserved
loop-turn-preserved c =
    let es = c.args.edges.now in
    let n = c.in-Some.next in
    let y : Edge = c.index-edges-next.result in
    let d : Edge = c.index-edges-next-in-loop-turn.result in
    let x : Edge = get_or es n d in
    let next : IsNext c.args.inner.now es c.loop-turn.to n = c.in-Some.ensures.next in
    let slice : c.as_slice-in-loop-turn.result.now ≡ (get_or es n y).ops = search rules in
    let grown : c.extend_from_slice.new.self.items ≡ c.loop-turn.ops.items ++ x.ops =
    c.in_ok-extend_from_slice.ensures.items ∙ ap (λ o. c.loop-turn.ops.items ++ o) (slice ∙ ap (λ (z : Edge). z.ops) (same_there es n y d next.0)) in
    let k = length es - (c.loop-turn._turn + 1) in
    let more : length es - c.loop-turn._turn ≡ suc k = omega (arith, c.loop-turn-test.true) in
    let at : slice_get es n ≡ Some x = there es n x next.0 (same_there es n d x next.0) in
    let step : made.follow (length es - c.loop-turn._turn) es c.args.inner.now c.args.links.now c.args.edge.now.from c.loop-turn.to c.loop-turn.ops.items
    ≡ made.follow k es c.args.inner.now c.args.links.now c.args.edge.now.from x.to (c.loop-turn.ops.items ++ x.ops) =
    follow-step es c.args.inner.now c.args.links.now c.args.edge.now.from c.loop-turn.to c.loop-turn.ops.items _ k n x more (sym c.in-Some.ensures.made) at in (
      turns c.args.inner.now es c.args.edge.now x c.loop-turn.ops.items c.extend_from_slice.new.self.items c.loop-turn.to n next (same_there es n d x next.0) grown
          c.loop-turn.invariant.0,
      ap (λ o. made.follow k es c.args.inner.now c.args.links.now c.args.edge.now.from x.to o) grown ∙ sym step ∙ c.loop-turn.invariant.1,
    )
