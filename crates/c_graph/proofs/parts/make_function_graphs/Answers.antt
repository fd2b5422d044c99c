use Rattle.std.proofs.Common.{refl, subst, length, rules}
use Rattle.std.proofs.lemmas.List.Elements.{All-more}
use Rattle.c_graph.specs.Functions.{IsFnFlow, FnFlow}
use Rattle.c_graph.proofs.Checking.{All-seen}
use Rattle.c_graph.proofs.parts.make_function_graphs.Goals as goal

pub loop-graph-preserved : goal.loop-graph-preserved
loop-graph-preserved c =
    let P : FnFlow → Type 0 = IsFnFlow (length c.args.graphs.now) c.args.terms.now in
    All-more P c.args.graphs.now c.loop-graph.graph-index c.graph-item.result c.loop-graph-test.true c.loop-graph.invariant
    (subst P c.graph-item.is (c.in_ok-is_function_graph.ensures.0 (search rules)))

pub returns : goal.returns
returns c = (
  λ _. record {
    each = All-seen (IsFnFlow (length c.args.graphs.now) c.args.terms.now) c.args.graphs.now c.loop-graph.graph-index c.loop-graph-test.false c.loop-graph.invariant;
    few_cells = search rules;
    cells = search rules;
    table = search rules;
    exits = c.if-not-return_at.ensures.count refl;
    returns = c.if-not-return_at.ensures.ends refl;
    main = search rules;
  },
  λ _. refl,
)
