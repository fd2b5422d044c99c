use Rattle.std.proofs.Common.{rules, ◌≡◌, ◌≤◌, get_or, length, refl, Some, slice_get, sym, subst, ap, ◌∙◌}
use Rattle.std.proofs.lemmas.Option.{slice_get-get_or}
use Rattle.c_graph.specs.declared.graph.Node.{Node}
use Rattle.c_graph.specs.declared.graph.Node.TheVariants.{Plain}
use Rattle.plan_tables.specs.Tables.{flag_at}
use Rattle.plan_tests.specs.Nodes.{AreWatched, IsWatched}
use Rattle.plan_tests.specs.Made as made
use Rattle.plan_tests.specs.Passes.{all_at}
use Rattle.plan_tests.proofs.Deciding.{at-end, first-more, first-not}
use Rattle.plan_tests.proofs.Passing.{all_passed, one_passed}
use Rattle.plan_tests.proofs.nodes.are_watched.Goals as goal

pub loop-number-preserved : goal.loop-number-preserved
loop-number-preserved c =
    let x : Node = get_or c.nodes-nodes.result.now c.loop-number.number Plain in
    let there : slice_get c.nodes-nodes.result.now c.loop-number.number ≡ Some x = slice_get-get_or c.nodes-nodes.result.now c.loop-number.number Plain c.loop-number-test.true in (
      one_passed c.nodes-nodes.result.now (λ k x. IsWatched x (flag_at c.args.known.now.alive k)) c.loop-number.number x there (c.if-not-is_watched.ensures.tells refl) c.loop-number.invariant.0,
      first-more (made.is_watched c.args.known.now) c.nodes-nodes.result.now c.loop-number.number x there (sym c.if-not-is_watched.ensures.made) c.loop-number.invariant.1,
    )

pub returns-then-not-is_watched-clause-made : goal.returns-then-not-is_watched-clause-made
returns-then-not-is_watched-clause-made c =
    let x : Node = get_or c.nodes-nodes.result.now c.loop-number.number Plain in
    let there : slice_get c.nodes-nodes.result.now c.loop-number.number ≡ Some x = slice_get-get_or c.nodes-nodes.result.now c.loop-number.number Plain c.loop-number-test.true in
    first-not (made.is_watched c.args.known.now) c.nodes-nodes.result.now c.loop-number.number x there (sym c.if-not-is_watched.ensures.made)
    ∙ ap (all_at (made.is_watched c.args.known.now) 0) c.nodes-nodes.ensures.value

pub returns-clause-tells : goal.returns-clause-tells
returns-clause-tells c y =
    let past : length c.nodes-nodes.result.now ≤ c.loop-number.number = search rules in
    let tells : AreWatched c.args.known.now c.nodes-nodes.result.now =
    all_passed c.nodes-nodes.result.now (λ k x. IsWatched x (flag_at c.args.known.now.alive k)) c.loop-number.number past c.loop-number.invariant.0 in
    subst (AreWatched c.args.known.now) c.nodes-nodes.ensures.value tells

pub returns-clause-made : goal.returns-clause-made
returns-clause-made c =
    let past : length c.nodes-nodes.result.now ≤ c.loop-number.number = search rules in
    at-end (made.is_watched c.args.known.now) 0 c.nodes-nodes.result.now c.loop-number.number past c.loop-number.invariant.1
    ∙ ap (all_at (made.is_watched c.args.known.now) 0) c.nodes-nodes.ensures.value
