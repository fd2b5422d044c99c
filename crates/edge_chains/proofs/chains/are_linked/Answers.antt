use Rattle.std.proofs.Common.{◌≡◌, ◌∙◌, arith, sym, true}
use Rattle.std.proofs.lemmas.List.{at_drop_all}
use Rattle.edge_chains.specs.Made as made
use Rattle.edge_chains.proofs.Telling.{linked-told}
use Rattle.edge_chains.proofs.chains.are_linked.Goals as goal

pub returns-clause-linked : goal.returns-clause-linked
returns-clause-linked c =
    let all : true ≡ made.are_linked c.args.inner.now c.args.links.now c.args.edges.now =
    sym (at_drop_all (made.linked_from c.args.inner.now c.args.links.now c.loop-number.number) c.args.edges.now c.loop-number.number (omega (arith, c.loop-number-test.false))) ∙ c.loop-number.invariant in
    λ t. linked-told c.args.inner.now c.args.links.now c.args.edges.now all
